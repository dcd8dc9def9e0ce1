use Rattle.der_c.proofs.Within.{inner_within}
use Rattle.der_c.proofs.contents.der_extensions.Goals as goal

pub returns-clause-extensions : goal.returns-clause-extensions
returns-clause-extensions c = inner_within c.args.octets.now c.args.field.now c.der_items-list.result c.der_items.result c.der_items-list.ensures.items c.der_items.ensures.items
