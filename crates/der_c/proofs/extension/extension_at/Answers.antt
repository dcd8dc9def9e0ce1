use Rattle.std.proofs.Common.{lit<}
use Rattle.der_tlv.specs.declared.tag.Tag.TheVariants as tags
use Rattle.der_c.proofs.extension.extension_at.Goals as goal

pub returns-clause-fields : goal.returns-clause-fields
returns-clause-fields c own read = c.places_of.ensures tags.Sequence own (lit< tt) read.accepted read.stands
