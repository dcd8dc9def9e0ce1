use Rattle.der_tlv.specs.declared.tag.Tag.TheVariants.{Integer}
use Rattle.der_fields.specs.DefaultLaws.{number_default}
use Rattle.der_fields.proofs.default.DefaultNumberDefaultOfU8.is_default.Goals as goal

pub returns : goal.returns
returns g c = number_default Integer g.row.NUMBER c.args.value.now
