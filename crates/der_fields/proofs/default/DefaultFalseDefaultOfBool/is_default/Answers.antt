use Rattle.der_tlv.specs.declared.tag.Tag.TheVariants.{Boolean}
use Rattle.der_fields.specs.DefaultLaws.{false_default}
use Rattle.der_fields.proofs.default.DefaultFalseDefaultOfBool.is_default.Goals as goal

pub returns : goal.returns
returns c = false_default Boolean c.args.value.now
