use Rattle.std.proofs.Common.{rules}
use Rattle.der_tlv.specs.declared.encoding_rules.EncodingRules.TheVariants.{Der}
use Rattle.der_tlv.specs.declared.tag.Tag.TheVariants.{Integer}
use Rattle.der_elem.specs.Integer.{natural_contents, FitsUnsignedWidth}
use Rattle.der_elem.specs.IntegerReading.{parse_unsigned}
use Rattle.der_elem.specs.IntegerReadingLaws.{parse_unsigned-own}
use Rattle.der_opaque.proofs.OwnCarried.{own_decoded, own_not_decoded}
use Rattle.der_opaque.proofs.builtin.unsigned_as.Goals as goal

pub returns-in-Ok : goal.returns-in-Ok
returns-in-Ok c =
    own_decoded Integer natural_contents (FitsUnsignedWidth c.args.width) (parse_unsigned c.args.width) (λ v within. parse_unsigned-own c.args.width Der v 0 within) _ _ _ (search rules) (search rules)

pub returns-in-Err : goal.returns-in-Err
returns-in-Err c =
    own_not_decoded Integer natural_contents (FitsUnsignedWidth c.args.width) (parse_unsigned c.args.width) (λ v within. parse_unsigned-own c.args.width Der v 0 within) _ _ _ (search rules)
