use Rattle.std.proofs.Common.{rules}
use Rattle.der_tlv.specs.declared.encoding_rules.EncodingRules.TheVariants.{Der}
use Rattle.der_tlv.specs.declared.tag.Tag.TheVariants.{Integer}
use Rattle.der_elem.specs.Integer.{integer_contents, FitsSignedWidth}
use Rattle.der_elem.specs.IntegerReading.{parse_signed}
use Rattle.der_elem.specs.IntegerReadingLaws.{parse_signed-own}
use Rattle.der_opaque.proofs.OwnCarried.{own_decoded, own_not_decoded}
use Rattle.der_opaque.proofs.builtin.signed_as.Goals as goal

pub returns-in-Ok : goal.returns-in-Ok
returns-in-Ok c =
    own_decoded Integer integer_contents (FitsSignedWidth c.args.width) (parse_signed c.args.width) (λ v within. parse_signed-own c.args.width c.requires.some Der v 0 within) _ _ _ (search rules) (search rules)

pub returns-in-Err : goal.returns-in-Err
returns-in-Err c =
    own_not_decoded Integer integer_contents (FitsSignedWidth c.args.width) (parse_signed c.args.width) (λ v within. parse_signed-own c.args.width c.requires.some Der v 0 within) _ _ _ (search rules)
