use Rattle.std.proofs.Common.{◌≡◌, ◌≤◌, length, rules, sym, ap, ◌∙◌, arith}
use Rattle.std.proofs.lemmas.Grind.{common_steps}
use Rattle.der_elem.specs.Integer.{big_endian_number, with_sign_octet, natural_contents}
use Rattle.der_elem.specs.IntegerLaws.{natural_contents-some, natural_contents-octets_le, number_natural_contents}
use Rattle.der_numbers.specs.AnyLength.{has_leading_zero}
use Rattle.der_numbers.specs.UnsignedLaws.{sign_octet_length}
use Rattle.der_numbers.proofs.machine.uint_from.Goals as goal

pub contents_in-requires-clause-short : goal.contents_in-requires-clause-short
contents_in-requires-clause-short c = omega (arith, natural_contents-octets_le c.args.number 16 (search rules))

pub strip_zeros-octets-requires : goal.strip_zeros-octets-requires
strip_zeros-octets-requires c = omega (arith, ap length c.contents_in.ensures, natural_contents-some c.args.number)

pub invariant_of-result : goal.invariant_of-result
invariant_of-result c =
    let stripped = c.strip_zeros-octets in
    let octets = c.in-Ok.octets.items in
    let kept : octets ≡ stripped.result.now = grind (arith, common_steps) in
    let all : with_sign_octet octets ≡ natural_contents c.args.number = ap with_sign_octet kept ∙ stripped.ensures.contents ∙ ap (λ o. natural_contents (big_endian_number o)) c.contents_in.ensures ∙ ap natural_contents (number_natural_contents c.args.number) in
    let within : length (natural_contents c.args.number) ≤ 17 = omega (arith, natural_contents-octets_le c.args.number 16 (search rules)) in
    record {
      some = omega (arith, ap length kept, stripped.ensures.some);
      stripped = ap has_leading_zero kept ∙ stripped.ensures.stripped;
      fewest = ap with_sign_octet kept ∙ stripped.ensures.fewest ∙ sym (ap (λ o. natural_contents (big_endian_number o)) kept);
      short = omega (arith, ap length all, within, sign_octet_length octets);
    }

pub returns-in-Ok : goal.returns-in-Ok
returns-in-Ok c =
    let stripped = c.strip_zeros-octets in
    let kept : c.in-Ok.octets.items ≡ stripped.result.now = grind (arith, common_steps) in
    ap with_sign_octet kept ∙ stripped.ensures.contents ∙ ap (λ o. natural_contents (big_endian_number o)) c.contents_in.ensures ∙ ap natural_contents (number_natural_contents c.args.number)
