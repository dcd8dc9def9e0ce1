use Rattle.std.proofs.Common.{◌≡◌, ◌<◌, ◌^◌, length, slice_index, sym, ap, ◌∙◌, arith}
use Rattle.std.proofs.lemmas.Grind.{common_steps}
use Rattle.std.proofs.lemmas.Bool.Decides.{nat_tests}
use Rattle.der_elem.specs.Integer.{big_endian_number, with_sign_octet}
use Rattle.der_numbers.specs.AnyLengthLaws.{integer_contents-of_natural}
use Rattle.der_numbers.specs.UnsignedLaws.{with_sign_octet-none, sign_octet_length}
use Rattle.der_numbers.proofs.int.Int.from_uint.Goals as goal

pub invariant_of-result : goal.invariant_of-result
invariant_of-result c =
    let octets = c.args.number.octets.items in
    let small : slice_index octets 0 < 128 = grind (arith, nat_tests) in
    let own : octets ≡ with_sign_octet octets = sym (with_sign_octet-none octets c.args.number.some small) in
    record { some = c.args.number.some; fewest = integer_contents-of_natural (big_endian_number octets) octets (own ∙ c.args.number.fewest); short = c.args.number.short }

pub invariant_of-result-2 : goal.invariant_of-result-2
invariant_of-result-2 c =
    let octets = c.args.number.octets.items in
    let fits : length (with_sign_octet octets) < 2 ^ 32 = let told = c.in-Ok.ensures.1 in grind (arith, common_steps) in
    let written : c.finish.result.items ≡ with_sign_octet octets = grind (arith, common_steps) in
    record {
      some = omega (arith, ap length written, sign_octet_length octets, c.args.number.some);
      fewest = integer_contents-of_natural (big_endian_number octets) c.finish.result.items (written ∙ c.args.number.fewest);
      short = omega (arith, ap length written, fits);
    }
