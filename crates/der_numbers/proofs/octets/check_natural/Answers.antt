use Rattle.std.proofs.Common.{◌≡◌, ◌<◌, false, length, slice_index, rules, sym, ◌∙◌, arith}
use Rattle.std.proofs.lemmas.Bool.Decides.{nat_tests}
use Rattle.der_elem.proofs.IntegerContents.{are_octets}
use Rattle.der_elem.specs.IntegerReading.{has_needless_zero}
use Rattle.der_numbers.specs.UnsignedLaws.{natural_or_fault-ok, natural_contents-read}
use Rattle.der_numbers.proofs.octets.check_natural.Goals as goal

pub returns-clause-ok : goal.returns-clause-ok
returns-clause-ok c =
    let octets = c.args.octets.now in
    let some : 0 < length octets = search rules in
    let small : slice_index octets 0 < 128 = grind (arith, nat_tests) in
    let least : has_needless_zero octets ≡ false = sym c.has_needless_zero.ensures ∙ c.if-has_needless_zero.false in
    (some, natural_contents-read octets (are_octets octets (search rules)) some small least, natural_or_fault-ok octets some small least)
