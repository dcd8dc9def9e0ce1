use Rattle.std.proofs.Common.{◌≡◌, ◌<◌, false, length, rules, sym, ◌∙◌}
use Rattle.der_elem.proofs.IntegerContents.{are_octets}
use Rattle.der_elem.specs.Integer.{is_redundant}
use Rattle.der_numbers.specs.AnyLengthLaws.{integer_or_fault-ok, integer_contents-kept}
use Rattle.der_numbers.proofs.octets.check_integer.Goals as goal

pub returns-clause-ok : goal.returns-clause-ok
returns-clause-ok c =
    let octets = c.args.octets.now in
    let some : 0 < length octets = search rules in
    let needed : is_redundant octets ≡ false = sym c.is_redundant.ensures ∙ c.if-is_redundant.false in
    (some, integer_contents-kept octets (are_octets octets (search rules)) some needed, integer_or_fault-ok octets some needed)
