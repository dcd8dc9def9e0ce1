use Rattle.std.proofs.Common.{◌≤◌, slice_index, rules, arith}
use Rattle.std.proofs.lemmas.Bool.Decides.{nat_tests}
use Rattle.der_elem.specs.Integer.{with_sign_octet}
use Rattle.der_numbers.specs.UnsignedLaws.{with_sign_octet-needed}
use Rattle.der_numbers.proofs.ContentsWriting.{first_refused, write_after}
use Rattle.der_numbers.proofs.octets.write_contents.Goals as goal

pub returns-in_err-write_byte : goal.returns-in_err-write_byte
returns-in_err-write_byte g c =
    let octets = c.args.octets.now in
    let high : 128 ≤ slice_index octets 0 = grind (arith, nat_tests) in
    let all = with_sign_octet-needed octets c.requires high in
    let refused = first_refused octets (with_sign_octet octets) _ _ _ all c.in_err-write_byte.ensures in
    search rules

pub returns : goal.returns
returns g c =
    let octets = c.args.octets.now in
    let high : 128 ≤ slice_index octets 0 = grind (arith, nat_tests) in
    let all = with_sign_octet-needed octets c.requires high in
    write_after octets (with_sign_octet octets) _ _ _ c.write-2.result all c.in_ok-write_byte.ensures c.write-2.ensures
