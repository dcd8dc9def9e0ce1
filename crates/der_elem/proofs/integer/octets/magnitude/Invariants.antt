use Rattle.std.proofs.Common.{◌≡◌, take}
use Rattle.der_elem.specs.Integer.{big_endian_number, complement_octets_if}
use Rattle.der_elem.proofs.integer.octets.magnitude.Given as goal

abbrev pub invariant-loop-octet : goal.invariant-loop-octet
invariant-loop-octet l = l.number ≡ big_endian_number (take l.octet-index (complement_octets_if l.negative l.bytes))
