use Rattle.std.proofs.Common.{◌≡◌, take}
use Rattle.der_tlv.specs.TagDigits.{leading_octets}
use Rattle.der_c.proofs.subidentifiers.first_number.Given as goal

abbrev pub invariant-loop-index : goal.invariant-loop-index
invariant-loop-index l = take l.index l.octets ≡ leading_octets l.number
