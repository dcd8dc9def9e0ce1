use Rattle.std.proofs.Common.{take}
use Rattle.std.specs.List.{flat_map}
use Rattle.der_c.specs.AttributeText.{hex_pair}
use Rattle.der_c.specs.RoomText.{Puts}
use Rattle.der_c.proofs.attribute_text.put_pairs.Given as goal

abbrev pub invariant-loop-octet : goal.invariant-loop-octet
invariant-loop-octet l = Puts (flat_map hex_pair (take l.octet-index l.octets)) l.fn.room l.position l.room l.next
