-- The value of an OctetString that a caller sees.
use Rattle.std.specs.Prelude.{ℕ, List}
use Rattle.der_opaque.specs.declared.octet_string.OctetString.{OctetString}

-- the octets of the string
abbrev pub octets_of : OctetString → List ℕ
octets_of string = string.octets.items
