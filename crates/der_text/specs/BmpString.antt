-- The octets of a BmpString.
use Rattle.std.specs.Prelude.{ℕ, List}
use Rattle.der_text.specs.declared.bmp_string.BmpString.{BmpString}

-- the octets of the units, two for each, high octet first
abbrev pub octets_of : BmpString → List ℕ
octets_of string = string.octets.items
