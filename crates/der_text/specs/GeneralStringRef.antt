-- The octets of a GeneralStringRef.
use Rattle.std.specs.Prelude.{ℕ, List}
use Rattle.der_text.specs.declared.general_string.GeneralStringRef.{GeneralStringRef}

-- the octets of the string
abbrev pub octets_of : GeneralStringRef → List ℕ
octets_of string = string.octets.now
