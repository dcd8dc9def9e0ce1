-- The octets of a CharacterString.
use Rattle.std.specs.Prelude.{ℕ, List}
use Rattle.std.specs.String.{string_bytes}
use Rattle.der_ascii.specs.declared.string.CharacterString.{CharacterString}

-- the octets of the characters, one each
abbrev pub octets_of : {number : ℕ} → CharacterString number → List ℕ
octets_of string = string_bytes string.text
