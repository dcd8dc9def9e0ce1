-- The octets of a SimpleStringRef.
use Rattle.std.specs.Prelude.{ℕ, List}
use Rattle.der_simple.specs.declared.string_ref.SimpleStringRef.{SimpleStringRef}

-- the octets of the characters, one each
abbrev pub octets_of : {number : ℕ} → SimpleStringRef number → List ℕ
octets_of string = string.text.now
