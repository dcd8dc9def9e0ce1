-- The octets of a CharacterStringRef, and the octets that are read as one.
use Rattle.std.specs.Prelude.{ℕ, List, Result}
use Rattle.der_tlv.specs.declared.error.Error.{Error}
use Rattle.der_tlv.specs.declared.tag.Tag.{Tag}
use Rattle.der_opaque.specs.DecodingAs.{DecodesOwnAs}
use Rattle.der_ascii.specs.declared.string_ref.CharacterStringRef.{CharacterStringRef}
use Rattle.der_ascii.specs.Characters.{string_tag, parse_string}

-- the octets of the characters, one each
abbrev pub octets_of : {number : ℕ} → CharacterStringRef number → List ℕ
octets_of string = string.text.now

-- the results of decoding contents octets after a tag as characters of the type with a universal number
abbrev pub DecodesCharacters : (number : ℕ) → Tag → List ℕ → Result (CharacterStringRef number) Error → Type 0
DecodesCharacters number = DecodesOwnAs (string_tag number) octets_of (λ string. Unit {0}) (parse_string number)
