-- The value of an ObjectIdentifierRef that a caller sees, and the octets that are read as one.
use Rattle.std.specs.Prelude.{ℕ, List, Result}
use Rattle.der_tlv.specs.declared.error.Error.{Error}
use Rattle.der_tlv.specs.declared.tag.Tag.{Tag}
use Rattle.der_opaque.specs.declared.object_identifier_ref.ObjectIdentifierRef.{ObjectIdentifierRef}
use Rattle.der_opaque.specs.ObjectIdentifierOctets.{FromAny}

-- the contents octets
abbrev pub octets_of : {max : ℕ} → ObjectIdentifierRef max → List ℕ
octets_of identifier = identifier.octets.now

-- the result of decoding contents octets after a tag as an OBJECT IDENTIFIER of at most `max` octets
abbrev pub DecodesIdentifier : (max : ℕ) → Tag → List ℕ → Result (ObjectIdentifierRef max) Error → Type 0
DecodesIdentifier max = FromAny max octets_of
