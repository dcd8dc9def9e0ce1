-- The attributes of a request that asks for extensions (RFC 2986 section 4.1, RFC 2985 section 5.4.2).
use Rattle.std.specs.Prelude.{ℕ, List, [], ◌∷◌}
use Rattle.der_asn1_types.specs.HeaderOctets.{tlv}
use Rattle.der_asn1_types.specs.Tag.TheVariants as tags
use Rattle.der_modules.specs.Asn1.{joined}

-- pkcs-9-at-extensionRequest: 1.2.840.113549.1.9.14
abbrev pub extension_request : List ℕ
extension_request = 42 ∷ 134 ∷ 72 ∷ 134 ∷ 247 ∷ 13 ∷ 1 ∷ 9 ∷ 14 ∷ []

-- Attribute whose only value is the extensions with this encoding
abbrev pub attribute_octets : List ℕ → List ℕ
attribute_octets extensions = tlv tags.Sequence (joined (tlv tags.ObjectIdentifier extension_request ∷ tlv tags.Set extensions ∷ []))

-- Attributes with only this attribute
abbrev pub attributes_octets : List ℕ → List ℕ
attributes_octets extensions = tlv tags.Set (attribute_octets extensions)
