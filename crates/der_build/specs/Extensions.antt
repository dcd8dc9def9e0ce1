-- Extensions that are built (RFC 5280 section 4.2).
use Rattle.std.specs.Prelude.{◌≡◌, ◌⊎◌, ◌<◌, ◌≤◌, ◌^◌, ℕ, List, [], ◌∷◌, length, Bool, false}
use Rattle.der_tlv.specs.declared.error.ErrorKind.{ErrorKind}
use Rattle.der_tlv.specs.declared.error.ErrorKind.TheVariants as kinds
use Rattle.der_tlv.specs.declared.tag.Tag.TheVariants as tags
use Rattle.der_tlv.specs.HeaderOctets.{tlv}
use Rattle.der_elem.specs.Boolean.{boolean_contents}
use Rattle.der_modules.specs.Asn1.{joined, unless_default}

-- `critical BOOLEAN DEFAULT FALSE`: 01 01 FF, or no octets (X.690 8.2.2, 11.1, 11.5)
abbrev pub critical_octets : Bool → List ℕ
critical_octets critical = unless_default (tlv tags.Boolean (boolean_contents false)) (tlv tags.Boolean (boolean_contents critical))

-- Extension: extnID, critical, and extnValue, an OCTET STRING that holds the encoding of the value
abbrev pub extension_octets : List ℕ → Bool → List ℕ → List ℕ
extension_octets identifier critical value =
    tlv tags.Sequence (joined (tlv tags.ObjectIdentifier identifier ∷ critical_octets critical ∷ tlv tags.OctetString value ∷ []))

-- the reason why there is no extension: an identifier of no octets (15) or of more than 39 (7), or a value of more octets than a length can count (7)
abbrev pub RefusesExtension : List ℕ → List ℕ → ErrorKind → Type 0
RefusesExtension identifier value kind =
    ((kind ≡ kinds.OidMalformed) × (identifier ≡ []))
    ⊎ (((kind ≡ kinds.Length tags.ObjectIdentifier) × (39 < length identifier))
    ⊎ ((kind ≡ kinds.Length tags.OctetString) × (2 ^ 32 ≤ length value)))
