-- Attributes with the text that RFC 5280 requires in them (section 4.1.2.4).
use Rattle.std.specs.Prelude.{◌≡◌, ◌⊎◌, ◌<◌, ◌≤◌, ◌^◌, ℕ, nat_le, List, [], ◌∷◌, length, Bool, true, false, ◌&&◌, ◌||◌, if◌then◌else◌}
use Rattle.der_tlv.specs.declared.error.ErrorKind.{ErrorKind}
use Rattle.der_tlv.specs.declared.error.ErrorKind.TheVariants as kinds
use Rattle.der_tlv.specs.declared.tag.Tag.{Tag}
use Rattle.der_tlv.specs.declared.tag.Tag.TheVariants as tags
use Rattle.der_tlv.specs.HeaderOctets.{tlv}
use Rattle.der_modules.specs.Asn1.{joined}
use Rattle.der_ascii.specs.Characters.{are_characters}
pub use Rattle.der_verify.specs.Bounds.{begins_character, character_count, domain_component, email_address, fewest, id_at, is, is_id_at, most}

-- the string that holds the text: a PrintableString for serialNumber (5), countryName (6) and dnQualifier (46), an IA5String for domainComponent and emailAddress (A.1), and a UTF8String for any other (4.1.2.4)
unfoldable pub string_tag : List ℕ → Tag
string_tag type =
    if is_id_at (5 ∷ 6 ∷ 46 ∷ []) type then tags.PrintableString
    else (if is domain_component type || is email_address type then tags.Ia5String
    else tags.Utf8String)

-- whether a string with this tag can hold the text, which is UTF-8
abbrev pub can_hold : Tag → List ℕ → Bool
can_hold tags.PrintableString text = are_characters 19 text
can_hold tags.Ia5String text = are_characters 22 text
can_hold _ text = true

-- whether the string of the attribute can hold the text, and the text has neither too few characters nor too many
unfoldable pub fits : List ℕ → List ℕ → Bool
fits type text = can_hold (string_tag type) text && (nat_le (fewest type) (character_count text) && nat_le (character_count text) (most type))

-- the reason why there is no such attribute: an identifier of no octets (15) or of more than 39 (7), a text of more octets than a length can count (7), or a text that does not fit (13)
abbrev pub RefusesText : List ℕ → List ℕ → ErrorKind → Type 0
RefusesText type text kind =
    ((kind ≡ kinds.OidMalformed) × (type ≡ []))
    ⊎ (((kind ≡ kinds.Length tags.ObjectIdentifier) × (39 < length type))
    ⊎ (((kind ≡ kinds.Length (string_tag type)) × (2 ^ 32 ≤ length text))
    ⊎ ((kind ≡ kinds.Value (string_tag type)) × (fits type text ≡ false))))

-- AttributeTypeAndValue: the type, and the text in its string
abbrev pub attribute_octets : List ℕ → List ℕ → List ℕ
attribute_octets type text = tlv tags.Sequence (joined (tlv tags.ObjectIdentifier type ∷ tlv (string_tag type) text ∷ []))
