-- Names of one attribute in each part (RFC 5280 section 4.1.2.4).
use Rattle.std.specs.Prelude.{◌≡◌, ◌⊎◌, ◌≤◌, ◌^◌, ℕ, List, [], ◌∷◌, length, flat_map, false}
use Rattle.der_tlv.specs.declared.error.ErrorKind.{ErrorKind}
use Rattle.der_tlv.specs.declared.error.ErrorKind.TheVariants.{Memory, Overflow}
use Rattle.der_tlv.specs.declared.tag.Tag.TheVariants as tags
use Rattle.der_tlv.specs.HeaderOctets.{tlv}
use Rattle.der_elem.specs.Encoding.{NoVector}
use Rattle.der_build.specs.declared.attributes.TextAttribute.{TextAttribute}
use Rattle.der_build.specs.Attributes.{attribute_octets, RefusesText}

-- RelativeDistinguishedName, a SET OF one attribute
abbrev pub part_octets : TextAttribute → List ℕ
part_octets a = tlv tags.Set (attribute_octets a.type_.now a.text.now)

-- Name, a SEQUENCE OF parts
abbrev pub name_octets : List TextAttribute → List ℕ
name_octets attributes = tlv tags.Sequence (flat_map part_octets attributes)

-- one of the attributes cannot be made, for this reason
abbrev pub RefusesOne : ErrorKind → List TextAttribute → Type 0
RefusesOne kind [] = ⊥
RefusesOne kind (a ∷ others) = RefusesText a.type_.now a.text.now kind ⊎ RefusesOne kind others

-- the reason why there is no part: its attribute cannot be made, or its encoding cannot be written to memory
abbrev pub RefusesPart : TextAttribute → ErrorKind → Type 0
RefusesPart a kind = RefusesText a.type_.now a.text.now kind ⊎ NoVector (attribute_octets a.type_.now a.text.now) false kind

-- the reason why there is no name: memory ran out (1), it has more octets than a length can count (9), or one of its attributes cannot be made
abbrev pub RefusesName : List TextAttribute → ErrorKind → Type 0
RefusesName attributes kind =
    (kind ≡ Memory)
    ⊎ (((kind ≡ Overflow) × (2 ^ 32 ≤ length (name_octets attributes)))
    ⊎ RefusesOne kind attributes)
