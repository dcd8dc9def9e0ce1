-- Values that are made from numbers and from octets, and why there is none.
use Rattle.std.specs.Prelude.{◌≡◌, ◌⊎◌, ℕ, ◌<◌, ◌≤◌, ◌^◌, List, [], ◌∷◌, length, Ok, Err}
use Rattle.der_tlv.specs.declared.error.ErrorKind.{ErrorKind}
use Rattle.der_tlv.specs.declared.error.ErrorKind.TheVariants as kinds
use Rattle.der_tlv.specs.declared.tag.Tag.{Tag}
use Rattle.der_tlv.specs.declared.tag.Tag.TheVariants as tags
use Rattle.der_tlv.specs.HeaderReading.{read_tag}
use Rattle.der_tlv.specs.Identifier.{identifier}
use Rattle.der_bits.specs.BitString.{bit}
use Rattle.der_elem.specs.Integer.{big_endian_number, natural_contents}
use Rattle.der_numbers.specs.AnyLength.{without_sign_octet}
use Rattle.der_c.specs.Building.{IsOfKind}
use Rattle.der_c.specs.declared.fault.Fault.{Fault}

-- one identifier octet is read as the tag (X.690 8.1.2)
abbrev pub IsTagOf : ℕ → Tag → Type 0
IsTagOf octet tag = read_tag 0 (octet ∷ []) ≡ Ok (length (identifier tag), tag)

-- a number that is no octet (6), or an octet that is not the identifier of a tag, with the reason
abbrev pub IsNoTag : ℕ → Fault → Type 0
IsNoTag octet fault =
    ((255 < octet) × IsOfKind kinds.TagNumberInvalid fault)
    ⊎ ((kind : ErrorKind) × (read_tag 0 (octet ∷ []) ≡ Err kind) × IsOfKind kind fault)

-- 7: more octets than a length can count
abbrev pub IsTooMany : Tag → List ℕ → Fault → Type 0
IsTooMany tag octets fault = (2 ^ 32 ≤ length octets) × IsOfKind (kinds.Length tag) fault

-- contents octets have the bits of these octets, the highest of the first octet first; a bit past the end is 0
abbrev pub HasBits : List ℕ → List ℕ → Type 0
HasBits octets contents = (place : ℕ) → bit contents place ≡ bit (0 ∷ octets) place

-- the contents octets of the number with these octets, most significant first (X.690 8.3)
abbrev pub IsNatural : List ℕ → List ℕ → Type 0
IsNatural octets contents = contents ≡ natural_contents (big_endian_number octets)

-- 7: no octets, or a number of more octets than a length can count
abbrev pub IsNotNatural : List ℕ → Fault → Type 0
IsNotNatural octets fault =
    ((octets ≡ []) ⊎ (2 ^ 32 ≤ length (without_sign_octet (natural_contents (big_endian_number octets))))) × IsOfKind (kinds.Length tags.Integer) fault
