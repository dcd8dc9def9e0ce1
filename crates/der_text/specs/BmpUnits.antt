-- BMPString: each character is a unit of 16 bits, high octet first (X.690 8.23).
use Rattle.std.specs.Prelude.{◌≡◌, ◌⊎◌, ℕ, ◌+◌, ◌*◌, ◌%◌, ◌==◌, ◌<◌, ◌≤◌, ◌^◌, nat_lt, Bool, true, false, if◌then◌else◌, List, [], ◌∷◌, length, chars, Result, Ok, Err}
use Rattle.std.proofs.Common.{ap, ◌∙◌, refl}
use Rattle.std.specs.List.{list_all}
use Rattle.std.specs.Str.{all_scalars}
use Rattle.der_tlv.specs.declared.error.ErrorKind.{ErrorKind}
use Rattle.der_tlv.specs.declared.error.ErrorKind.TheVariants as kinds
use Rattle.der_tlv.specs.declared.error.Error.{Error}
use Rattle.der_tlv.specs.declared.tag.Tag.TheVariants.{BmpString}
use Rattle.der_tlv.specs.declared.encoding_rules.EncodingRules.{EncodingRules}
use Rattle.der_tlv.specs.OctetFaults.{IsOfOctets, of_octets_either}
use Rattle.der_elem.specs.Parsing.{ContentsParse}

-- the units in octets, high octet first; an odd octet at the end is no unit
abbrev pub units : List ℕ → List ℕ
units [] = []
units (octet ∷ []) = []
units (high ∷ low ∷ octets) = (high * 256 + low) ∷ units octets

-- whether each unit is the code of a character: a unit of 16 bits outside D800 to DFFF
abbrev pub are_bmp_characters : List ℕ → Bool
are_bmp_characters octets = all_scalars (units octets)

-- an even number of octets whose units are characters is read unchanged; other octets are refused (7), (13)
abbrev pub parse_bmp : ContentsParse
parse_bmp rules p octets =
    if length octets % 2 == 0 then (if are_bmp_characters octets then Ok octets else Err (kinds.Value BmpString))
    else Err (kinds.Length BmpString)

-- a string that keeps these octets, or an error: (7) for an odd number, (13) for a unit that is no character, (9) for more octets than a length can count
abbrev pub KeepsUnits : {T : Type 0} → (T → List ℕ) → List ℕ → Result T Error → Type 0
KeepsUnits contents octets (Ok v) = (contents v ≡ octets) × (length octets % 2 ≡ 0) × (are_bmp_characters octets ≡ true) × (length octets < 2 ^ 32)
KeepsUnits contents octets (Err e) =
    ((e.kind ≡ kinds.Length BmpString) × (length octets % 2 ≡ 1))
    ⊎ (((e.kind ≡ kinds.Value BmpString) × (length octets % 2 ≡ 0) × (are_bmp_characters octets ≡ false))
    ⊎ ((e.kind ≡ kinds.Overflow) × (length octets % 2 ≡ 0) × (are_bmp_characters octets ≡ true) × (2 ^ 32 ≤ length octets)))

-- whether each character of a text is one of the Basic Multilingual Plane, 0 to FFFF
abbrev pub is_basic : List ℕ → Bool
is_basic text = list_all (λ c. nat_lt c 65536) (chars text)

-- each character of a text has a unit, and a length can count their octets
abbrev pub HasUnits : List ℕ → Type 0
HasUnits text = (is_basic text ≡ true) × (2 * length (chars text) < 2 ^ 32)

-- the reason why a text has no such units: (13) for a character above FFFF, or (9) for more octets
abbrev pub NoUnits : List ℕ → ErrorKind → Type 0
NoUnits text kind =
    ((kind ≡ kinds.Value BmpString) × (is_basic text ≡ false))
    ⊎ ((kind ≡ kinds.Overflow) × (is_basic text ≡ true) × (2 ^ 32 ≤ 2 * length (chars text)))

-- a string whose units are the characters of a text, or an error: the reason why it has no such units, or (1) for a text that has them
abbrev pub KeepsCharacters : {T : Type 0} → (T → List ℕ) → List ℕ → Result T Error → Type 0
KeepsCharacters contents text (Ok v) = (units (contents v) ≡ chars text) × HasUnits text
KeepsCharacters contents text (Err e) = ((e.kind ≡ kinds.Memory) × HasUnits text) ⊎ NoUnits text e.kind

-- such octets are parsed unchanged
pub parse_of_units : (rules : EncodingRules) (p : ℕ) (octets c : List ℕ) → length octets % 2 ≡ 0 → are_bmp_characters octets ≡ true → c ≡ octets → parse_bmp rules p c ≡ Ok octets
parse_of_units rules p octets c even all e = ap (parse_bmp rules p) e ∙ rw (even, all) refl

-- each error is an error in the octets
pub units_of_octets : (rules : EncodingRules) (p : ℕ) (octets : List ℕ) → IsOfOctets (parse_bmp rules p octets)
units_of_octets rules p octets =
    of_octets_either (length octets % 2 == 0) _ _ (of_octets_either (are_bmp_characters octets) (Ok octets) (Err (kinds.Value BmpString)) tt refl) refl
