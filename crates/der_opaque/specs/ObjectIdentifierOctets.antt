-- The contents octets of an OBJECT IDENTIFIER, which are not split into arcs.
use Rattle.std.proofs.Common.{◌≡◌, ◌≢◌, ◌⊎◌, Some, ℕ, ◌<◌, ◌≤◌, nat_lt, List, [], ◌∷◌, length, take, if◌then◌else◌, false, Ok, Err, Result, refl, ap, ◌∙◌, arith}
use Rattle.std.proofs.lemmas.List.{length-take}
use Rattle.std.proofs.lemmas.Bool.Decides.{nat_tests}
use Rattle.der_tlv.specs.declared.error.ErrorKind.{ErrorKind}
use Rattle.der_tlv.specs.declared.error.ErrorKind.TheVariants as kinds
use Rattle.der_tlv.specs.declared.error.Error.{Error}
use Rattle.der_tlv.specs.declared.tag.Tag.{Tag}
use Rattle.der_tlv.specs.declared.tag.Tag.TheVariants.{ObjectIdentifier}
use Rattle.der_tlv.specs.declared.encoding_rules.EncodingRules.{EncodingRules}
use Rattle.der_tlv.specs.OctetFaults.{IsOfOctets, of_octets_either}
use Rattle.der_elem.specs.Parsing.{ContentsParse}

-- the octets if there is at least one (X.690 8.19.2), else (15)
abbrev pub some_octets : List ℕ → Result (List ℕ) ErrorKind
some_octets [] = Err kinds.OidMalformed
some_octets (octet ∷ others) = Ok (octet ∷ others)

-- at most `max` octets (7), and at least one (15)
abbrev pub parse_identifier : ℕ → ContentsParse
parse_identifier max rules p c = if nat_lt max (length c) then Err (kinds.Length ObjectIdentifier) else some_octets c

-- the errors are errors of the octets
some_of_octets : (c : List ℕ) → IsOfOctets (some_octets c)
some_of_octets [] = refl
some_of_octets (octet ∷ others) = tt

pub identifier_of_octets : (max : ℕ) (rules : EncodingRules) (p : ℕ) (c : List ℕ) → IsOfOctets (parse_identifier max rules p c)
identifier_of_octets max rules p c = of_octets_either (nat_lt max (length c)) _ _ refl (some_of_octets c)

pub kept_length : (max count : ℕ) (octets : List ℕ) → count ≤ max → length octets ≡ max → length (take count octets) ≡ count
kept_length max count octets fits full = omega (arith, length-take count octets)

some_are : (c : List ℕ) → 0 < length c → some_octets c ≡ Ok c
some_are [] h = absurd (omega arith)
some_are (octet ∷ others) h = refl

-- at least one octet, and at most `max`, are parsed as they are
pub parse_identifier-within : (max : ℕ) (c : List ℕ) (rules : EncodingRules) (p : ℕ) → 0 < length c → length c ≤ max → parse_identifier max rules p c ≡ Ok c
parse_identifier-within max c rules p some fits =
    let short : nat_lt max (length c) ≡ false = grind (arith, nat_tests) in rw short (some_are c some)

-- the octets at the front of an array are parsed as they are
pub parse_identifier-kept : (max count : ℕ) (octets c : List ℕ) (rules : EncodingRules) (p : ℕ) → 0 < count → count ≤ max → length octets ≡ max → c ≡ take count octets → parse_identifier max rules p c ≡ Ok (take count octets)
parse_identifier-kept max count octets c rules p some fits full e =
    let l : length c ≡ count = ap length e ∙ kept_length max count octets fits full in
    parse_identifier-within max c rules p (omega arith) (omega arith) ∙ ap Ok e

-- The result for a tag and octets: an identifier with the octets, or (4) for another tag, (15) for no octets, (7) for more than `max`.
abbrev pub FromAny : {T : Type 0} → ℕ → (T → List ℕ) → Tag → List ℕ → Result T Error → Type 0
FromAny max contents t octets (Ok v) = (t ≡ ObjectIdentifier) × (contents v ≡ octets)
FromAny max contents t octets (Err e) =
    ((t ≢ ObjectIdentifier) × (e.kind ≡ kinds.TagUnexpected (Some ObjectIdentifier) t)) ⊎ ((t ≡ ObjectIdentifier) × (octets ≡ []) × (e.kind ≡ kinds.OidMalformed)) ⊎ ((t ≡ ObjectIdentifier) × (max < length octets) × (e.kind ≡ kinds.Length ObjectIdentifier))
