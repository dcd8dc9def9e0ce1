-- RELATIVE-OID: its arcs, each in base 128 (X.690 8.20).
use Rattle.std.specs.Prelude.{◌≡◌, ◌⊎◌, ℕ, ◌<◌, ◌≤◌, ◌^◌, ◌==◌, ◌&&◌, not, nat_le, nat_lt, Bool, true, false, if◌then◌else◌, List, [], ◌∷◌, length, Result, Ok, Err}
use Rattle.std.specs.List.{flat_map}
use Rattle.std.proofs.Common.{ap, ◌∙◌, refl}
use Rattle.der_tlv.specs.declared.error.ErrorKind.TheVariants as kinds
use Rattle.der_tlv.specs.declared.error.Error.{Error}
use Rattle.der_tlv.specs.declared.tag.Tag.TheVariants.{RelativeOid}
use Rattle.der_tlv.specs.declared.encoding_rules.EncodingRules.{EncodingRules}
use Rattle.der_tlv.specs.Identifier.{number_octets}
use Rattle.der_tlv.specs.OctetFaults.{IsOfOctets, of_octets_either}
use Rattle.der_elem.specs.Parsing.{ContentsParse}

-- whether octets are the rest of arcs, after the beginning of an arc or not: bit 8 is set in all octets of an arc
-- except the last, and no arc begins with 80, so each has the fewest octets (X.690 8.19.2)
unfoldable pub are_arcs_after : Bool → List ℕ → Bool
are_arcs_after true [] = false
are_arcs_after false [] = true
are_arcs_after true (octet ∷ octets) = are_arcs_after (nat_le 128 octet) octets
are_arcs_after false (octet ∷ octets) = not (octet == 128) && are_arcs_after (nat_le 128 octet) octets

-- whether octets are one or more arcs (X.680 32.3)
abbrev pub are_arcs : List ℕ → Bool
are_arcs octets = nat_lt 0 (length octets) && are_arcs_after false octets

-- the octets are those of the numbers of one or more arcs, each in base 128 with the fewest octets (X.690 8.20.2)
pub record IsArcs (octets : List ℕ) : Type 0 where
  pub first : ℕ
  pub others : List ℕ
  pub whole : octets ≡ flat_map number_octets (first ∷ others)

-- arcs are read unchanged; other octets are refused (13)
abbrev pub parse_arcs : ContentsParse
parse_arcs rules p octets = if are_arcs octets then Ok octets else Err (kinds.Value RelativeOid)

-- an identifier that keeps these octets, or an error (13) if they are no arcs, or more than a length can count
abbrev pub KeepsArcs : {T : Type 0} → (T → List ℕ) → List ℕ → Result T Error → Type 0
KeepsArcs contents octets (Ok v) = (contents v ≡ octets) × (are_arcs octets ≡ true) × (length octets < 2 ^ 32)
KeepsArcs contents octets (Err e) = (e.kind ≡ kinds.Value RelativeOid) × ((are_arcs octets ≡ false) ⊎ (2 ^ 32 ≤ length octets))

-- arcs are parsed unchanged
pub parse_of_arcs : (rules : EncodingRules) (p : ℕ) (octets c : List ℕ) → are_arcs octets ≡ true → c ≡ octets → parse_arcs rules p c ≡ Ok octets
parse_of_arcs rules p octets c all e = ap (parse_arcs rules p) e ∙ rw all refl

-- each error is an error in the octets
pub arcs_of_octets : (rules : EncodingRules) (p : ℕ) (octets : List ℕ) → IsOfOctets (parse_arcs rules p octets)
arcs_of_octets rules p octets = of_octets_either (are_arcs octets) (Ok octets) (Err (kinds.Value RelativeOid)) tt refl
