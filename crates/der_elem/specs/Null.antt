-- The contents octets of NULL, which has none (X.690 8.8).
use Rattle.std.proofs.Common.{◌≡◌, ℕ, List, [], ◌∷◌, true, Result, Ok, Err, refl, Decides}
use Rattle.der_tlv.specs.declared.error.ErrorKind.{ErrorKind}
use Rattle.der_tlv.specs.declared.error.ErrorKind.TheVariants as kinds
use Rattle.der_tlv.specs.declared.tag.Tag.TheVariants.{Null}
use Rattle.der_tlv.specs.declared.encoding_rules.EncodingRules.{EncodingRules}
use Rattle.der_tlv.specs.OctetFaults.{IsOfOctets}
use Rattle.der_elem.specs.Parsing.{ContentsParse}

-- the one value has no contents octets
abbrev pub null_contents : Unit {0} → List ℕ
null_contents _ = []

-- the error: any octet (7)
abbrev pub null_or_fault : List ℕ → Result (List ℕ) ErrorKind
null_or_fault [] = Ok []
null_or_fault (octet ∷ others) = Err (kinds.Length Null)

-- a parse of contents octets with this error, under all rules and at every position
abbrev pub parse_null : ContentsParse
parse_null rules p octets = null_or_fault octets

-- the result of reading contents octets: the one value if there are none, or the error
abbrev pub ReadsNull : List ℕ → Result (Unit {0}) ErrorKind → Type 0
ReadsNull octets (Ok _) = octets ≡ []
ReadsNull octets (Err kind) = null_or_fault octets ≡ Err kind

-- the errors are in the octets
pub null_of_octets : (rules : EncodingRules) (p : ℕ) (octets : List ℕ) → IsOfOctets (parse_null rules p octets)
null_of_octets rules p [] = tt
null_of_octets rules p (octet ∷ others) = refl

-- there is only one value
pub unit_eq_decides : (v w : Unit {0}) → Decides true (v ≡ w)
unit_eq_decides v w = (λ _. refl, λ _. refl)
