-- The contents octets of BOOLEAN, and the value that octets are read as (X.690 8.2, 11.1).
use Rattle.std.proofs.Common.{◌≡◌, ℕ, List, [], ◌∷◌, Bool, true, false, ◌||◌, ◌==◌, if◌then◌else◌, Result, Ok, Err, refl}
use Rattle.std.specs.Ordering.{bool_cmp}
use Rattle.der_tlv.specs.declared.error.ErrorKind.{ErrorKind}
use Rattle.der_tlv.specs.declared.error.ErrorKind.TheVariants as kinds
use Rattle.der_tlv.specs.declared.tag.Tag.TheVariants.{Boolean}
use Rattle.der_tlv.specs.declared.encoding_rules.EncodingRules.{EncodingRules}
use Rattle.der_tlv.specs.OctetFaults.{IsOfOctets, of_octets_either}
use Rattle.der_tlv.specs.Octets.{lex}
use Rattle.der_elem.specs.Parsing.{ContentsParse}

-- one octet: all bits zero for false, all bits one for true
abbrev pub boolean_contents : Bool → List ℕ
boolean_contents false = 0 ∷ []
boolean_contents true = 255 ∷ []

-- the errors: not one octet (7), an octet other than those two (8)
abbrev pub boolean_or_fault : List ℕ → Result (List ℕ) ErrorKind
boolean_or_fault [] = Err (kinds.Length Boolean)
boolean_or_fault (octet ∷ []) = if octet == 0 || octet == 255 then Ok (octet ∷ []) else Err (kinds.Noncanonical Boolean)
boolean_or_fault (octet ∷ second ∷ others) = Err (kinds.Length Boolean)

-- a parse of contents octets with these errors, under all rules and at every position
abbrev pub parse_boolean : ContentsParse
parse_boolean rules p octets = boolean_or_fault octets

-- the result of reading contents octets: the value whose contents octets they are, or the error
abbrev pub ReadsBoolean : List ℕ → Result Bool ErrorKind → Type 0
ReadsBoolean octets (Ok truth) = octets ≡ boolean_contents truth
ReadsBoolean octets (Err kind) = boolean_or_fault octets ≡ Err kind

-- the contents octets of a value are read
pub parse_boolean-own : (rules : EncodingRules) (v : Bool) (p : ℕ) → parse_boolean rules p (boolean_contents v) ≡ Ok (boolean_contents v)
parse_boolean-own rules false p = refl
parse_boolean-own rules true p = refl

-- the errors are in the octets
pub boolean_of_octets : (rules : EncodingRules) (p : ℕ) (octets : List ℕ) → IsOfOctets (parse_boolean rules p octets)
boolean_of_octets rules p [] = refl
boolean_of_octets rules p (octet ∷ []) = of_octets_either (octet == 0 || octet == 255) (Ok (octet ∷ [])) (Err (kinds.Noncanonical Boolean)) tt refl
boolean_of_octets rules p (octet ∷ second ∷ others) = refl

-- no two values have the same contents octets
pub boolean_contents-injective : (v w : Bool) → boolean_contents v ≡ boolean_contents w → v ≡ w
boolean_contents-injective false false e = refl
boolean_contents-injective false true e = cc
boolean_contents-injective true false e = cc
boolean_contents-injective true true e = refl

-- false is before true in both orders
pub bool_cmp-lex : (v w : Bool) → bool_cmp v w ≡ lex (boolean_contents v) (boolean_contents w)
bool_cmp-lex false false = refl
bool_cmp-lex false true = refl
bool_cmp-lex true false = refl
bool_cmp-lex true true = refl
