-- Named numbers (X.680 19.5, 20.2; X.690 8.4): the value of a number, and what contents octets are read as.
use Rattle.std.specs.Prelude.{◌≡◌, ℕ, ◌^◌, ◌||◌, ◌&&◌, nat_lt, if◌then◌else◌, List, [], ◌∷◌, length, Bool, true, ℤ, Option, Some, None, Result, Ok, Err}
use Rattle.std.specs.Int.Signed.{mag}
use Rattle.std.specs.Ordering.{int_eq}
use Rattle.der_tlv.specs.declared.error.ErrorKind.{ErrorKind}
use Rattle.der_tlv.specs.declared.error.ErrorKind.TheVariants as kinds
use Rattle.der_tlv.specs.declared.tag.Tag.{Tag}
use Rattle.der_elem.specs.Parsing.{ContentsParse}
use Rattle.der_elem.specs.Integer.{twos_complement, is_redundant}

-- the first of some values that has this number, if any
abbrev pub named : {E : Type 0} → (E → ℤ) → List E → ℤ → Option E
named number_of [] number = None
named number_of (value ∷ others) number = if int_eq number (number_of value) then Some value else named number_of others number

-- whether the number of each value is between -2^63 and 2^63 - 1
abbrev pub all_fit : {E : Type 0} → (E → ℤ) → List E → Bool
all_fit number_of [] = true
all_fit number_of (value ∷ others) = nat_lt (mag (number_of value)) (2 ^ 63) && all_fit number_of others

-- The names of numbers: the number of each value, and all of the values. A value is found by its number, so no two values have the same number.
pub record Names (E : Type 0) : Type 0 where
  pub number_of : E → ℤ
  pub values : List E
  pub is_found : (value : E) → named number_of values (number_of value) ≡ Some value
  pub fit : all_fit number_of values ≡ true

-- the contents octets of a value, or (13) if there is none
abbrev pub contents_if : {E : Type 0} → Tag → List ℕ → Option E → Result (List ℕ) ErrorKind
contents_if tag octets (Some value) = Ok octets
contents_if tag octets None = Err (kinds.Value tag)

-- for a type with a tag: no octets (7), more than eight (8), a redundant first octet (8), a number that no value has (13)
abbrev pub named_or_fault : {E : Type 0} → Tag → (E → ℤ) → List E → List ℕ → Result (List ℕ) ErrorKind
named_or_fault tag number_of values [] = Err (kinds.Length tag)
named_or_fault tag number_of values (first ∷ others) =
    if nat_lt 8 (length (first ∷ others)) || is_redundant (first ∷ others) then Err (kinds.Noncanonical tag)
    else contents_if tag (first ∷ others) (named number_of values (twos_complement (first ∷ others)))

-- parses the contents octets of a named number, under all rules and at every position
abbrev pub parse_named : {E : Type 0} → Tag → (E → ℤ) → List E → ContentsParse
parse_named tag number_of values rules p octets = named_or_fault tag number_of values octets
