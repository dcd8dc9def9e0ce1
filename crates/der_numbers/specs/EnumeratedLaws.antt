-- The laws of named numbers.
use Rattle.std.proofs.Common.{◌≡◌, refl, sym, ap, subst, ◌∙◌, arith, ℕ, ◌<◌, ◌≤◌, ◌^◌, ◌||◌, nat_lt, if◌then◌else◌, List, [], ◌∷◌, length, Bool, true, false, ℤ, Option, Some, None, Ok, Err, IsTrue, ◌↔◌}
use Rattle.std.specs.Int.Signed.{mag}
use Rattle.std.specs.Ordering.{int_eq}
use Rattle.std.proofs.lemmas.Bool.{and_parts}
use Rattle.std.proofs.lemmas.Bool.Decides.{nat_tests, Decides-int_eq}
use Rattle.der_tlv.specs.declared.encoding_rules.EncodingRules.{EncodingRules}
use Rattle.der_tlv.specs.OctetFaults.{IsOfOctets, of_octets_either}
use Rattle.der_tlv.specs.declared.error.ErrorKind.TheVariants as kinds
use Rattle.der_tlv.specs.declared.tag.Tag.{Tag}
use Rattle.der_elem.specs.Integer.{integer_contents, twos_complement, is_redundant, FitsSignedWidth}
use Rattle.der_elem.specs.IntegerLaws.{integer_contents-injective, twos_complement_integer_contents, integer_contents-some, integer_contents-needed, integer_contents-length_le_width}
use Rattle.der_numbers.specs.Enumerated.{Names, named, all_fit, contents_if, named_or_fault, parse_named}

-- the value that is found is the first or among the others
if_found : {E : Type 0} (P : E → Type 0) (b : Bool) (first value : E) (others : Option E) → (b ≡ true → P first) → (others ≡ Some value → P value) → (if b then Some first else others) ≡ Some value → P value
if_found P true first value others here later e =
    let same : first ≡ value = cc in
    subst P same (here refl)
if_found P false first value others here later e = later e

module _ {E : Type 0} (number_of : E → ℤ) where
  -- a value that is found has the number
  pub named-number : (values : List E) (number : ℤ) (value : E) → named number_of values number ≡ Some value → number_of value ≡ number
  named-number [] number value e = absurd (cc)
  named-number (first ∷ others) number value e =
      if_found (λ v. number_of v ≡ number) (int_eq number (number_of first)) first value (named number_of others number) (λ h. sym ((Decides-int_eq number (number_of first)).0 h)) (named-number others number value) e

  -- the number of a value that is found fits in eight octets, if all numbers do
  pub found-fits : (values : List E) (number : ℤ) (value : E) → all_fit number_of values ≡ true → named number_of values number ≡ Some value → FitsSignedWidth 8 (number_of value)
  found-fits [] number value fit e = absurd (cc)
  found-fits (first ∷ others) number value fit e =
      let parts = and_parts (nat_lt (mag (number_of first)) (2 ^ 63)) (all_fit number_of others) fit in
      let here : mag (number_of first) < 2 ^ 63 = grind (arith, nat_tests) in
      if_found (λ v. FitsSignedWidth 8 (number_of v)) (int_eq number (number_of first)) first value (named number_of others number) (λ h. here) (found-fits others number value parts.1) e

-- octets with none of the errors are the contents octets of the value with their number
named_or_fault-ok : {E : Type 0} (tag : Tag) (number_of : E → ℤ) (values : List E) (value : E) (octets : List ℕ) → 0 < length octets → length octets ≤ 8 → is_redundant octets ≡ false → named number_of values (twos_complement octets) ≡ Some value → named_or_fault tag number_of values octets ≡ Ok octets
named_or_fault-ok tag number_of values value [] some within needed found = absurd (omega arith)
named_or_fault-ok tag number_of values value (first ∷ others) some within needed found =
    let few : nat_lt 8 (length (first ∷ others)) ≡ false = grind (arith, nat_tests) in
    rw (few, needed, found) refl

-- if no value has their number, the error is (13)
named_or_fault-value : {E : Type 0} (tag : Tag) (number_of : E → ℤ) (values : List E) (octets : List ℕ) → 0 < length octets → length octets ≤ 8 → is_redundant octets ≡ false → named number_of values (twos_complement octets) ≡ None → named_or_fault tag number_of values octets ≡ Err (kinds.Value tag)
named_or_fault-value tag number_of values [] some within needed none = absurd (omega arith)
named_or_fault-value tag number_of values (first ∷ others) some within needed none =
    let few : nat_lt 8 (length (first ∷ others)) ≡ false = grind (arith, nat_tests) in
    rw (few, needed, none) refl

-- the contents octets of a value are read
pub named-own : {E : Type 0} (tag : Tag) (names : Names E) (value : E) (rules : EncodingRules) (p : ℕ) → parse_named tag names.number_of names.values rules p (integer_contents (names.number_of value)) ≡ Ok (integer_contents (names.number_of value))
named-own tag names value rules p =
    let number = names.number_of value in
    let found = names.is_found value in
    let fits = found-fits names.number_of names.values number value names.fit found in
    named_or_fault-ok tag names.number_of names.values value (integer_contents number) (integer_contents-some number) (integer_contents-length_le_width 8 number (omega arith) fits) (integer_contents-needed number) (ap (named names.number_of names.values) (twos_complement_integer_contents number) ∙ found)

module _ {E : Type 0} (tag : Tag) (number_of : E → ℤ) (values : List E) (octets : List ℕ) (number : ℤ) (own : octets ≡ integer_contents number) (fits : FitsSignedWidth 8 number) where
  some : 0 < length octets
  some = rw own (integer_contents-some number)

  within : length octets ≤ 8
  within = rw own (integer_contents-length_le_width 8 number (omega arith) fits)

  needed : is_redundant octets ≡ false
  needed = rw own (integer_contents-needed number)

  is_number : twos_complement octets ≡ number
  is_number = ap twos_complement own ∙ twos_complement_integer_contents number

  -- the contents octets of a number with a name are those of the value that is found, and are read
  pub named-some : (value : E) → named number_of values number ≡ Some value → (integer_contents (number_of value) ≡ octets) × (named_or_fault tag number_of values octets ≡ Ok octets)
  named-some value found =
      (ap integer_contents (named-number number_of values number value found) ∙ sym own, named_or_fault-ok tag number_of values value octets some within needed (ap (named number_of values) is_number ∙ found))

  -- the contents octets of a number without a name are refused
  pub named-none : named number_of values number ≡ None → named_or_fault tag number_of values octets ≡ Err (kinds.Value tag)
  named-none none = named_or_fault-value tag number_of values octets some within needed (ap (named number_of values) is_number ∙ none)

-- numbers are equal exactly if their contents octets are
pub numbers_decide : (number other : ℤ) → (IsTrue (int_eq number other) ↔ (integer_contents number ≡ integer_contents other))
numbers_decide number other = (λ e. ap integer_contents ((Decides-int_eq number other).0 e), λ e. (Decides-int_eq number other).1 (integer_contents-injective number other e))

-- the errors are errors of the octets
if_of_octets : {E : Type 0} (tag : Tag) (octets : List ℕ) (value : Option E) → IsOfOctets (contents_if tag octets value)
if_of_octets tag octets (Some value) = tt
if_of_octets tag octets None = refl

pub named_of_octets : {E : Type 0} (tag : Tag) (number_of : E → ℤ) (values : List E) (rules : EncodingRules) (p : ℕ) (octets : List ℕ) → IsOfOctets (parse_named tag number_of values rules p octets)
named_of_octets tag number_of values rules p [] = refl
named_of_octets tag number_of values rules p (first ∷ others) =
    of_octets_either (nat_lt 8 (length (first ∷ others)) || is_redundant (first ∷ others)) _ _ refl (if_of_octets tag (first ∷ others) (named number_of values (twos_complement (first ∷ others))))
