-- The tag of a first identifier octet and a number.
use Rattle.std.proofs.Common.{◌≡◌, ℕ, zero, suc, ◌/◌, ◌%◌, ◌<◌, ◌≤◌, ◌==◌, nat_eq, [], ◌∷◌, Bool, true, false, if◌then◌else◌, Option, Some, None, Result, Ok, Err, refl, sym, ap, ◌∙◌, arith}
use Rattle.std.proofs.lemmas.Bool.Decides.{nat_tests}
use borrow.Author.Tests.{eqb-true}
use Rattle.std.specs.Bool.{beq}
use Rattle.der_tlv.specs.declared.error.ErrorKind.{ErrorKind}
use Rattle.der_tlv.specs.declared.error.ErrorKind.TheVariants.{Noncanonical}
use Rattle.der_tlv.specs.declared.tag.class.Class.TheVariants as class
use Rattle.der_tlv.specs.declared.tag.Tag.{Tag}
use Rattle.der_tlv.specs.declared.tag.Tag.TheVariants.{Boolean, Integer, BitString, OctetString, Null, ObjectIdentifier, Real, Enumerated, Utf8String, RelativeOid, Sequence, Set, NumericString, PrintableString, TeletexString, VideotexString, Ia5String, UtcTime, GeneralizedTime, VisibleString, GeneralString, BmpString, Application, ContextSpecific, Private}
use Rattle.der_tlv.specs.TagParts.{class_of, is_constructed, number_of, universal_tag}
use Rattle.der_tlv.specs.Identifier.{class_index, form_bit, first_octet, number_octets, identifier}
use Rattle.der_tlv.specs.HeaderReading.{universal_of, tag_of_octets}
use Rattle.der_tlv.specs.TagReadingLaws.{tag_of_parts, tag_of_octets-parts}
use Rattle.der_tlv.specs.IdentifierLaws.{identifier-is, low_bits, later_octets, sized}
use Rattle.der_tlv.specs.IdentifierLaws.Sized.{short, long}

-- a universal tag with this number
abbrev IsUniversal : ℕ → Tag → Type 0
IsUniversal n t = (number_of t ≡ n) × (class_of t ≡ class.Universal)

-- the universal tag of a number has that number
universal_tag-is : (n : ℕ) (t : Tag) → universal_tag n ≡ Some t → IsUniversal n t
universal_tag-is n t =
    (next (n == 1) Boolean _ (λ h. (sym (eqb-true n 1 h), refl))
    (next (n == 2) Integer _ (λ h. (sym (eqb-true n 2 h), refl))
    (next (n == 3) BitString _ (λ h. (sym (eqb-true n 3 h), refl))
    (next (n == 4) OctetString _ (λ h. (sym (eqb-true n 4 h), refl))
    (next (n == 5) Null _ (λ h. (sym (eqb-true n 5 h), refl))
    (next (n == 6) ObjectIdentifier _ (λ h. (sym (eqb-true n 6 h), refl))
    (next (n == 9) Real _ (λ h. (sym (eqb-true n 9 h), refl))
    (next (n == 10) Enumerated _ (λ h. (sym (eqb-true n 10 h), refl))
    (next (n == 12) Utf8String _ (λ h. (sym (eqb-true n 12 h), refl))
    (next (n == 13) RelativeOid _ (λ h. (sym (eqb-true n 13 h), refl))
    (next (n == 16) Sequence _ (λ h. (sym (eqb-true n 16 h), refl))
    (next (n == 17) Set _ (λ h. (sym (eqb-true n 17 h), refl))
    (next (n == 18) NumericString _ (λ h. (sym (eqb-true n 18 h), refl))
    (next (n == 19) PrintableString _ (λ h. (sym (eqb-true n 19 h), refl))
    (next (n == 20) TeletexString _ (λ h. (sym (eqb-true n 20 h), refl))
    (next (n == 21) VideotexString _ (λ h. (sym (eqb-true n 21 h), refl))
    (next (n == 22) Ia5String _ (λ h. (sym (eqb-true n 22 h), refl))
    (next (n == 23) UtcTime _ (λ h. (sym (eqb-true n 23 h), refl))
    (next (n == 24) GeneralizedTime _ (λ h. (sym (eqb-true n 24 h), refl))
    (next (n == 26) VisibleString _ (λ h. (sym (eqb-true n 26 h), refl))
    (next (n == 27) GeneralString _ (λ h. (sym (eqb-true n 27 h), refl))
    (next (n == 30) BmpString _ (λ h. (sym (eqb-true n 30 h), refl))
    (λ h. absurd (cc))))))))))))))))))))))))
  where
    next : (b : Bool) (k : Tag) (others : Option Tag) → (b ≡ true → IsUniversal n k) → (others ≡ Some t → IsUniversal n t) → (if b then Some k else others) ≡ Some t → IsUniversal n t
    next true k others here there e = let same : k ≡ t = cc in let both = here refl in (ap number_of (sym same) ∙ both.0, ap class_of (sym same) ∙ both.1)
    next false k others here there e = there e

-- a universal tag in its only form
universal_of-is : (first : ℕ) (constructed : Bool) (o : Option Tag) (t : Tag) → universal_of first constructed o ≡ Ok t → (o ≡ Some t) × (is_constructed t ≡ constructed)
universal_of-is first constructed None t e = absurd (cc)
universal_of-is first constructed (Some u) t e = let k = same_form (is_constructed u) constructed e in let same : u ≡ t = k.0 in (ap (λ x. Some x) same, ap is_constructed (sym same) ∙ k.1)
  where
    same_form : (x y : Bool) → (if beq x y then Ok u else Err (Noncanonical u)) ≡ Ok t → (u ≡ t) × (x ≡ y)
    same_form true true h = (cc, refl)
    same_form true false h = absurd (cc)
    same_form false true h = absurd (cc)
    same_form false false h = (cc, refl)

-- a tag with this class, this form and this number
pub record HasParts (class form n : ℕ) (t : Tag) : Type 0 where
  pub class_is : class_index (class_of t) ≡ class
  pub form_is : form_bit (is_constructed t) ≡ form
  pub number_is : number_of t ≡ n

-- the test of bit 6 gives bit 6
form_bit-test : (form : ℕ) → form < 2 → form_bit (nat_eq form 1) ≡ form
form_bit-test form h = split (nat_eq form 1) refl
  where
    split : (b : Bool) → b ≡ nat_eq form 1 → form_bit b ≡ form
    split true e = sym (eqb-true form 1 (sym e))
    split false e = grind (arith, nat_tests)

-- a proof by cases for the four numbers below 4
below_four : (P : ℕ → Type 0) → P 0 → P 1 → P 2 → P 3 → (k : ℕ) → k < 4 → P k
below_four P a b c d zero h = a
below_four P a b c d (suc zero) h = b
below_four P a b c d (suc (suc zero)) h = c
below_four P a b c d (suc (suc (suc zero))) h = d
below_four P a b c d (suc (suc (suc (suc k)))) h = absurd (omega arith)

-- a result that is this tag
abbrev Gives : Result Tag ErrorKind → Tag → Type 0
Gives r t = r ≡ Ok t

-- the tag that is made of parts has these parts
has_parts : (first class form n : ℕ) (t : Tag) → class < 4 → form < 2 → tag_of_parts first class form n ≡ Ok t → HasParts class form n t
unfolding tag_of_parts
has_parts first class form n t small bit = below_four (λ k. Gives (tag_of_parts first k form n) t → HasParts k form n t) universal application context private class small
  where
    is : (k : ℕ) (u : Tag) → class_index (class_of u) ≡ k → is_constructed u ≡ nat_eq form 1 → number_of u ≡ n → u ≡ t → HasParts k form n t
    is k u c f m e = record {
      class_is = ap (λ x. class_index (class_of x)) (sym e) ∙ c;
      form_is = ap (λ x. form_bit (is_constructed x)) (sym e) ∙ ap form_bit f ∙ form_bit-test form bit;
      number_is = ap number_of (sym e) ∙ m;
    }

    universal : Gives (universal_of first (nat_eq form 1) (universal_tag n)) t → HasParts 0 form n t
    universal e = let k = universal_of-is first (nat_eq form 1) (universal_tag n) t e in let u = universal_tag-is n t k.0 in is 0 t (ap class_index u.1) k.1 u.0 refl

    application : Gives (Ok (Application (nat_eq form 1) (record { 0 = n }))) t → HasParts 1 form n t
    application e = is 1 (Application (nat_eq form 1) (record { 0 = n })) refl refl refl (cc)

    context : Gives (Ok (ContextSpecific (nat_eq form 1) (record { 0 = n }))) t → HasParts 2 form n t
    context e = is 2 (ContextSpecific (nat_eq form 1) (record { 0 = n })) refl refl refl (cc)

    private : Gives (Ok (Private (nat_eq form 1) (record { 0 = n }))) t → HasParts 3 form n t
    private e = is 3 (Private (nat_eq form 1) (record { 0 = n })) refl refl refl (cc)

-- the tag of a first octet and a number has their parts
pub octets-parts : (first n : ℕ) (t : Tag) → first < 256 → tag_of_octets first n ≡ Ok t → HasParts (first / 64) (first / 32 % 2) n t
octets-parts first n t h e = has_parts first (first / 64) (first / 32 % 2) n t (omega arith) (omega arith) (sym (tag_of_octets-parts first n) ∙ e)

-- the identifier octets of a tag in the short form
pub identifier-short : (first : ℕ) (t : Tag) → first < 256 → first % 32 < 31 → tag_of_octets first (first % 32) ≡ Ok t → identifier t ≡ first ∷ []
identifier-short first t h low e =
    let parts = octets-parts first (first % 32) t h e in
    let a = parts.class_is in
    let b = parts.form_is in
    let c = parts.number_is in
    elim (sized (number_of t)) [
      | short l m none ↦ let whole : first_octet (class_of t) (is_constructed t) (low_bits (number_of t)) ≡ first = omega arith in identifier-is t ∙ ap (λ k. k ∷ later_octets (number_of t)) whole ∙ ap (λ z. first ∷ z) none
      | long l m others ↦ absurd (omega arith)
    ]

-- the identifier octets of a tag in the long form
pub identifier-long : (first n : ℕ) (t : Tag) → first < 256 → first % 32 ≡ 31 → 31 ≤ n → tag_of_octets first n ≡ Ok t → identifier t ≡ first ∷ number_octets n
identifier-long first n t h low great e =
    let parts = octets-parts first n t h e in
    let a = parts.class_is in
    let b = parts.form_is in
    let c = parts.number_is in
    elim (sized (number_of t)) [
      | short l m none ↦ absurd (omega arith)
      | long l m others ↦ let whole : first_octet (class_of t) (is_constructed t) (low_bits (number_of t)) ≡ first = omega arith in identifier-is t ∙ ap (λ k. k ∷ later_octets (number_of t)) whole ∙ ap (λ z. first ∷ z) (others ∙ ap number_octets c)
    ]
