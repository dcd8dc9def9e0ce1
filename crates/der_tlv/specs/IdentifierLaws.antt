-- Laws of identifier octets: their tag and their end.
use Rattle.std.specs.Prelude.{◌≡◌, ℕ, ◌+◌, ◌/◌, ◌%◌, ◌^◌, ◌<◌, ◌≤◌, ◌==◌, Bool, true, false, nat_lt, if◌then◌else◌, List, [], ◌∷◌, ◌++◌, map, length, Option, Some}
use Rattle.std.specs.Int.Digits.{digits_of}
use Rattle.std.specs.Ordering.{ordering_then, is_eq}
use Rattle.std.specs.Bool.{Decides}
use Rattle.std.specs.declared.cmp.Ordering.TheVariants.{Equal}
use Rattle.std.proofs.Common.{refl, sym, ap, ◌∙◌, arith, append_assoc, length-append}
use Rattle.std.proofs.lemmas.List.{length-map}
use Rattle.std.proofs.lemmas.Int.Digits.{same_from_digits_of, length-digits_of-le}
use borrow.Author.Tests.{ltb-true, ltb-false}
use Rattle.der_tlv.specs.declared.tag.class.Class.{Class}
use Rattle.der_tlv.specs.declared.tag.class.Class.TheVariants as class
use Rattle.der_tlv.specs.declared.tag.Tag.{Tag}
use Rattle.der_tlv.specs.declared.tag.Tag.TheVariants.{Boolean, Integer, BitString, OctetString, Null, ObjectIdentifier, Real, Enumerated, Utf8String, RelativeOid, Sequence, Set, NumericString, PrintableString, TeletexString, VideotexString, Ia5String, UtcTime, GeneralizedTime, VisibleString, GeneralString, BmpString, Application, ContextSpecific, Private}
use Rattle.der_tlv.specs.TagParts.{IsTag, class_of, is_constructed, number_of, universal_tag}
use Rattle.der_tlv.specs.Identifier.{class_index, form_bit, first_octet, number_octets, identifier_octets, identifier}
use Rattle.der_tlv.specs.Octets.{lex}
use Rattle.der_tlv.specs.OrderingLaws.{equal_tested}
use Rattle.der_tlv.specs.OctetLaws.{SameBeginning, lex-append, lex-equal, lex-same}

-- octets with bit 8 set, one without, and a tail: if two such lists are equal, so are their parts
mark_digits-unique : (a b : List ℕ) (r s : ℕ) (x y : List ℕ) → r < 128 → s < 128 → map (λ d. 128 + d) a ++ (r ∷ x) ≡ map (λ d. 128 + d) b ++ (s ∷ y) → (a ≡ b) × (r ≡ s) × (x ≡ y)
mark_digits-unique [] [] r s x y p q e = (refl, cc, cc)
mark_digits-unique [] (d ∷ b) r s x y p q e = let k : r ≡ 128 + d = cc in absurd (omega arith)
mark_digits-unique (c ∷ a) [] r s x y p q e = let k : 128 + c ≡ s = cc in absurd (omega arith)
mark_digits-unique (c ∷ a) (d ∷ b) r s x y p q e =
    let k : 128 + c ≡ 128 + d = cc in
    let same : c ≡ d = omega arith in
    let tail : map (λ d. 128 + d) a ++ (r ∷ x) ≡ map (λ d. 128 + d) b ++ (s ∷ y) = cc in
    let parts = mark_digits-unique a b r s x y p q tail in
    let digits : a ≡ b = parts.0 in
    (cc, parts.1, parts.2)

-- the octets of a number determine their end and the number
pub number_octets-unique : (m n : ℕ) (x y : List ℕ) → number_octets m ++ x ≡ number_octets n ++ y → (m ≡ n) × (x ≡ y)
unfolding number_octets
number_octets-unique m n x y e =
    let parts = mark_digits-unique (digits_of 128 (m / 128)) (digits_of 128 (n / 128)) (m % 128) (n % 128) x y (omega arith) (omega arith)
    (sym (append_assoc (map (λ d. 128 + d) (digits_of 128 (m / 128))) (m % 128 ∷ []) x) ∙ e ∙ append_assoc (map (λ d. 128 + d) (digits_of 128 (n / 128))) (n % 128 ∷ []) y) in
    let high : m / 128 ≡ n / 128 = same_from_digits_of 128 (m / 128) (n / 128) (omega arith) parts.0 in
    let low : m % 128 ≡ n % 128 = parts.1 in
    (omega arith, parts.2)

-- the class of bits 8 and 7
class_at : ℕ → Class
class_at n = if n == 0 then class.Universal else (if n == 1 then class.Application else (if n == 2 then class.ContextSpecific else class.Private))

-- bits 8 and 7 of a class give that class
class_at-is : (c : Class) → class_at (class_index c) ≡ c
unfolding class_at
class_at-is class.Universal = refl
class_at-is class.Application = refl
class_at-is class.ContextSpecific = refl
class_at-is class.Private = refl

-- two classes differ in bits 8 and 7
class_index-injective : (c d : Class) → class_index c ≡ class_index d → c ≡ d
class_index-injective c d e = sym (class_at-is c) ∙ ap class_at e ∙ class_at-is d

-- the two forms differ in bit 6
form_bit-injective : (f g : Bool) → form_bit f ≡ form_bit g → f ≡ g
form_bit-injective true true e = refl
form_bit-injective true false e = absurd (omega arith)
form_bit-injective false true e = absurd (omega arith)
form_bit-injective false false e = refl

-- bit 6 is one bit
pub form_bit-small : (f : Bool) → form_bit f ≤ 1
form_bit-small true = omega arith
form_bit-small false = omega arith

-- a first octet has one class, one form and one number in bits 5 to 1
pub first_octet-unique : (c d : Class) (f g : Bool) (i j : ℕ) → i < 32 → j < 32 → first_octet c f i ≡ first_octet d g j → (c ≡ d) × (f ≡ g) × (i ≡ j)
first_octet-unique c d f g i j p q e =
    let a = form_bit-small f in
    let b = form_bit-small g in
    (class_index-injective c d (omega arith), form_bit-injective f g (omega arith), omega arith)

-- the tag of a class, a form and a number
rebuilt : Class → Bool → ℕ → Option Tag
rebuilt class.Universal constructed n = universal_tag n
rebuilt class.Application constructed n = Some (Application constructed (record { 0 = n }))
rebuilt class.ContextSpecific constructed n = Some (ContextSpecific constructed (record { 0 = n }))
rebuilt class.Private constructed n = Some (Private constructed (record { 0 = n }))

-- the parts of a tag give that tag
rebuilt-is : (t : Tag) → rebuilt (class_of t) (is_constructed t) (number_of t) ≡ Some t
unfolding rebuilt
rebuilt-is Boolean = refl
rebuilt-is Integer = refl
rebuilt-is BitString = refl
rebuilt-is OctetString = refl
rebuilt-is Null = refl
rebuilt-is ObjectIdentifier = refl
rebuilt-is Real = refl
rebuilt-is Enumerated = refl
rebuilt-is Utf8String = refl
rebuilt-is RelativeOid = refl
rebuilt-is Sequence = refl
rebuilt-is Set = refl
rebuilt-is NumericString = refl
rebuilt-is PrintableString = refl
rebuilt-is TeletexString = refl
rebuilt-is VideotexString = refl
rebuilt-is Ia5String = refl
rebuilt-is UtcTime = refl
rebuilt-is GeneralizedTime = refl
rebuilt-is VisibleString = refl
rebuilt-is GeneralString = refl
rebuilt-is BmpString = refl
rebuilt-is (Application constructed number) = refl
rebuilt-is (ContextSpecific constructed number) = refl
rebuilt-is (Private constructed number) = refl

-- two tags with the same class, form and number are the same
pub tag-unique : (t u : Tag) → class_of t ≡ class_of u → is_constructed t ≡ is_constructed u → number_of t ≡ number_of u → t ≡ u
tag-unique t u c f n = let a = rebuilt-is t in let b = rebuilt-is u in let k : Some t ≡ Some u = sym a ∙ ap (λ x. rebuilt x (is_constructed t) (number_of t)) c ∙ ap (λ x. rebuilt (class_of u) x (number_of t)) f ∙ ap (λ x. rebuilt (class_of u) (is_constructed u) x) n ∙ b in cc

-- the number in bits 5 to 1
abbrev pub low_bits : ℕ → ℕ
low_bits n = if nat_lt n 31 then n else 31

-- the identifier octets after the first
abbrev pub later_octets : ℕ → List ℕ
later_octets n = if nat_lt n 31 then [] else number_octets n

-- the first identifier octet and the others
identifier_octets-is : (c : Class) (f : Bool) (n : ℕ) → identifier_octets c f n ≡ first_octet c f (low_bits n) ∷ later_octets n
unfolding identifier_octets
identifier_octets-is c f n = elim (nat_lt n 31) as (λ b. (if b then first_octet c f n ∷ [] else first_octet c f 31 ∷ number_octets n) ≡ first_octet c f (if b then n else 31) ∷ (if b then [] else number_octets n)) [ true ↦ refl | false ↦ refl ]

-- a number of at most 30 equals its low bits, and a greater number has all of them set
pub data Sized (n : ℕ) : Type 0 where
  short : n < 31 → low_bits n ≡ n → later_octets n ≡ [] → Sized n
  long : 31 ≤ n → low_bits n ≡ 31 → later_octets n ≡ number_octets n → Sized n

-- each number has one of the two sizes
pub sized : (n : ℕ) → Sized n
sized n = split (nat_lt n 31) refl
  where
    split : (b : Bool) → b ≡ nat_lt n 31 → Sized n
    split true e = short (ltb-true n 31 (sym e)) (ap (λ x. if x then n else 31) (sym e)) (ap (λ x. if x then [] else number_octets n) (sym e))
    split false e = long (ltb-false n 31 (sym e)) (ap (λ x. if x then n else 31) (sym e)) (ap (λ x. if x then [] else number_octets n) (sym e))

-- the octets after the first determine their end and the number
later-unique : (m n : ℕ) (x y : List ℕ) → low_bits m ≡ low_bits n → later_octets m ++ x ≡ later_octets n ++ y → (m ≡ n) × (x ≡ y)
later-unique m n x y low e = elim (sized m) [
  | short l a b ↦ elim (sized n) [ short k c d ↦ (omega arith, sym (ap (λ z. z ++ x) b) ∙ e ∙ ap (λ z. z ++ y) d) | long k c d ↦ absurd (omega arith) ]
  | long l a b ↦ elim (sized n) [ short k c d ↦ absurd (omega arith) | long k c d ↦ number_octets-unique m n x y (sym (ap (λ z. z ++ x) b) ∙ e ∙ ap (λ z. z ++ y) d) ]
]

-- bits 5 to 1 are five bits
pub low_bits-small : (n : ℕ) → low_bits n < 32
low_bits-small n = elim (sized n) [ short l a b ↦ omega arith | long l a b ↦ omega arith ]

-- identifier octets determine their end, the class, the form and the number
pub identifier_octets-unique : (c d : Class) (f g : Bool) (m n : ℕ) (x y : List ℕ) → identifier_octets c f m ++ x ≡ identifier_octets d g n ++ y → (c ≡ d) × (f ≡ g) × (m ≡ n) × (x ≡ y)
identifier_octets-unique c d f g m n x y e =
    let whole : first_octet c f (low_bits m) ∷ (later_octets m ++ x) ≡ first_octet d g (low_bits n) ∷ (later_octets n ++ y) = sym (ap (λ z. z ++ x) (identifier_octets-is c f m)) ∙ e ∙ ap (λ z. z ++ y) (identifier_octets-is d g n) in
    let head : first_octet c f (low_bits m) ≡ first_octet d g (low_bits n) = cons_head _ _ _ _ whole in
    let tail : later_octets m ++ x ≡ later_octets n ++ y = cons_tail _ _ _ _ whole in
    let parts = first_octet-unique c d f g (low_bits m) (low_bits n) (low_bits-small m) (low_bits-small n) head in
    let later = later-unique m n x y parts.2 tail in
    (parts.0, parts.1, later.0, later.1)
  where
    cons_head : (a b : ℕ) (p q : List ℕ) → a ∷ p ≡ b ∷ q → a ≡ b
    cons_head a b p q h = cc

    cons_tail : (a b : ℕ) (p q : List ℕ) → a ∷ p ≡ b ∷ q → p ≡ q
    cons_tail a b p q h = cc

-- identifier octets determine their end and the tag
pub identifier-unique : (t u : Tag) (x y : List ℕ) → identifier t ++ x ≡ identifier u ++ y → (t ≡ u) × (x ≡ y)
unfolding identifier
identifier-unique t u x y e =
    let parts = identifier_octets-unique (class_of t) (class_of u) (is_constructed t) (is_constructed u) (number_of t) (number_of u) x y e in
    (tag-unique t u parts.0 parts.1 parts.2, parts.3)

-- no two tags have the same identifier octets
pub identifier-injective : (t u : Tag) → identifier t ≡ identifier u → t ≡ u
identifier-injective t u e = (identifier-unique t u [] [] (ap (λ z. z ++ []) e)).0

-- no identifier octets are a proper prefix of others
pub identifier-beginning : (t u : Tag) → SameBeginning (identifier t) (identifier u)
identifier-beginning t u = record { same = λ x y e. ap identifier (identifier-unique t u x y e).0 }

-- what follows identifier octets affects their order only if the tags are the same
pub lex-identifier : (t u : Tag) (x y : List ℕ) → lex (identifier t ++ x) (identifier u ++ y) ≡ ordering_then (lex (identifier t) (identifier u)) (lex x y)
lex-identifier t u x y = lex-append (identifier t) (identifier u) x y (identifier-beginning t u)

-- tags whose identifier octets compare as equal are the same
pub lex-identifier-equal : (t u : Tag) → lex (identifier t) (identifier u) ≡ Equal → t ≡ u
lex-identifier-equal t u e = identifier-injective t u (lex-equal (identifier t) (identifier u) e)

-- the first identifier octet and the others
pub identifier-is : (t : Tag) → identifier t ≡ first_octet (class_of t) (is_constructed t) (low_bits (number_of t)) ∷ later_octets (number_of t)
unfolding identifier
identifier-is t = identifier_octets-is (class_of t) (is_constructed t) (number_of t)

-- a tag has a first identifier octet
pub length-identifier-positive : (t : Tag) → 0 < length (identifier t)
length-identifier-positive t = let e = ap length (identifier-is t) in omega arith

-- a number of 32 bits has at most five digits in base 128
pub length-number_octets : (n : ℕ) → n < 2 ^ 32 → length (number_octets n) ≤ 5
unfolding number_octets
length-number_octets n h =
    let few : length (digits_of 128 (n / 128)) ≤ 4 = length-digits_of-le 128 4 (n / 128) (omega arith) (omega arith) in
    let a = length-append (map (λ d. 128 + d) (digits_of 128 (n / 128))) (n % 128 ∷ []) in
    let b = length-map (digits_of 128 (n / 128)) (λ d. 128 + d) in
    omega arith

-- there are at most six identifier octets
pub length-identifier : (t : Tag) → IsTag t → length (identifier t) ≤ 6
length-identifier t h =
    let e = ap length (identifier-is t) in
    let few = length-number_octets (number_of t) h in
    elim (sized (number_of t)) [ short l a b ↦ (let k = ap length b in omega arith) | long l a b ↦ (let k = ap length b in omega arith) ]

-- two tags are the same exactly when their identifier octets compare as equal
pub identifier_decides : (t u : Tag) → Decides (is_eq (lex (identifier t) (identifier u))) (t ≡ u)
identifier_decides t u = (
  (λ e. lex-identifier-equal t u (equal_tested (lex (identifier t) (identifier u)) e)),
  (λ e. ap is_eq (ap (λ x. lex (identifier t) (identifier x)) (sym e) ∙ lex-same (identifier t))),
)
