-- Laws of reading identifier octets.
use Rattle.std.specs.Prelude.{◌≡◌, ℕ, ◌+◌, ◌*◌, ◌/◌, ◌%◌, ◌^◌, ◌<◌, ◌≤◌, ◌==◌, ◌≢◌, Bool, true, false, nat_lt, nat_le, nat_eq, if◌then◌else◌, List, [], ◌∷◌, ◌++◌, map, length, take, get_or, Some, None, Result, Ok, Err, ◌⊎◌}
use Rattle.std.specs.List.{prefix_len}
use Rattle.std.specs.Int.Digits.{digits_of, number_from_digits, number_from_digits_after, AllBelowBase}
use Rattle.std.proofs.Common.{refl, sym, ap, ◌∙◌, inl, inr, arith, append_assoc, append-nil, length-append, zero-add, zero, suc, ◌&&◌, ◌||◌, eq-eqb}
use borrow.Author.Tests.{ltb-true, leb-true, eqb-true}
use Rattle.std.proofs.lemmas.List.{length-map, map-append}
use Rattle.std.proofs.lemmas.List.Folds.{length-prefix_len}
use Rattle.std.proofs.lemmas.Bool.Decides.{nat_tests}
use Rattle.std.proofs.lemmas.Int.Digits.{number_digits_of, number_after_append, number_after_ge, all_below_base_digits_of, first_digits_of, digits_of_step}
use Rattle.der_tlv.specs.declared.error.ErrorKind.{ErrorKind}
use Rattle.der_tlv.specs.declared.error.ErrorKind.TheVariants.{TagNumberInvalid}
use Rattle.der_tlv.specs.declared.tag.Tag.{Tag}
use Rattle.der_tlv.specs.declared.tag.Tag.TheVariants.{Boolean, Integer, BitString, OctetString, Null, ObjectIdentifier, Real, Enumerated, Utf8String, RelativeOid, Sequence, Set, NumericString, PrintableString, TeletexString, VideotexString, Ia5String, UtcTime, GeneralizedTime, VisibleString, GeneralString, BmpString, Application, ContextSpecific, Private}
use Rattle.der_tlv.specs.TagParts.{IsTag, class_of, is_constructed, number_of, universal_tag}
use Rattle.der_tlv.specs.Identifier.{class_index, form_bit, first_octet, number_octets, identifier}
use Rattle.der_tlv.specs.TagDigits.{mark_digits, leading_octets, with_digit}
use Rattle.der_tlv.specs.HeaderReading.{octet_missing, high_count, number_value, read_number, tag_of_octets, tag_with_number, counted_tag, read_tag, universal_of}
use Rattle.der_tlv.specs.IdentifierLaws.{identifier-is, low_bits, later_octets, low_bits-small, form_bit-small, sized}
use Rattle.der_tlv.specs.IdentifierLaws.Sized.{short, long}

-- whether bit 8 is set
abbrev is_high : ℕ → Bool
is_high d = nat_le 128 d

-- digits with bit 8 set count as octets with bit 8 set
prefix_len-mark_digits : (a ys : List ℕ) → prefix_len is_high (mark_digits a ++ ys) ≡ length a + prefix_len is_high ys
prefix_len-mark_digits [] ys = sym (zero-add (prefix_len is_high ys))
prefix_len-mark_digits (d ∷ a) ys = let e = prefix_len-mark_digits a ys in grind (arith, nat_tests, e)

-- digits with bit 8 set add to the number of octets before the last
pub high_count-mark_digits : (a ys : List ℕ) → high_count (mark_digits a ++ ys) ≡ length a + high_count ys
high_count-mark_digits a ys = length-prefix_len is_high (mark_digits a ++ ys) ∙ prefix_len-mark_digits a ys ∙ ap (λ n. length a + n) (sym (length-prefix_len is_high ys))

-- taking octets past those with bit 8 set
take-mark_digits : (a ys : List ℕ) (n : ℕ) → take (length a + n) (mark_digits a ++ ys) ≡ mark_digits a ++ take n ys
take-mark_digits [] ys n = ap (λ k. take k ys) (zero-add n)
take-mark_digits (d ∷ a) ys n =
    let e : suc (length a) + n ≡ suc (length a + n) = omega arith in
    ap (λ k. take k (mark_digits (d ∷ a) ++ ys)) e ∙ ap (λ z. (128 + d) ∷ z) (take-mark_digits a ys n)

-- the digits of octets with bit 8 set
low-mark_digits : (a : List ℕ) → AllBelowBase 128 a → map (λ d. d % 128) (mark_digits a) ≡ a
low-mark_digits [] h = refl
low-mark_digits (d ∷ a) h = let k : d < 128 = h.0 in let e : (128 + d) % 128 ≡ d = omega arith in let r = low-mark_digits a h.1 in cc

-- the digits that a number in base 128 has from here on
abbrev digits_from : List ℕ → List ℕ
digits_from octets = map (λ d. d % 128) (take (high_count octets + 1) octets)

-- the digits of octets with bit 8 set, and then those that follow
digits_from-mark_digits : (a ys : List ℕ) → AllBelowBase 128 a → digits_from (mark_digits a ++ ys) ≡ a ++ digits_from ys
digits_from-mark_digits a ys h =
    let c = high_count-mark_digits a ys in
    let e : high_count (mark_digits a ++ ys) + 1 ≡ length a + (high_count ys + 1) = omega arith in
    ap (λ k. map (λ d. d % 128) (take k (mark_digits a ++ ys))) e
    ∙ ap (map (λ d. d % 128)) (take-mark_digits a ys (high_count ys + 1))
    ∙ map-append (λ d. d % 128) (mark_digits a) (take (high_count ys + 1) ys)
    ∙ ap (λ z. z ++ digits_from ys) (low-mark_digits a h)

-- the number that the leading octets, followed by these octets, write
pub number_value-leading : (n : ℕ) (ys : List ℕ) → number_value (leading_octets n ++ ys) ≡ number_from_digits_after 128 n (digits_from ys)
number_value-leading n ys =
    ap (number_from_digits 128) (digits_from-mark_digits (digits_of 128 n) ys (all_below_base_digits_of 128 n (omega arith)))
    ∙ number_after_append 128 0 (digits_of 128 n) (digits_from ys)
    ∙ ap (λ k. number_from_digits_after 128 k (digits_from ys)) (number_digits_of 128 n (omega arith))

-- the result of reading a number: whether its first digit is zero, its octets, those of them with bit 8 set, the number, and the error for a missing octet
number_outcome : Bool → ℕ → ℕ → ℕ → ErrorKind → Result (ℕ × ℕ) ErrorKind
number_outcome zero_first count high n missing =
    if zero_first then Err TagNumberInvalid
    else (if nat_le (2 ^ 32) n then Err TagNumberInvalid
    else (if nat_le count high then Err missing
    else (if nat_lt n 31 then Err TagNumberInvalid
    else Ok (high + 1, n))))

-- a number that exceeds 32 bits
outcome-great : (z : Bool) (l h n : ℕ) (e : ErrorKind) → 2 ^ 32 ≤ n → number_outcome z l h n e ≡ Err TagNumberInvalid
unfolding number_outcome
outcome-great z l h n e p = grind (arith, nat_tests)

-- a number below 31
outcome-small : (l h n : ℕ) (e : ErrorKind) → n < 31 → h < l → number_outcome false l h n e ≡ Err TagNumberInvalid
unfolding number_outcome
outcome-small l h n e p q = grind (arith, nat_tests)

-- a number without its last octet
outcome-missing : (l h n : ℕ) (e : ErrorKind) → n < 2 ^ 32 → l ≤ h → number_outcome false l h n e ≡ Err e
unfolding number_outcome
outcome-missing l h n e p q = grind (arith, nat_tests)

-- a complete number
outcome-ok : (l h n : ℕ) (e : ErrorKind) → n < 2 ^ 32 → 31 ≤ n → h < l → number_outcome false l h n e ≡ Ok (h + 1, n)
unfolding number_outcome
outcome-ok l h n e p q r = grind (arith, nat_tests)

-- reading a number whose first digit is not zero
outcome : (p : ℕ) (octets : List ℕ) → 0 < length octets → get_or octets 0 0 ≢ 128 → read_number p octets ≡ number_outcome false (length octets) (high_count octets) (number_value octets) (octet_missing p octets)
unfolding read_number number_outcome
outcome p [] l h = absurd (omega arith)
outcome p (x ∷ xs) l h =
    let e : (x == 128) ≡ false = grind (arith, nat_tests) in
    ap (λ b. number_outcome b (length (x ∷ xs)) (high_count (x ∷ xs)) (number_value (x ∷ xs)) (octet_missing p (x ∷ xs))) e

-- a digit that is not zero makes an octet that is not 80
first-mark_digits : (a ys : List ℕ) → 0 < get_or a 0 0 → get_or (mark_digits a ++ ys) 0 0 ≢ 128
first-mark_digits [] ys h = absurd (omega arith)
first-mark_digits (d ∷ a) ys h = λ e. let k : 128 + d ≡ 128 = e in omega arith

-- the first digit of a number is not zero
first-leading : (n : ℕ) (ys : List ℕ) → 0 < n → get_or (leading_octets n ++ ys) 0 0 ≢ 128
first-leading n ys h = first-mark_digits (digits_of 128 n) ys (first_digits_of 128 n (omega arith) h)

-- the number of octets, with those that follow
length-leading : (n : ℕ) (ys : List ℕ) → length (leading_octets n ++ ys) ≡ length (digits_of 128 n) + length ys
length-leading n ys = let a = length-append (leading_octets n) ys in let b = length-map (digits_of 128 n) (λ d. 128 + d) in omega arith

-- a proof by cases: zero, and a positive number
from_zero : (P : ℕ → Type 0) → P 0 → ((n : ℕ) → 0 < n → P n) → (n : ℕ) → P n
from_zero P at_zero above zero = at_zero
from_zero P at_zero above (suc n) = above (suc n) (omega arith)

-- a list with a positive first number is not empty
reads_some : (a : List ℕ) → 0 < get_or a 0 0 → 0 < length a
reads_some [] k = absurd (omega arith)
reads_some (d ∷ a) k = omega arith

-- the digits of a positive number end too soon
missing-above : (p n : ℕ) → n < 2 ^ 32 → 0 < n → read_number p (leading_octets n ++ []) ≡ Err (octet_missing p (leading_octets n ++ []))
missing-above p n h l =
    let octets : List ℕ = leading_octets n ++ [] in
    let count = length-leading n [] in
    let high = high_count-mark_digits (digits_of 128 n) [] in
    let none : high_count [] ≡ 0 = refl in
    let value : number_value octets ≡ n = number_value-leading n [] in
    let some : 0 < length (digits_of 128 n) = reads_some (digits_of 128 n) (first_digits_of 128 n (omega arith) l) in
    outcome p octets (omega arith) (first-leading n [] l) ∙ outcome-missing (length octets) (high_count octets) (number_value octets) (octet_missing p octets) (omega arith) (omega arith)

-- the digits end too soon
pub read_number-missing : (p n : ℕ) → n < 2 ^ 32 → read_number p (leading_octets n) ≡ Err (octet_missing p (leading_octets n))
unfolding read_number
read_number-missing p n h = from_zero (λ k. k < 2 ^ 32 → read_number p (leading_octets k) ≡ Err (octet_missing p (leading_octets k))) (λ _. refl)
    (λ k l b. ap (read_number p) (sym (append-nil (leading_octets k))) ∙ missing-above p k b l ∙ ap (λ z. Err (octet_missing p z)) (append-nil (leading_octets k))) n h

-- no octet has bit 8 set before a last octet
high_count-last : (x : ℕ) (xs : List ℕ) → x < 128 → high_count (x ∷ xs) ≡ 0
high_count-last x xs h = length-prefix_len is_high (x ∷ xs) ∙ (grind (arith, nat_tests))

-- the digit of a last octet alone
digits_from-last : (x : ℕ) (xs : List ℕ) → x < 128 → digits_from (x ∷ xs) ≡ x ∷ []
digits_from-last x xs h = let e : x % 128 ≡ x = omega arith in ap (λ k. map (λ d. d % 128) (take (k + 1) (x ∷ xs))) (high_count-last x xs h) ∙ ap (λ k. k ∷ []) e

-- a number that exceeds 32 bits with its next digit
value-great : (n x : ℕ) (xs : List ℕ) → 2 ^ 25 ≤ n → 2 ^ 32 ≤ number_value (leading_octets n ++ (x ∷ xs))
value-great n x xs h =
    let e = number_value-leading n (x ∷ xs) in
    let k : high_count (x ∷ xs) + 1 ≡ suc (high_count (x ∷ xs)) = omega arith in
    let f : number_from_digits_after 128 n (digits_from (x ∷ xs)) ≡ number_from_digits_after 128 (n * 128 + x % 128) (map (λ d. d % 128) (take (high_count (x ∷ xs)) xs)) = ap (λ j. number_from_digits_after 128 n (map (λ d. d % 128) (take j (x ∷ xs)))) k in
    let g = number_after_ge 128 (n * 128 + x % 128) (map (λ d. d % 128) (take (high_count (x ∷ xs)) xs)) (omega arith) in
    omega arith

-- why an octet is no digit of a tag number
data NoDigit (n x : ℕ) : Type 0 where
  great : 2 ^ 25 ≤ n → NoDigit n x
  small : n ≡ 0 → x < 31 → NoDigit n x
  zero_digit : n ≡ 0 → x ≡ 128 → NoDigit n x

-- what holds of a digit of a tag number
record IsDigit (n x v : ℕ) : Type 0 where
  fits : n < 2 ^ 25
  counts : n ≡ 0 → (31 ≤ x) × (x ≢ 128)
  value : v ≡ n * 128 + x % 128

-- why there is no number
none-or-some : (a b c d : Bool) (v : ℕ) → (if a || (b && (c || d)) then None else Some v) ≡ None → (a ≡ true) ⊎ ((b ≡ true) × ((c ≡ true) ⊎ (d ≡ true)))
none-or-some true b c d v e = inl refl
none-or-some false true true d v e = inr (refl, inl refl)
none-or-some false true false true v e = inr (refl, inr refl)
none-or-some false true false false v e = absurd (cc)
none-or-some false false c d v e = absurd (cc)

-- what holds where there is a number
some-or-none : (a b c d : Bool) (v w : ℕ) → (if a || (b && (c || d)) then None else Some v) ≡ Some w → (w ≡ v) × (a ≡ false) × (b ≡ true → (c ≡ false) × (d ≡ false))
some-or-none true b c d v w e = absurd (cc)
some-or-none false true true d v w e = absurd (cc)
some-or-none false true false true v w e = absurd (cc)
some-or-none false true false false v w e = (cc, refl, λ _. (refl, refl))
some-or-none false false c d v w e = (cc, refl, λ q. absurd (cc))

-- an octet that gives no number is no digit
no_digit : (n x : ℕ) → with_digit n x ≡ None → NoDigit n x
no_digit n x e = elim (none-or-some (nat_le (2 ^ 25) n) (n == 0) (nat_lt x 31) (x == 128) (n * 128 + x % 128) e) [
  | inl t ↦ great (leb-true (2 ^ 25) n t)
  | inr q ↦ elim q.1 [ inl t ↦ small (eqb-true n 0 q.0) (ltb-true x 31 t) | inr t ↦ zero_digit (eqb-true n 0 q.0) (eqb-true x 128 t) ]
]

-- an octet that gives a number is a digit
is_digit : (n x v : ℕ) → with_digit n x ≡ Some v → IsDigit n x v
is_digit n x v e = let k = some-or-none (nat_le (2 ^ 25) n) (n == 0) (nat_lt x 31) (x == 128) (n * 128 + x % 128) v e in record {
  fits = let t = k.1 in grind (arith, nat_tests);
  counts = λ z. let t : (n == 0) ≡ true = eq-eqb n 0 z in let both = k.2 t in ((let f = both.0 in grind (arith, nat_tests)), (let f = both.1 in grind (arith, nat_tests)));
  value = k.0;
}

-- a number that exceeds 32 bits with its next digit is refused
invalid-great : (p n x : ℕ) (xs : List ℕ) → 2 ^ 25 ≤ n → read_number p (leading_octets n ++ (x ∷ xs)) ≡ Err TagNumberInvalid
invalid-great p n x xs h =
    let octets : List ℕ = leading_octets n ++ (x ∷ xs) in
    let count : length octets ≡ length (digits_of 128 n) + length (x ∷ xs) = length-leading n (x ∷ xs) in
    outcome p octets (omega arith) (first-leading n (x ∷ xs) (omega arith)) ∙ outcome-great false (length octets) (high_count octets) (number_value octets) (octet_missing p octets) (value-great n x xs h)

-- the number of one octet
short-number : (x : ℕ) (xs : List ℕ) → x < 128 → number_value (x ∷ xs) ≡ x
short-number x xs h = ap (number_from_digits 128) (digits_from-last x xs h) ∙ (omega arith)

-- a number below 31 is refused
invalid-small : (p n x : ℕ) (xs : List ℕ) → n ≡ 0 → x < 31 → read_number p (leading_octets n ++ (x ∷ xs)) ≡ Err TagNumberInvalid
invalid-small p n x xs z h =
    let high = high_count-last x xs (omega arith) in
    let value = short-number x xs (omega arith) in
    ap (λ k. read_number p (leading_octets k ++ (x ∷ xs))) z
    ∙ outcome p (x ∷ xs) (omega arith) (λ e. let k : x ≡ 128 = e in omega arith)
    ∙ outcome-small (length (x ∷ xs)) (high_count (x ∷ xs)) (number_value (x ∷ xs)) (octet_missing p (x ∷ xs)) (omega arith) (omega arith)

-- a first digit of zero is refused
invalid-zero : (p n x : ℕ) (xs : List ℕ) → n ≡ 0 → x ≡ 128 → read_number p (leading_octets n ++ (x ∷ xs)) ≡ Err TagNumberInvalid
unfolding read_number
invalid-zero p n x xs z h = ap (λ k. read_number p (leading_octets k ++ (x ∷ xs))) z ∙ ap (λ k. read_number p (k ∷ xs)) h ∙ refl

-- an octet that is no valid next digit is refused
pub read_number-invalid : (p n x : ℕ) (xs : List ℕ) → with_digit n x ≡ None → read_number p (leading_octets n ++ (x ∷ xs)) ≡ Err TagNumberInvalid
read_number-invalid p n x xs e = elim (no_digit n x e) [ great h ↦ invalid-great p n x xs h | small z h ↦ invalid-small p n x xs z h | zero_digit z h ↦ invalid-zero p n x xs z h ]

-- the first octet is not 80
first-any : (n x : ℕ) (xs : List ℕ) → (n ≡ 0 → x ≢ 128) → get_or (leading_octets n ++ (x ∷ xs)) 0 0 ≢ 128
first-any n x xs h = from_zero (λ k. (k ≡ 0 → x ≢ 128) → get_or (leading_octets k ++ (x ∷ xs)) 0 0 ≢ 128) (λ f. f refl) (λ k l f. first-leading k (x ∷ xs) l) n h

-- the leading octets of a number and its last digit are its octets
number_octets-last : (n x v : ℕ) → v ≡ n * 128 + x → x < 128 → leading_octets n ++ (x ∷ []) ≡ number_octets v
unfolding number_octets
number_octets-last n x v e h =
    let high : n ≡ v / 128 = omega arith in
    let low : x ≡ v % 128 = omega arith in
    ap (λ k. leading_octets k ++ (x ∷ [])) high ∙ ap (λ k. leading_octets (v / 128) ++ (k ∷ [])) low

-- a number that ends is at least 31
at_least : (n x v : ℕ) → IsDigit n x v → x < 128 → 31 ≤ v
at_least n x v d h = from_zero (λ k. (k ≡ 0 → (31 ≤ x) × (x ≢ 128)) → v ≡ k * 128 + x % 128 → 31 ≤ v) (λ f g. let great = (f refl).0 in omega arith) (λ k above f g. omega arith) n d.counts d.value

-- reading a number up to its last digit
last-ok : (p n x v : ℕ) (xs : List ℕ) → IsDigit n x v → x < 128 → read_number p (leading_octets n ++ (x ∷ xs)) ≡ Ok (length (digits_of 128 n) + 1, v)
last-ok p n x v xs d h =
    let octets : List ℕ = leading_octets n ++ (x ∷ xs) in
    let count : length octets ≡ length (digits_of 128 n) + length (x ∷ xs) = length-leading n (x ∷ xs) in
    let high : high_count octets ≡ length (digits_of 128 n) = high_count-mark_digits (digits_of 128 n) (x ∷ xs) ∙ ap (λ k. length (digits_of 128 n) + k) (high_count-last x xs h) ∙ (omega arith) in
    let value : number_value octets ≡ n * 128 + x = number_value-leading n (x ∷ xs) ∙ ap (number_from_digits_after 128 n) (digits_from-last x xs h) in
    let fits = d.fits in
    let is = d.value in
    let same : number_value octets ≡ v = omega arith in
    let great : 31 ≤ v = at_least n x v d h in
    outcome p octets (omega arith) (first-any n x xs (λ z. (d.counts z).1))
    ∙ outcome-ok (length octets) (high_count octets) (number_value octets) (octet_missing p octets) (omega arith) (omega arith) (omega arith)
    ∙ ap (λ k. Ok (k + 1, number_value octets)) high ∙ ap (λ k. Ok (length (digits_of 128 n) + 1, k)) same

-- the last digit of a tag number
pub read_number-last : (p n x v : ℕ) (xs : List ℕ) → with_digit n x ≡ Some v → x < 128 → (read_number p (leading_octets n ++ (x ∷ xs)) ≡ Ok (length (number_octets v), v)) × (leading_octets n ++ (x ∷ []) ≡ number_octets v)
read_number-last p n x v xs e h =
    let d = is_digit n x v e in
    let is = d.value in
    let octets = number_octets-last n x v (omega arith) h in
    let count : length (digits_of 128 n) + 1 ≡ length (number_octets v) = sym (length-leading n (x ∷ [])) ∙ ap length octets in
    (last-ok p n x v xs d h ∙ ap (λ k. Ok (k, v)) count, octets)

-- a number with one more digit fits 32 bits
pub with_digit-fits : (n x v : ℕ) → with_digit n x ≡ Some v → v < 2 ^ 32
with_digit-fits n x v e = let d = is_digit n x v e in let f = d.fits in let g = d.value in omega arith

-- a number that ends is at least 31
pub with_digit-long : (n x v : ℕ) → with_digit n x ≡ Some v → x < 128 → 31 ≤ v
with_digit-long n x v e h = at_least n x v (is_digit n x v e) h

-- a digit of a tag number, followed by others
pub leading_octets-more : (n x v : ℕ) → with_digit n x ≡ Some v → 128 ≤ x → x < 256 → leading_octets n ++ (x ∷ []) ≡ leading_octets v
leading_octets-more n x v e h l =
    let d = is_digit n x v e in
    let is = d.value in
    let some : 0 < v = from_zero (λ k. (k ≡ 0 → (31 ≤ x) × (x ≢ 128)) → v ≡ k * 128 + x % 128 → 0 < v) (λ f g. let apart = (f refl).1 in omega arith) (λ k above f g. omega arith) n d.counts is in
    let high : v / 128 ≡ n = omega arith in
    let low : 128 + v % 128 ≡ x = omega arith in
    sym (ap mark_digits (digits_of_step 128 v (omega arith) some) ∙ map-append (λ k. 128 + k) (digits_of 128 (v / 128)) (v % 128 ∷ [])
    ∙ ap (λ k. leading_octets k ++ ((128 + v % 128) ∷ [])) high ∙ ap (λ k. leading_octets n ++ (k ∷ [])) low)

-- the number, if no test refuses it
digit-some : (a b c d : Bool) (v w : ℕ) → a ≡ false → (b && c) ≡ false → d ≡ false → v ≡ w → (if a || (b && (c || d)) then None else Some v) ≡ Some w
digit-some true b c d v w e f g h = absurd (cc)
digit-some false true true d v w e f g h = absurd (cc)
digit-some false true false true v w e f g h = absurd (cc)
digit-some false true false false v w e f g h = cc
digit-some false false c d v w e f g h = cc

-- the last digit of a tag number is a valid digit
number-digit : (v : ℕ) → 31 ≤ v → v < 2 ^ 32 → with_digit (v / 128) (v % 128) ≡ Some v
number-digit v l h =
    let whole : v / 128 * 128 + v % 128 % 128 ≡ v = omega arith in
    let a : nat_le (2 ^ 25) (v / 128) ≡ false = grind (arith, nat_tests) in
    let b : (v % 128 == 128) ≡ false = grind (arith, nat_tests) in
    let c : ((v / 128 == 0) && nat_lt (v % 128) 31) ≡ false = grind (arith, nat_tests) in
    digit-some (nat_le (2 ^ 25) (v / 128)) (v / 128 == 0) (nat_lt (v % 128) 31) (v % 128 == 128) (v / 128 * 128 + v % 128 % 128) v a c b whole

-- reading the octets of a tag number of more than 30
pub read_number-number_octets : (p v : ℕ) (x : List ℕ) → 31 ≤ v → v < 2 ^ 32 → read_number p (number_octets v ++ x) ≡ Ok (length (number_octets v), v)
unfolding number_octets
read_number-number_octets p v x l h =
    ap (read_number p) (append_assoc (leading_octets (v / 128)) (v % 128 ∷ []) x) ∙ (read_number-last p (v / 128) (v % 128) v x (number-digit v l h) (omega arith)).0

-- the tag of a first identifier octet, its bits 8 and 7, its bit 6, and a number
unfoldable pub tag_of_parts : ℕ → ℕ → ℕ → ℕ → Result Tag ErrorKind
tag_of_parts first class form n =
    let constructed = nat_eq form 1 in
    if class == 0 then universal_of first constructed (universal_tag n)
    else (if class == 1 then Ok (Application constructed (record { 0 = n }))
    else (if class == 2 then Ok (ContextSpecific constructed (record { 0 = n }))
    else Ok (Private constructed (record { 0 = n }))))

-- the parts of a tag give that tag
parts-tag : (first : ℕ) (t : Tag) → tag_of_parts first (class_index (class_of t)) (form_bit (is_constructed t)) (number_of t) ≡ Ok t
unfolding tag_of_parts
parts-tag first Boolean = refl
parts-tag first Integer = refl
parts-tag first BitString = refl
parts-tag first OctetString = refl
parts-tag first Null = refl
parts-tag first ObjectIdentifier = refl
parts-tag first Real = refl
parts-tag first Enumerated = refl
parts-tag first Utf8String = refl
parts-tag first RelativeOid = refl
parts-tag first Sequence = refl
parts-tag first Set = refl
parts-tag first NumericString = refl
parts-tag first PrintableString = refl
parts-tag first TeletexString = refl
parts-tag first VideotexString = refl
parts-tag first Ia5String = refl
parts-tag first UtcTime = refl
parts-tag first GeneralizedTime = refl
parts-tag first VisibleString = refl
parts-tag first GeneralString = refl
parts-tag first BmpString = refl
parts-tag first (Application true number) = refl
parts-tag first (Application false number) = refl
parts-tag first (ContextSpecific true number) = refl
parts-tag first (ContextSpecific false number) = refl
parts-tag first (Private true number) = refl
parts-tag first (Private false number) = refl

-- the tag of octets is that of their parts
pub tag_of_octets-parts : (first n : ℕ) → tag_of_octets first n ≡ tag_of_parts first (first / 64) (first / 32 % 2) n
unfolding tag_of_parts
tag_of_octets-parts first n = refl

-- the first octet and the number of a tag give that tag
pub tag_of_octets-tag : (t : Tag) (low : ℕ) → low < 32 → tag_of_octets (first_octet (class_of t) (is_constructed t) low) (number_of t) ≡ Ok t
tag_of_octets-tag t low h =
    let first : ℕ = first_octet (class_of t) (is_constructed t) low in
    let bit = form_bit-small (is_constructed t) in
    let class : first / 64 ≡ class_index (class_of t) = omega arith in
    let form : first / 32 % 2 ≡ form_bit (is_constructed t) = omega arith in
    tag_of_octets-parts first (number_of t) ∙ ap (λ k. tag_of_parts first k (first / 32 % 2) (number_of t)) class ∙ ap (λ k. tag_of_parts first (class_index (class_of t)) k (number_of t)) form ∙ parts-tag first t

-- reading one identifier octet
pub read_tag-short : (p first : ℕ) (xs : List ℕ) → first % 32 ≢ 31 → read_tag p (first ∷ xs) ≡ counted_tag 1 (tag_of_octets first (first % 32))
unfolding read_tag
read_tag-short p first xs h = let e : (first % 32 == 31) ≡ false = grind (arith, nat_tests) in ap (λ b. if b then tag_with_number first (read_number (p + 1) xs) else counted_tag 1 (tag_of_octets first (first % 32))) e

-- reading a first identifier octet, followed by a number
pub read_tag-long : (p first : ℕ) (xs : List ℕ) → first % 32 ≡ 31 → read_tag p (first ∷ xs) ≡ tag_with_number first (read_number (p + 1) xs)
unfolding read_tag
read_tag-long p first xs h = let e : (first % 32 == 31) ≡ true = grind (arith, nat_tests) in ap (λ b. if b then tag_with_number first (read_number (p + 1) xs) else counted_tag 1 (tag_of_octets first (first % 32))) e

-- reading the identifier octets of a tag
pub read_tag-identifier : (t : Tag) (p : ℕ) (x : List ℕ) → IsTag t → read_tag p (identifier t ++ x) ≡ Ok (length (identifier t), t)
read_tag-identifier t p x h =
    let n : ℕ = number_of t in
    let first : ℕ = first_octet (class_of t) (is_constructed t) (low_bits n) in
    let small = low_bits-small n in
    let bit = form_bit-small (is_constructed t) in
    let low : first % 32 ≡ low_bits n = omega arith in
    let tag = tag_of_octets-tag t (low_bits n) small in
    let start : read_tag p (identifier t ++ x) ≡ read_tag p (first ∷ (later_octets n ++ x)) = ap (λ z. read_tag p (z ++ x)) (identifier-is t) in
    elim (sized n) [
      | short l a b ↦
          let count : 1 ≡ length (identifier t) = sym (ap length (identifier-is t) ∙ ap (λ z. suc (length z)) b) in
          start ∙ read_tag-short p first (later_octets n ++ x) (λ e. omega arith)
          ∙ ap (λ k. counted_tag 1 (tag_of_octets first k)) (low ∙ a) ∙ ap (counted_tag 1) tag ∙ ap (λ k. Ok (k, t)) count
      | long l a b ↦
          let count : 1 + length (number_octets n) ≡ length (identifier t) = sym (ap length (identifier-is t) ∙ ap (λ z. suc (length z)) b ∙ (omega arith)) in
          start ∙ read_tag-long p first (later_octets n ++ x) (low ∙ a)
          ∙ ap (λ z. tag_with_number first (read_number (p + 1) (z ++ x))) b ∙ ap (tag_with_number first) (read_number-number_octets (p + 1) n x l h)
          ∙ ap (counted_tag (1 + length (number_octets n))) tag ∙ ap (λ k. Ok (k, t)) count
    ]
