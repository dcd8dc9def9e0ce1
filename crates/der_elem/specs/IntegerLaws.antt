-- Laws of the contents octets of INTEGER (X.690 8.3).
use Rattle.std.proofs.Common.{◌≡◌, ℕ, zero, suc, ◌+◌, ◌-◌, ◌*◌, ◌/◌, ◌%◌, ◌^◌, ◌<◌, ◌≤◌, Bool, true, false, cond, nat_lt, nat_le, ◌==◌, ◌&&◌, Decides, leb-true, le-leb, List, [], ◌∷◌, ◌++◌, length, slice_index, ℤ, pos, negsuc, ◌-ℤ◌, refl, sym, ap, ◌∙◌, subst, ap₂, arith, pow_mono, inl, inr, pow-suc, length-append, mul-le-mul_right, lt-ltb, le-ltb}
use Rattle.std.proofs.lemmas.Bool.{cases_lt}
use Rattle.std.proofs.lemmas.Bool.Decides.{nat_tests, Decides-or, Decides-and, Decides-eqb}
use Rattle.std.proofs.Math.Nat.{pow-zero, one-le-pow, pow-le-pow_right}
use Rattle.std.proofs.lemmas.Int.Digits.{digits_of_step, number_digits_of, number_push, number_lt, number_after_lt}
use Rattle.std.proofs.lemmas.Int.{ints}
use Rattle.std.proofs.lemmas.Nat.{leading_length, pow-add}
use Rattle.std.specs.Int.{complement_if, leading_zeros, w128}
use Rattle.std.specs.Int.Signed.{mag}
use Rattle.std.specs.Int.Digits.{digits_of, number_from_digits, number_from_digits_after}
use Rattle.der_elem.specs.Integer.{AreOctets, big_endian_number, with_sign_octet, natural_contents, complement_octets, complement_octets_if, integer_contents, twos_complement, is_redundant, FitsSignedWidth, FitsUnsignedOctets, fits_unsigned}

-- ---- the contents of a number that is not negative, one octet at a time

-- a last digit keeps the octet in front, unless it is the only digit
with_sign_octet-push : (digits : List ℕ) (digit : ℕ) → (digits ≡ [] → 128 ≤ digit) → with_sign_octet (digits ++ digit ∷ []) ≡ with_sign_octet digits ++ digit ∷ []
with_sign_octet-push [] digit high = ap (λ t. cond t (digit ∷ []) (0 ∷ digit ∷ [])) (le-ltb digit 128 (high refl))
with_sign_octet-push (first ∷ digits) digit high = elim (nat_lt first 128) as (λ t. cond t (first ∷ (digits ++ digit ∷ [])) (0 ∷ first ∷ (digits ++ digit ∷ [])) ≡ cond t (first ∷ digits) (0 ∷ first ∷ digits) ++ digit ∷ []) [ true ↦ refl | false ↦ refl ]

-- a number below 128 is its own octet
pub natural_contents-small : (n : ℕ) → n < 128 → natural_contents n ≡ n ∷ []
unfolding natural_contents
natural_contents-small zero small = refl
natural_contents-small (suc m) small =
    let quotient : suc m / 256 ≡ 0 = omega arith in
    let remainder : suc m % 256 ≡ suc m = omega arith in
    ap with_sign_octet (digits_of_step 256 (suc m) (omega arith) (omega arith) ∙ ap (λ q. digits_of 256 q ++ (suc m % 256 ∷ [])) quotient ∙ ap (λ r. r ∷ []) remainder)
    ∙ ap (λ t. cond t (suc m ∷ []) (0 ∷ suc m ∷ [])) (lt-ltb (suc m) 128 small)

-- the contents of a larger number are those of its quotient by 256, and then the remainder
pub natural_contents-step : (n : ℕ) → 128 ≤ n → natural_contents n ≡ natural_contents (n / 256) ++ (n % 256 ∷ [])
unfolding natural_contents
natural_contents-step n large =
    ap with_sign_octet (digits_of_step 256 n (omega arith) (omega arith))
    ∙ with_sign_octet-push (digits_of 256 (n / 256)) (n % 256) (λ none. let quotient : n / 256 ≡ 0 = sym (number_digits_of 256 (n / 256) (omega arith)) ∙ ap (number_from_digits 256) none in omega arith)

-- a property that holds below 128, and of a number if it holds of its quotient by 256, holds of every number
by_quotients_within : (P : ℕ → Type 0) → ((n : ℕ) → n < 128 → P n) → ((n : ℕ) → 128 ≤ n → P (n / 256) → P n) → (turns n : ℕ) → n ≤ turns → P n
by_quotients_within P small step zero n within = small n (omega arith)
by_quotients_within P small step (suc turns) n within = elim (cases_lt n 128) [
  | inl below ↦ small n below
  | inr above ↦ step n above (by_quotients_within P small step turns (n / 256) (omega arith))
]

-- this induction, with as many steps as the number
by_quotients : (P : ℕ → Type 0) → ((n : ℕ) → n < 128 → P n) → ((n : ℕ) → 128 ≤ n → P (n / 256) → P n) → (n : ℕ) → P n
by_quotients P small step n = by_quotients_within P small step n n (omega arith)

-- ---- octets and their number

-- octets with one more octet are octets
AreOctets-push : (octets : List ℕ) (octet : ℕ) → AreOctets octets → octet < 256 → AreOctets (octets ++ octet ∷ [])
AreOctets-push [] octet all small = (small, tt)
AreOctets-push (first ∷ rest) octet all small = (all.0, AreOctets-push rest octet all.1 small)

-- the number is at least what its highest part gives
number_after-ge : (n : ℕ) (octets : List ℕ) → n * 256 ^ length octets ≤ number_from_digits_after 256 n octets
number_after-ge n [] = omega (arith, pow-zero 256)
number_after-ge n (octet ∷ octets) = omega (arith, number_after-ge (n * 256 + octet) octets, ap (λ p. n * p) (pow-suc 256 (length octets)), mul-le-mul_right {m = n * 256} {n = n * 256 + octet} (256 ^ length octets) (omega arith))

-- equal numbers with equally many octets after them have equal octets
number_after-same : (m n : ℕ) (xs ys : List ℕ) → AreOctets xs → AreOctets ys → length xs ≡ length ys → number_from_digits_after 256 m xs ≡ number_from_digits_after 256 n ys → (m ≡ n) × (xs ≡ ys)
number_after-same m n [] [] all_x all_y lengths numbers = (numbers, refl)
number_after-same m n [] (y ∷ ys) all_x all_y lengths numbers = absurd (omega arith)
number_after-same m n (x ∷ xs) [] all_x all_y lengths numbers = absurd (omega arith)
number_after-same m n (x ∷ xs) (y ∷ ys) all_x all_y lengths numbers =
    let rest = number_after-same (m * 256 + x) (n * 256 + y) xs ys all_x.1 all_y.1 (omega arith) numbers in
    let same : x ≡ y = omega arith in
    (omega arith, cc)

-- equally many octets with the same number are equal
pub octets-same_number : (xs ys : List ℕ) → AreOctets xs → AreOctets ys → length xs ≡ length ys → big_endian_number xs ≡ big_endian_number ys → xs ≡ ys
octets-same_number xs ys all_x all_y lengths numbers = (number_after-same 0 0 xs ys all_x all_y lengths numbers).1

-- ---- the fewest octets of a number

-- the octets are those of the number, and 1 + top of them are the fewest that begin with one below 128
pub record IsFewest (n : ℕ) (octets : List ℕ) : Type 0 where
  pub number : big_endian_number octets ≡ n
  pub are_octets : AreOctets octets
  pub top : ℕ
  pub count : length octets ≡ suc top
  pub fits : n < 128 * 256 ^ top
  pub needed : (less : ℕ) → top ≡ suc less → 128 * 256 ^ less ≤ n

-- the fewest octets of a quotient by 256, and then the remainder, are the fewest of the number
fewest-step : (n : ℕ) (octets : List ℕ) → 128 ≤ n → IsFewest (n / 256) octets → IsFewest n (octets ++ (n % 256 ∷ []))
fewest-step n octets large quotient = record {
  number = omega (arith, number_push 256 octets (n % 256), quotient.number);
  are_octets = AreOctets-push octets (n % 256) quotient.are_octets (omega arith);
  top = suc quotient.top;
  count = omega (arith, length-append octets (n % 256 ∷ []), quotient.count);
  fits = omega (arith, pow-suc 256 quotient.top, quotient.fits);
  needed = λ less e. needed_at quotient.top less quotient.needed e;
}
  where
    needed_at : (top less : ℕ) → ((fewer : ℕ) → top ≡ suc fewer → 128 * 256 ^ fewer ≤ n / 256) → suc top ≡ suc less → 128 * 256 ^ less ≤ n
    needed_at zero less below e = let z : less ≡ 0 = omega arith in omega (arith, ap (λ k. 256 ^ k) z, pow-zero 256)
    needed_at (suc fewer) less below e = let z : less ≡ suc fewer = omega arith in omega (arith, ap (λ k. 256 ^ k) z, pow-suc 256 fewer, below fewer refl)

-- the contents of a number are the fewest octets of it
pub natural_contents-is_fewest : (n : ℕ) → IsFewest n (natural_contents n)
natural_contents-is_fewest = by_quotients (λ n. IsFewest n (natural_contents n))
    (λ n small. subst (IsFewest n) (sym (natural_contents-small n small)) (record { number = omega arith; are_octets = (omega arith, tt); top = 0; count = refl; fits = omega (arith, pow-zero 256); needed = λ less e. absurd (omega arith) }))
    (λ n large quotient. subst (IsFewest n) (sym (natural_contents-step n large)) (fewest-step n (natural_contents (n / 256)) large quotient))

-- top is at most k if the number fits in 1 + k octets
top-le : (n top k : ℕ) → ((less : ℕ) → top ≡ suc less → 128 * 256 ^ less ≤ n) → n < 128 * 256 ^ k → top ≤ k
top-le n zero k needed fits = omega arith
top-le n (suc less) k needed fits = elim (cases_lt k (suc less)) [
  | inl more ↦ absurd (omega (arith, needed less refl, pow-le-pow_right {n = 256} (omega arith) {i = k} {j = less} (omega arith)))
  | inr within ↦ within
]

-- a number has only one such list of octets
pub fewest-unique : (n : ℕ) (xs ys : List ℕ) → IsFewest n xs → IsFewest n ys → xs ≡ ys
fewest-unique n xs ys p q = octets-same_number xs ys p.are_octets q.are_octets
    (omega (arith, p.count, q.count, top-le n p.top q.top p.needed q.fits, top-le n q.top p.top q.needed p.fits))
    (p.number ∙ sym q.number)

-- ---- redundant octets

-- the two tests together: the first two octets are 0080 to FF7F
pub is_redundant-false : (first second : ℕ) (rest : List ℕ) → first < 256 → second < 256 → 128 ≤ first * 256 + second → first * 256 + second < 65408 → is_redundant (first ∷ second ∷ rest) ≡ false
is_redundant-false first second rest small_first small_second low high = grind (arith, nat_tests)

-- the converse
pub between_redundant : (first second : ℕ) (rest : List ℕ) → first < 256 → second < 256 → is_redundant (first ∷ second ∷ rest) ≡ false → (128 ≤ first * 256 + second) × (first * 256 + second < 65408)
between_redundant first second rest small_first small_second needed = (grind (arith, nat_tests), grind (arith, nat_tests))

-- the first of the fewest octets is below 128
fewest-first : (n first : ℕ) (rest : List ℕ) → IsFewest n (first ∷ rest) → first < 128
fewest-first n first rest fewest = elim (cases_lt first 128) [
  | inl small ↦ small
  | inr large ↦
      let top : fewest.top ≡ length rest = omega (arith, fewest.count) in
      let high : 128 * 256 ^ length rest ≤ (0 * 256 + first) * 256 ^ length rest = mul-le-mul_right (256 ^ length rest) (omega arith) in
      absurd (omega (arith, ap (λ k. 256 ^ k) top, fewest.fits, fewest.number, number_after-ge (0 * 256 + first) rest))
]

-- the fewest octets are not redundant
fewest-needed : (n : ℕ) (octets : List ℕ) → IsFewest n octets → is_redundant octets ≡ false
fewest-needed n [] fewest = refl
fewest-needed n (first ∷ []) fewest = refl
fewest-needed n (first ∷ second ∷ rest) fewest =
    let small : first < 128 = fewest-first n first (second ∷ rest) fewest in
    let octets : AreOctets (first ∷ second ∷ rest) = fewest.are_octets in
    let low : 128 ≤ first * 256 + second = elim (cases_lt (first * 256 + second) 128) [
      | inl below ↦
          let high : ((0 * 256 + first) * 256 + second + 1) * 256 ^ length rest ≤ 128 * 256 ^ length rest = mul-le-mul_right (256 ^ length rest) (omega arith) in
          absurd (omega (arith, fewest.needed (length rest) (omega (arith, fewest.count)), fewest.number, number_after_lt 256 ((0 * 256 + first) * 256 + second) rest octets.1.1))
      | inr above ↦ above
    ]
    in
    is_redundant-false first second rest octets.0 octets.1.0 low (omega (arith, octets.1.0))

-- octets that begin with one below 128 and are not redundant are the fewest of their number
pub fewest-of_octets : (octets : List ℕ) → AreOctets octets → 0 < length octets → slice_index octets 0 < 128 → is_redundant octets ≡ false → IsFewest (big_endian_number octets) octets
fewest-of_octets [] all some small needed = absurd (omega arith)
fewest-of_octets (first ∷ rest) all some small needed = record {
  number = refl;
  are_octets = all;
  top = length rest;
  count = refl;
  fits =
      let high : (0 * 256 + first + 1) * 256 ^ length rest ≤ 128 * 256 ^ length rest = mul-le-mul_right (256 ^ length rest) (omega arith) in
      omega (arith, number_after_lt 256 (0 * 256 + first) rest all.1);
  needed = λ less e. more rest less all needed e;
}
  where
    more : (rest : List ℕ) (less : ℕ) → AreOctets (first ∷ rest) → is_redundant (first ∷ rest) ≡ false → length rest ≡ suc less → 128 * 256 ^ less ≤ big_endian_number (first ∷ rest)
    more [] less all needed e = absurd (omega arith)
    more (second ∷ rest) less all needed e =
        let between = between_redundant first second rest all.0 all.1.0 needed in
        let low : 128 * 256 ^ length rest ≤ ((0 * 256 + first) * 256 + second) * 256 ^ length rest = mul-le-mul_right (256 ^ length rest) (omega (arith, between.0)) in
        let same : less ≡ length rest = omega arith in
        omega (arith, ap (λ k. 256 ^ k) same, number_after-ge ((0 * 256 + first) * 256 + second) rest)

-- ---- the contents of a number that is not negative

-- reading what was written returns the number
pub number_natural_contents : (n : ℕ) → big_endian_number (natural_contents n) ≡ n
number_natural_contents n = (natural_contents-is_fewest n).number

-- each of the contents is an octet
pub natural_contents-are_octets : (n : ℕ) → AreOctets (natural_contents n)
natural_contents-are_octets n = (natural_contents-is_fewest n).are_octets

-- there is at least one octet (X.690 8.3.1)
pub natural_contents-some : (n : ℕ) → 0 < length (natural_contents n)
natural_contents-some n = let fewest = natural_contents-is_fewest n in omega (arith, fewest.count)

-- the first of the fewest octets, read by its index
fewest-first_of : (n : ℕ) (octets : List ℕ) → IsFewest n octets → slice_index octets 0 < 128
fewest-first_of n [] fewest = omega arith
fewest-first_of n (first ∷ rest) fewest = fewest-first n first rest fewest

-- bit 8 of the first octet is zero
pub natural_contents-first : (n : ℕ) → slice_index (natural_contents n) 0 < 128
natural_contents-first n = fewest-first_of n (natural_contents n) (natural_contents-is_fewest n)

-- no octet is redundant (X.690 8.3.2)
pub natural_contents-needed : (n : ℕ) → is_redundant (natural_contents n) ≡ false
natural_contents-needed n = fewest-needed n (natural_contents n) (natural_contents-is_fewest n)

-- octets that begin with one below 128 and are not redundant are the contents of their number
pub natural_contents-of_octets : (octets : List ℕ) → AreOctets octets → 0 < length octets → slice_index octets 0 < 128 → is_redundant octets ≡ false → natural_contents (big_endian_number octets) ≡ octets
natural_contents-of_octets octets all some small needed = fewest-unique (big_endian_number octets) (natural_contents (big_endian_number octets)) octets (natural_contents-is_fewest (big_endian_number octets)) (fewest-of_octets octets all some small needed)

-- two numbers with the same contents are the same
pub natural_contents-injective : (m n : ℕ) → natural_contents m ≡ natural_contents n → m ≡ n
natural_contents-injective m n same = sym (number_natural_contents m) ∙ ap big_endian_number same ∙ number_natural_contents n

-- ---- the number of octets of a number that is not negative

-- a number fits in 8k + 7 bits exactly if its contents are at most k + 1 octets
pub natural_contents-length_le : (n k : ℕ) → n < 128 * 256 ^ k → length (natural_contents n) ≤ k + 1
natural_contents-length_le n k fits = let fewest = natural_contents-is_fewest n in omega (arith, fewest.count, top-le n fewest.top k fewest.needed fits)

-- the converse
pub natural_contents-fits : (n k : ℕ) → length (natural_contents n) ≤ k + 1 → n < 128 * 256 ^ k
natural_contents-fits n k within =
    let fewest = natural_contents-is_fewest n in
    omega (arith, fewest.fits, pow-le-pow_right {n = 256} (omega arith) {i = fewest.top} {j = k} (omega (arith, fewest.count)))

-- the length is k + 1 if the number fits in 8k + 7 bits and in no fewer octets
pub natural_contents-length : (n k : ℕ) → n < 128 * 256 ^ k → ((less : ℕ) → k ≡ suc less → 128 * 256 ^ less ≤ n) → length (natural_contents n) ≡ k + 1
natural_contents-length n k fits needed = let fewest = natural_contents-is_fewest n in omega (arith, fewest.count, top-le n fewest.top k fewest.needed fits, top-le n k fewest.top needed fewest.fits)

-- a number of w whole octets has at most one contents octet more, which is then 00
pub natural_contents-octets_le : (n w : ℕ) → n < 256 ^ w → length (natural_contents n) ≤ w + 1
natural_contents-octets_le n w fits = natural_contents-length_le n w (omega arith)

-- a number of w octets leaves the first of w + 1 octets zero
number-zero_first : (octets : List ℕ) (w : ℕ) → AreOctets octets → length octets ≡ w + 1 → big_endian_number octets < 256 ^ w → slice_index octets 0 ≡ 0
number-zero_first [] w all count fits = refl
number-zero_first (first ∷ rest) w all count fits = elim (cases_lt 0 first) [
  | inl some ↦
      let same : length rest ≡ w = omega arith in
      let high : 1 * 256 ^ length rest ≤ (0 * 256 + first) * 256 ^ length rest = mul-le-mul_right (256 ^ length rest) (omega arith) in
      absurd (omega (arith, ap (λ k. 256 ^ k) same, number_after-ge (0 * 256 + first) rest))
  | inr none ↦ omega arith
]

-- a number of w octets leaves the first of w + 1 contents octets zero
pub natural_contents-zero_first : (n w : ℕ) → n < 256 ^ w → length (natural_contents n) ≡ w + 1 → slice_index (natural_contents n) 0 ≡ 0
natural_contents-zero_first n w fits count = number-zero_first (natural_contents n) w (natural_contents-are_octets n) count (omega (arith, number_natural_contents n))

-- the contents of a number of w octets fit in w octets, apart from a 00 in front
pub natural_contents-fits_octets : (n w : ℕ) → n < 256 ^ w → FitsUnsignedOctets w (natural_contents n)
natural_contents-fits_octets n w fits = elim (cases_lt w (length (natural_contents n))) [
  | inl more ↦
      let count : length (natural_contents n) ≡ w + 1 = omega (arith, natural_contents-octets_le n w fits) in
      inr (natural_contents-zero_first n w fits count, count)
  | inr within ↦ inl within
]

-- the test is true exactly if the octets fit
pub Decides-fits_unsigned : (width : ℕ) (octets : List ℕ) → Decides (fits_unsigned width octets) (FitsUnsignedOctets width octets)
Decides-fits_unsigned width octets =
    Decides-or (nat_le (length octets) width) (slice_index octets 0 == 0 && length octets == width + 1)
    (λ e. leb-true (length octets) width e, le-leb (length octets) width)
    (Decides-and (slice_index octets 0 == 0) (length octets == width + 1) (Decides-eqb (slice_index octets 0) 0) (Decides-eqb (length octets) (width + 1)))

-- octets write a number below 256 to their count, and a 00 in front adds nothing to it
pub number-fits_octets : (octets : List ℕ) (w : ℕ) → AreOctets octets → FitsUnsignedOctets w octets → big_endian_number octets < 256 ^ w
number-fits_octets octets w all (inl within) = omega (arith, number_lt 256 octets all, pow-le-pow_right {n = 256} (omega arith) {i = length octets} {j = w} within)
number-fits_octets [] w all (inr more) = omega (arith, more.1)
number-fits_octets (first ∷ rest) w all (inr more) =
    let same : length rest ≡ w = omega (arith, more.1) in
    let bound : number_from_digits_after 256 (0 * 256 + first) rest < (0 * 256 + first + 1) * 256 ^ length rest = number_after_lt 256 (0 * 256 + first) rest all.1 in
    omega (arith, ap (λ k. 256 ^ k) same, ap (λ f. (0 * 256 + f + 1) * 256 ^ length rest) more.0)

-- octets that begin with one below 128 are a number that leaves bit 8 of the first octet zero
number-fits : (octets : List ℕ) (k : ℕ) → AreOctets octets → length octets ≤ k + 1 → slice_index octets 0 < 128 → big_endian_number octets < 128 * 256 ^ k
number-fits [] k all within small = omega (arith, one-le-pow k 256 (omega arith))
number-fits (first ∷ rest) k all within small =
    let high : (0 * 256 + first + 1) * 256 ^ length rest ≤ 128 * 256 ^ length rest = mul-le-mul_right (256 ^ length rest) (omega arith) in
    omega (arith, number_after_lt 256 (0 * 256 + first) rest all.1, pow-le-pow_right {n = 256} (omega arith) {i = length rest} {j = k} (omega arith))

-- an octet 00 in front does not change the number
pub number-zero_front : (octets : List ℕ) → big_endian_number (0 ∷ octets) ≡ big_endian_number octets
number-zero_front octets = refl

-- octets that do not begin with 00 are the digits of their number, so its contents are these octets, after a 00 if it is needed
pub natural_contents-with_sign_octet : (octets : List ℕ) → AreOctets octets → (0 < length octets → 0 < slice_index octets 0) → natural_contents (big_endian_number octets) ≡ with_sign_octet octets
natural_contents-with_sign_octet [] all highest = natural_contents-small 0 (omega arith)
natural_contents-with_sign_octet (first ∷ rest) all highest = elim (cases_lt first 128) [
  | inl small ↦
      natural_contents-of_octets (first ∷ rest) all (omega arith) small (needed rest all small)
      ∙ ap (λ t. cond t (first ∷ rest) (0 ∷ first ∷ rest)) (sym (lt-ltb first 128 small))
  | inr large ↦
      natural_contents-of_octets (0 ∷ first ∷ rest) (omega arith, all) (omega arith) (omega arith) (is_redundant-false 0 first rest (omega arith) all.0 (omega arith) (omega (arith, all.0)))
      ∙ ap (λ t. cond t (first ∷ rest) (0 ∷ first ∷ rest)) (sym (le-ltb first 128 large))
]
  where
    some : 0 < first
    some = highest (omega arith)

    needed : (rest : List ℕ) → AreOctets (first ∷ rest) → first < 128 → is_redundant (first ∷ rest) ≡ false
    needed [] all small = refl
    needed (second ∷ rest) all small = is_redundant-false first second rest all.0 all.1.0 (omega (arith, some)) (omega (arith, all.1.0))

-- no octets of a number that begin with one below 128 are fewer than its contents (X.690 8.3.2)
pub natural_contents-shortest : (octets : List ℕ) → AreOctets octets → 0 < length octets → slice_index octets 0 < 128 → length (natural_contents (big_endian_number octets)) ≤ length octets
natural_contents-shortest octets all some small = omega (arith, natural_contents-length_le (big_endian_number octets) (length octets - 1) (number-fits octets (length octets - 1) all (omega arith) small))

-- ---- octets with each bit inverted

-- inverting does not change how many octets there are
pub length-complement_octets : (octets : List ℕ) → length (complement_octets octets) ≡ length octets
length-complement_octets [] = refl
length-complement_octets (octet ∷ octets) = ap suc (length-complement_octets octets)

-- each inverted octet is an octet
pub complement_octets-are_octets : (octets : List ℕ) → AreOctets (complement_octets octets)
complement_octets-are_octets [] = tt
complement_octets-are_octets (octet ∷ octets) = (omega arith, complement_octets-are_octets octets)

-- octets that are inverted twice are unchanged
pub complement_octets-twice : (octets : List ℕ) → AreOctets octets → complement_octets (complement_octets octets) ≡ octets
complement_octets-twice [] all = refl
complement_octets-twice (octet ∷ octets) all = let same : 255 - (255 - octet) ≡ octet = omega (arith, all.0) in ap₂ ◌∷◌ same (complement_octets-twice octets all.1)

-- the two numbers of octets and of their inverse, with m and n before them
number_after-complement_octets : (m n : ℕ) (octets : List ℕ) → AreOctets octets → number_from_digits_after 256 m (complement_octets octets) + number_from_digits_after 256 n octets + 1 ≡ (m + n + 1) * 256 ^ length octets
number_after-complement_octets m n [] all = omega (arith, ap (λ p. (m + n + 1) * p) (pow-zero 256))
number_after-complement_octets m n (octet ∷ octets) all =
    number_after-complement_octets (m * 256 + (255 - octet)) (n * 256 + octet) octets all.1
    ∙ (let inverted : 255 - octet + octet ≡ 255 = omega (arith, all.0) in omega (arith, ap (λ p. (m + n + 1) * p) (pow-suc 256 (length octets)), ap (λ v. v * 256 ^ length octets) inverted))

-- the numbers that octets and their inverse write add up to 256 ^ length - 1
pub number-complement_octets : (octets : List ℕ) → AreOctets octets → big_endian_number (complement_octets octets) + big_endian_number octets + 1 ≡ 256 ^ length octets
number-complement_octets octets all = number_after-complement_octets 0 0 octets all ∙ omega arith

-- the first octet of the inverse is the inverse of the first octet
pub complement_octets-first : (octets : List ℕ) → 0 < length octets → slice_index (complement_octets octets) 0 ≡ 255 - slice_index octets 0
complement_octets-first [] some = absurd (omega arith)
complement_octets-first (first ∷ rest) some = refl

-- octets that are not redundant are not redundant when inverted
pub complement_octets-needed : (octets : List ℕ) → AreOctets octets → is_redundant octets ≡ false → is_redundant (complement_octets octets) ≡ false
complement_octets-needed [] all needed = refl
complement_octets-needed (first ∷ []) all needed = refl
complement_octets-needed (first ∷ second ∷ rest) all needed =
    let between = between_redundant first second rest all.0 all.1.0 needed in
    is_redundant-false (255 - first) (255 - second) (complement_octets rest) (omega arith) (omega arith) (omega (arith, between.0, between.1, all.0, all.1.0)) (omega (arith, between.0, between.1, all.0, all.1.0))

-- ---- the contents of an integer

-- the contents of n are those of the number n
pub integer_contents-pos : (n : ℕ) → integer_contents (pos n) ≡ natural_contents n
unfolding integer_contents
integer_contents-pos n = refl

-- the contents of -1 - n are those of n, inverted
pub integer_contents-negsuc : (n : ℕ) → integer_contents (negsuc n) ≡ complement_octets (natural_contents n)
unfolding integer_contents
integer_contents-negsuc n = refl

-- both cases, with the sign as a flag
pub integer_contents-complement_if : (negative : Bool) (n : ℕ) → integer_contents (complement_if negative n) ≡ complement_octets_if negative (natural_contents n)
integer_contents-complement_if false n = integer_contents-pos n
integer_contents-complement_if true n = integer_contents-negsuc n

-- the magnitude of n and of -1 - n is n
pub mag-complement_if : (negative : Bool) (n : ℕ) → mag (complement_if negative n) ≡ n
mag-complement_if false n = refl
mag-complement_if true n = refl

-- each of the contents is an octet
pub integer_contents-are_octets : (z : ℤ) → AreOctets (integer_contents z)
integer_contents-are_octets (pos n) = subst AreOctets (sym (integer_contents-pos n)) (natural_contents-are_octets n)
integer_contents-are_octets (negsuc n) = subst AreOctets (sym (integer_contents-negsuc n)) (complement_octets-are_octets (natural_contents n))

-- the contents of z have as many octets as those of z, or of -1 - z for a negative z
pub integer_contents-length : (z : ℤ) → length (integer_contents z) ≡ length (natural_contents (mag z))
integer_contents-length (pos n) = ap length (integer_contents-pos n)
integer_contents-length (negsuc n) = ap length (integer_contents-negsuc n) ∙ length-complement_octets (natural_contents n)

-- there is at least one octet (X.690 8.3.1)
pub integer_contents-some : (z : ℤ) → 0 < length (integer_contents z)
integer_contents-some z = omega (arith, integer_contents-length z, natural_contents-some (mag z))

-- no octet is redundant (X.690 8.3.2)
pub integer_contents-needed : (z : ℤ) → is_redundant (integer_contents z) ≡ false
integer_contents-needed (pos n) = ap is_redundant (integer_contents-pos n) ∙ natural_contents-needed n
integer_contents-needed (negsuc n) = ap is_redundant (integer_contents-negsuc n) ∙ complement_octets-needed (natural_contents n) (natural_contents-are_octets n) (natural_contents-needed n)

-- bit 8 of the first octet is the sign: zero if the integer is not negative
pub integer_contents-pos_first : (n : ℕ) → slice_index (integer_contents (pos n)) 0 < 128
integer_contents-pos_first n = omega (arith, ap (λ c. slice_index c 0) (integer_contents-pos n), natural_contents-first n)

-- bit 8 of the first octet is set if the integer is negative
pub integer_contents-negsuc_first : (n : ℕ) → 128 ≤ slice_index (integer_contents (negsuc n)) 0
integer_contents-negsuc_first n = omega (arith, ap (λ c. slice_index c 0) (integer_contents-negsuc n), complement_octets-first (natural_contents n) (natural_contents-some n), natural_contents-first n)

-- ---- the integer whose two's complement octets are

-- if bit 8 of the first octet is zero: the number that the octets write
pub twos_complement-pos : (octets : List ℕ) → slice_index octets 0 < 128 → twos_complement octets ≡ pos (big_endian_number octets)
twos_complement-pos octets small = ap (λ t. cond t (pos (big_endian_number octets)) (pos (big_endian_number octets) -ℤ pos (256 ^ length octets))) (lt-ltb (slice_index octets 0) 128 small)

-- n - p is negative if p is greater
less-ℤ : (n p less : ℕ) → less + n + 1 ≡ p → pos n -ℤ pos p ≡ negsuc less
less-ℤ n p less sum = omega (arith, ints)

-- if bit 8 is set: -1 - n, where n is the number that the inverted octets write
pub twos_complement-negsuc : (octets : List ℕ) → AreOctets octets → 128 ≤ slice_index octets 0 → twos_complement octets ≡ negsuc (big_endian_number (complement_octets octets))
twos_complement-negsuc octets all large =
    ap (λ t. cond t (pos (big_endian_number octets)) (pos (big_endian_number octets) -ℤ pos (256 ^ length octets))) (le-ltb (slice_index octets 0) 128 large)
    ∙ less-ℤ (big_endian_number octets) (256 ^ length octets) (big_endian_number (complement_octets octets)) (number-complement_octets octets all)

-- both cases, with the sign as a flag
pub twos_complement-complement_if : (octets : List ℕ) → AreOctets octets → twos_complement octets ≡ complement_if (nat_le 128 (slice_index octets 0)) (big_endian_number (complement_octets_if (nat_le 128 (slice_index octets 0)) octets))
twos_complement-complement_if octets all = elim (cases_lt (slice_index octets 0) 128) [
  | inl small ↦ let test : nat_le 128 (slice_index octets 0) ≡ false = grind (arith, nat_tests) in twos_complement-pos octets small ∙ ap (λ t. complement_if t (big_endian_number (complement_octets_if t octets))) (sym test)
  | inr large ↦ let test : nat_le 128 (slice_index octets 0) ≡ true = grind (arith, nat_tests) in twos_complement-negsuc octets all large ∙ ap (λ t. complement_if t (big_endian_number (complement_octets_if t octets))) (sym test)
]

-- reading what was written returns the integer
pub twos_complement_integer_contents : (z : ℤ) → twos_complement (integer_contents z) ≡ z
twos_complement_integer_contents (pos n) =
    twos_complement-pos (integer_contents (pos n)) (integer_contents-pos_first n)
    ∙ ap (λ c. pos (big_endian_number c)) (integer_contents-pos n)
    ∙ ap pos (number_natural_contents n)
twos_complement_integer_contents (negsuc n) =
    twos_complement-negsuc (integer_contents (negsuc n)) (integer_contents-are_octets (negsuc n)) (integer_contents-negsuc_first n)
    ∙ ap (λ c. negsuc (big_endian_number (complement_octets c))) (integer_contents-negsuc n)
    ∙ ap (λ c. negsuc (big_endian_number c)) (complement_octets-twice (natural_contents n) (natural_contents-are_octets n))
    ∙ ap negsuc (number_natural_contents n)

-- writing what was read returns the octets, if none is redundant
pub integer_contents_twos_complement : (octets : List ℕ) → AreOctets octets → 0 < length octets → is_redundant octets ≡ false → integer_contents (twos_complement octets) ≡ octets
integer_contents_twos_complement octets all some needed = elim (cases_lt (slice_index octets 0) 128) [
  | inl small ↦
      ap integer_contents (twos_complement-pos octets small)
      ∙ integer_contents-pos (big_endian_number octets)
      ∙ natural_contents-of_octets octets all some small needed
  | inr large ↦
      ap integer_contents (twos_complement-negsuc octets all large)
      ∙ integer_contents-negsuc (big_endian_number (complement_octets octets))
      ∙ ap complement_octets (natural_contents-of_octets (complement_octets octets) (complement_octets-are_octets octets) (omega (arith, length-complement_octets octets)) (omega (arith, complement_octets-first octets some)) (complement_octets-needed octets all needed))
      ∙ complement_octets-twice octets all
]

-- two integers with the same contents are the same
pub integer_contents-injective : (y z : ℤ) → integer_contents y ≡ integer_contents z → y ≡ z
integer_contents-injective y z same = sym (twos_complement_integer_contents y) ∙ ap twos_complement same ∙ twos_complement_integer_contents z

-- ---- the number of octets of an integer

-- n for n, and -1 - z for a negative z: an integer fits in 8k + 8 bits exactly if its contents are at most k + 1 octets
pub integer_contents-length_le : (z : ℤ) (k : ℕ) → mag z < 128 * 256 ^ k → length (integer_contents z) ≤ k + 1
integer_contents-length_le z k fits = omega (arith, integer_contents-length z, natural_contents-length_le (mag z) k fits)

-- the converse
pub integer_contents-fits : (z : ℤ) (k : ℕ) → length (integer_contents z) ≤ k + 1 → mag z < 128 * 256 ^ k
integer_contents-fits z k within = natural_contents-fits (mag z) k (omega (arith, integer_contents-length z))

-- octets, redundant or not, are an integer that fits in as many bits as they have
pub twos_complement-fits : (octets : List ℕ) (k : ℕ) → AreOctets octets → 0 < length octets → length octets ≤ k + 1 → mag (twos_complement octets) < 128 * 256 ^ k
twos_complement-fits octets k all some within = elim (cases_lt (slice_index octets 0) 128) [
  | inl small ↦ omega (arith, ap mag (twos_complement-pos octets small), number-fits octets k all within small)
  | inr large ↦ omega (arith, ap mag (twos_complement-negsuc octets all large), number-fits (complement_octets octets) k (complement_octets-are_octets octets) (omega (arith, length-complement_octets octets)) (omega (arith, complement_octets-first octets some)))
]

-- 256^k as a power of 2
octet_power : (k : ℕ) → 256 ^ k ≡ 2 ^ (8 * k)
octet_power zero = refl
octet_power (suc k) =
    let sum : 8 * suc k ≡ 8 * k + 8 = omega arith in
    pow-suc 256 k ∙ ap (λ p. p * 256) (octet_power k) ∙ sym (pow-add 2 (8 * k) 8) ∙ ap (λ e. 2 ^ e) (sym sum)

-- the end of the range of w octets as a power of 256
half_power : (w : ℕ) → 0 < w → 2 ^ (8 * w - 1) ≡ 128 * 256 ^ (w - 1)
half_power w some =
    let sum : 8 * w - 1 ≡ 8 * (w - 1) + 7 = omega arith in
    ap (λ e. 2 ^ e) sum ∙ pow-add 2 (8 * (w - 1)) 7 ∙ omega (arith, octet_power (w - 1))

-- an integer is in the range of w octets exactly if its contents are at most w octets
pub integer_contents-length_le_width : (w : ℕ) (z : ℤ) → 0 < w → FitsSignedWidth w z → length (integer_contents z) ≤ w
integer_contents-length_le_width w z some fits = omega (arith, half_power w some, integer_contents-length_le z (w - 1) (omega (arith, half_power w some)))

-- the converse
pub integer_contents-fits_width : (w : ℕ) (z : ℤ) → 0 < w → length (integer_contents z) ≤ w → FitsSignedWidth w z
integer_contents-fits_width w z some within = omega (arith, half_power w some, integer_contents-fits z (w - 1) (omega arith))

-- w octets or fewer, redundant or not, are an integer in the range of w octets
pub twos_complement-fits_width : (w : ℕ) (octets : List ℕ) → AreOctets octets → 0 < length octets → length octets ≤ w → FitsSignedWidth w (twos_complement octets)
twos_complement-fits_width w octets all some within = omega (arith, half_power w (omega arith), twos_complement-fits octets (w - 1) all some (omega arith))

-- no octets of an integer are fewer than its contents (X.690 8.3.2)
pub integer_contents-shortest : (z : ℤ) (octets : List ℕ) → AreOctets octets → 0 < length octets → twos_complement octets ≡ z → length (integer_contents z) ≤ length octets
integer_contents-shortest z octets all some same =
    let fits : mag z < 128 * 256 ^ (length octets - 1) = subst (λ y. mag y < 128 * 256 ^ (length octets - 1)) same (twos_complement-fits octets (length octets - 1) all some (omega arith)) in
    omega (arith, integer_contents-length_le z (length octets - 1) fits)

-- ---- the length from the count of bits

-- a number of m bits with the highest set has m / 8 + 1 octets
pub natural_contents-length_bits : (n m : ℕ) → n < 2 ^ m → 2 ^ m ≤ 2 * n + 1 → length (natural_contents n) ≡ m / 8 + 1
natural_contents-length_bits n m fits highest = natural_contents-length n (m / 8) below needed
  where
    below : n < 128 * 256 ^ (m / 8)
    below = omega (arith, octet_power (m / 8), pow-add 2 (8 * (m / 8)) 7, pow_mono {i = m} {j = 8 * (m / 8) + 7} (omega arith))

    needed : (less : ℕ) → m / 8 ≡ suc less → 128 * 256 ^ less ≤ n
    needed less e = omega (arith, octet_power (suc less), pow-suc 256 less, pow_mono {i = 8 * suc less} {j = m} (omega arith))

-- that length, from the count of leading zeros at 128 bits
pub natural_contents-leading_zeros : (n : ℕ) → n < 2 ^ 128 → length (natural_contents n) ≡ (128 - leading_zeros w128 n) / 8 + 1
natural_contents-leading_zeros n fits =
    let found = leading_length 128 n fits in
    let bits : 128 - leading_zeros w128 n ≡ found.0 = omega (arith, found.1) in
    natural_contents-length_bits n found.0 found.2 found.3 ∙ ap (λ m. m / 8 + 1) (sym bits)
