-- The order of numbers in the fewest octets: the one with fewer octets is less, and of two with as many the first octet that differs decides.
use Rattle.std.proofs.Common.{◌≡◌, ℕ, ◌+◌, ◌*◌, ◌<◌, ◌≤◌, ◌^◌, ◌==◌, Bool, true, false, cond, if◌then◌else◌, List, [], ◌∷◌, length, refl, sym, ap, ◌∙◌, arith, subst, nat_lt, lit≤}
use Rattle.std.proofs.lemmas.Bool.Decides.{nat_tests}
use Rattle.std.specs.Ordering.{nat_cmp, ordering_then}
use Rattle.std.specs.declared.cmp.Ordering.TheVariants.{Less}
use Rattle.std.specs.Int.Digits.{digits_of, number_from_digits_after, AllBelowBase}
use Rattle.std.proofs.lemmas.Int.Digits.{number_lt, length-digits_of-le, all_below_base_digits_of}
use Rattle.der_tlv.specs.Octets.{lex}
use Rattle.der_tlv.specs.OrderingLaws.{then_assoc, then_equal}
use Rattle.der_elem.specs.Integer.{big_endian_number, with_sign_octet}
use Rattle.der_numbers.specs.AnyLength.{without_sign_octet}

-- a property of the octets that are kept, from one of the digits
kept_if : (d : ℕ) (P : List ℕ → Type 0) (ds : List ℕ) (b : Bool) → P (without_sign_octet (d ∷ ds)) → P (d ∷ ds) → P (without_sign_octet (cond b (d ∷ ds) (0 ∷ d ∷ ds)))
kept_if d P ds true all most = all
kept_if d P ds false all most = most

zero_if : (P : List ℕ → Type 0) (d e : ℕ) (ds : List ℕ) (b : Bool) → P (e ∷ ds) → P (d ∷ e ∷ ds) → P (if b then e ∷ ds else d ∷ e ∷ ds)
zero_if P d e ds true fewer all = fewer
zero_if P d e ds false fewer all = all

some_kept : (ds : List ℕ) → 0 < length (without_sign_octet (with_sign_octet ds))
some_kept [] = lit≤ tt
some_kept (d ∷ []) = kept_if d (λ o. 0 < length o) [] (nat_lt d 128) (lit≤ tt) (lit≤ tt)
some_kept (d ∷ e ∷ ds) = kept_if d (λ o. 0 < length o) (e ∷ ds) (nat_lt d 128) (zero_if (λ o. 0 < length o) d e ds (d == 0) (omega arith) (omega arith)) (omega arith)

few_kept : (ds : List ℕ) → 1 < length (without_sign_octet (with_sign_octet ds)) → length (without_sign_octet (with_sign_octet ds)) ≤ length ds
few_kept [] more = absurd (omega (arith, more))
few_kept (d ∷ []) more = kept_if d (λ o. length o ≤ 1) [] (nat_lt d 128) (lit≤ tt) (lit≤ tt)
few_kept (d ∷ e ∷ ds) more = kept_if d (λ o. length o ≤ length (d ∷ e ∷ ds)) (e ∷ ds) (nat_lt d 128) (zero_if (λ o. length o ≤ length (d ∷ e ∷ ds)) d e ds (d == 0) (omega arith) (omega arith)) (omega arith)

kept_below : (ds : List ℕ) → AllBelowBase 256 ds → AllBelowBase 256 (without_sign_octet (with_sign_octet ds))
kept_below [] all = (lit≤ tt, tt)
kept_below (d ∷ []) all = kept_if d (AllBelowBase 256) [] (nat_lt d 128) all all
kept_below (d ∷ e ∷ ds) all = kept_if d (AllBelowBase 256) (e ∷ ds) (nat_lt d 128) (zero_if (AllBelowBase 256) d e ds (d == 0) all.1 all) all

digit_cmp : (m n x y : ℕ) → x < 256 → y < 256 → nat_cmp (m * 256 + x) (n * 256 + y) ≡ ordering_then (nat_cmp m n) (nat_cmp x y)
digit_cmp m n x y h k = grind (arith, nat_tests)

-- the order of two lists with the same number of digits is that of their numbers
digits_cmp : (m n : ℕ) (xs ys : List ℕ) → AllBelowBase 256 xs → AllBelowBase 256 ys → length xs ≡ length ys → nat_cmp (number_from_digits_after 256 m xs) (number_from_digits_after 256 n ys) ≡ ordering_then (nat_cmp m n) (lex xs ys)
digits_cmp m n [] [] a b l = sym (then_equal (nat_cmp m n))
digits_cmp m n [] (y ∷ ys) a b l = absurd (omega arith)
digits_cmp m n (x ∷ xs) [] a b l = absurd (omega arith)
digits_cmp m n (x ∷ xs) (y ∷ ys) (a, as') (b, bs) l =
    digits_cmp (m * 256 + x) (n * 256 + y) xs ys as' bs (omega arith) ∙ ap (λ o. ordering_then o (lex xs ys)) (digit_cmp m n x y a b) ∙ sym (then_assoc (nat_cmp m n) (nat_cmp x y) (lex xs ys))

module _ (first second : List ℕ) (first_is : first ≡ without_sign_octet (with_sign_octet (digits_of 256 (big_endian_number first)))) (second_is : second ≡ without_sign_octet (with_sign_octet (digits_of 256 (big_endian_number second)))) where
  below_first : AllBelowBase 256 first
  below_first = subst (AllBelowBase 256) (sym first_is) (kept_below (digits_of 256 (big_endian_number first)) (all_below_base_digits_of 256 (big_endian_number first) (lit≤ tt)))

  below_second : AllBelowBase 256 second
  below_second = subst (AllBelowBase 256) (sym second_is) (kept_below (digits_of 256 (big_endian_number second)) (all_below_base_digits_of 256 (big_endian_number second) (lit≤ tt)))

  pub as_long : length first ≡ length second → lex first second ≡ nat_cmp (big_endian_number first) (big_endian_number second)
  as_long same = sym (digits_cmp 0 0 first second below_first below_second same)

-- the number with fewer octets is less
pub shorter : (first second : List ℕ) → first ≡ without_sign_octet (with_sign_octet (digits_of 256 (big_endian_number first))) → second ≡ without_sign_octet (with_sign_octet (digits_of 256 (big_endian_number second))) → length first < length second → big_endian_number first < big_endian_number second
shorter first second first_is second_is l = at (nat_lt (big_endian_number first) (big_endian_number second)) refl
  where
    at : (b : Bool) → nat_lt (big_endian_number first) (big_endian_number second) ≡ b → big_endian_number first < big_endian_number second
    at true e = grind (arith, nat_tests)
    at false e =
        let most : big_endian_number first < 256 ^ length first = number_lt 256 first (below_first first second first_is second_is) in
        let le : big_endian_number second ≤ big_endian_number first = grind (arith, nat_tests) in
        let less : big_endian_number second < 256 ^ length first = omega arith in
        let some : 0 < length first = subst (λ o. 0 < length o) (sym first_is) (some_kept (digits_of 256 (big_endian_number first))) in
        let digits = length-digits_of-le 256 (length first) (big_endian_number second) (lit≤ tt) less in
        let kept : length second ≤ length (digits_of 256 (big_endian_number second)) = subst (λ o. length o ≤ length (digits_of 256 (big_endian_number second))) (sym second_is) (few_kept (digits_of 256 (big_endian_number second)) (subst (λ o. 1 < length o) second_is (omega arith))) in
        absurd (omega arith)

pub is_less : (m n : ℕ) → nat_cmp m n ≡ Less → true ≡ nat_lt m n
is_less m n e = grind (arith, nat_tests)

pub is_not_less : (m n : ℕ) → (nat_cmp m n ≡ Less → ⊥) → false ≡ nat_lt m n
is_not_less m n other = at (nat_lt m n) refl
  where
    at : (b : Bool) → nat_lt m n ≡ b → false ≡ nat_lt m n
    at true e = absurd (other (grind (arith, nat_tests)))
    at false e = sym e

pub by_length : (first second : List ℕ) → first ≡ without_sign_octet (with_sign_octet (digits_of 256 (big_endian_number first))) → second ≡ without_sign_octet (with_sign_octet (digits_of 256 (big_endian_number second))) → (length first ≡ length second → ⊥) → nat_lt (length first) (length second) ≡ nat_lt (big_endian_number first) (big_endian_number second)
by_length first second first_is second_is differ = at (nat_lt (length first) (length second)) refl
  where
    at : (b : Bool) → nat_lt (length first) (length second) ≡ b → nat_lt (length first) (length second) ≡ nat_lt (big_endian_number first) (big_endian_number second)
    at true e =
        let l : length first < length second = grind (arith, nat_tests) in
        let n = shorter first second first_is second_is l in
        e ∙ sym (grind (arith, nat_tests))
    at false e =
        let no : length second ≤ length first = grind (arith, nat_tests) in
        let l : length second < length first = omega (arith, no, differ) in
        let n = shorter second first second_is first_is l in
        e ∙ sym (grind (arith, nat_tests))
