-- Length octets encode one length, none are a proper prefix of others, and those that were written are read back.
use Rattle.std.proofs.Common.{◌≡◌, ℕ, ◌+◌, ◌-◌, ◌*◌, ◌/◌, ◌%◌, ◌^◌, ◌<◌, ◌≤◌, Bool, true, false, List, [], ◌∷◌, ◌++◌, length, Ok, refl, sym, ap, ◌∙◌, arith, append_assoc, nat_lt, nat_eq, ◌==◌, lit≤}
use Rattle.std.proofs.lemmas.List.{append-nil, length-append}
use Rattle.std.proofs.lemmas.Nat.{div-mul-add, mod-mul-add}
use Rattle.std.proofs.Math.Seq.{take-append_seam}
use Rattle.std.proofs.lemmas.Bool.Decides.{nat_tests}
use Rattle.std.specs.Cmp.Lexicographic.{pointwise}
use Rattle.std.specs.Int.Digits.{digits_of, number_from_digits, number_from_digits_after, AllBelowBase}
use Rattle.std.proofs.lemmas.Int.Digits.{digits_of_step, length-digits_of_step, number_digits_of, same_from_digits_of, length-digits_of-le}
use Rattle.der_tlv.specs.LengthOctets.{length_octets}
use Rattle.der_tlv.specs.HeaderReading.{read_length, read_long_length}

-- the digits of a number, followed by digits below the base
pub digits_of-number_after : (b n : ℕ) (ds : List ℕ) → 2 ≤ b → 0 < n → AllBelowBase b ds → digits_of b (number_from_digits_after b n ds) ≡ digits_of b n ++ ds
digits_of-number_after b n [] h k a = sym (append-nil (digits_of b n))
digits_of-number_after b n (d ∷ ds) h k (small, below) =
    let m = n * b + d in
    let more : 0 < n * b + d = more_than_none b n d h k in
    let step : digits_of b (n * b + d) ≡ digits_of b n ++ (d ∷ []) = digits_of_step b (n * b + d) h more ∙ ap (λ q. digits_of b q ++ ((n * b + d) % b ∷ [])) (div-mul-add n b d small) ∙ ap (λ r. digits_of b n ++ (r ∷ [])) (mod-mul-add n b d small) in
    digits_of-number_after b (n * b + d) ds h more below ∙ ap (λ c. c ++ ds) step ∙ append_assoc (digits_of b n) (d ∷ []) ds
  where
    more_than_none : (b n d : ℕ) → 2 ≤ b → 0 < n → 0 < n * b + d
    more_than_none b n d h k = grind (arith)

zero-times : (b d : ℕ) → 0 * b + d ≡ d
zero-times b d = omega arith

-- one digit
pub digits_of-digit : (b d : ℕ) → 2 ≤ b → 0 < d → d < b → digits_of b d ≡ d ∷ []
digits_of-digit b d h k small =
    digits_of_step b d h k ∙ ap (λ q. digits_of b q ++ (d % b ∷ [])) (div-small b d small) ∙ ap (λ r. r ∷ []) (mod-small b d small)
  where
    div-small : (b d : ℕ) → d < b → d / b ≡ 0
    div-small b d small = ap (λ z. z / b) (sym (zero-times b d)) ∙ div-mul-add 0 b d small

    mod-small : (b d : ℕ) → d < b → d % b ≡ d
    mod-small b d small = ap (λ z. z % b) (sym (zero-times b d)) ∙ mod-mul-add 0 b d small

-- digits that do not begin with zero are those of their number
pub digits_of-number : (b d : ℕ) (ds : List ℕ) → 2 ≤ b → 0 < d → AllBelowBase b (d ∷ ds) → digits_of b (number_from_digits b (d ∷ ds)) ≡ d ∷ ds
digits_of-number b d ds h k (small, below) =
    ap (λ m. digits_of b (number_from_digits_after b m ds)) (zero-times b d) ∙ digits_of-number_after b d ds h k below ∙ ap (λ c. c ++ ds) (digits_of-digit b d h k small)

-- if two lists are equal, so are their first parts of the same length, and their rests
pub split_same_length : (a b x y : List ℕ) → length a ≡ length b → a ++ x ≡ b ++ y → (a ≡ b) × (x ≡ y)
split_same_length [] [] x y l e = (refl, e)
split_same_length [] (n ∷ b) x y l e = absurd (omega arith)
split_same_length (m ∷ a) [] x y l e = absurd (omega arith)
split_same_length (m ∷ a) (n ∷ b) x y l e =
    let k : length a ≡ length b = omega arith in
    let f : a ++ x ≡ b ++ y = cc in
    let same = split_same_length a b x y k f in
    let head : m ≡ n = cc in
    (ap (λ k. k ∷ a) head ∙ ap (λ c. n ∷ c) same.0, same.1)

pub length_octets-unique : (m n : ℕ) (x y : List ℕ) → length_octets m ++ x ≡ length_octets n ++ y → (m ≡ n) × (x ≡ y)
unfolding length_octets
length_octets-unique m n x y = at (nat_lt m 128) (nat_lt n 128) refl refl
  where
    at : (a b : Bool) → nat_lt m 128 ≡ a → nat_lt n 128 ≡ b → length_octets m ++ x ≡ length_octets n ++ y → (m ≡ n) × (x ≡ y)
    at true true e f h = let k = rw (e, f) at h in (cc, cc)
    at true false e f h =
        let k = rw (e, f) at h in
        let first : m ≡ 128 + length (digits_of 256 n) = cc in
        let small : m < 128 = grind (arith, nat_tests) in
        absurd (omega arith)
    at false true e f h =
        let k = rw (e, f) at h in
        let first : 128 + length (digits_of 256 m) ≡ n = cc in
        let small : n < 128 = grind (arith, nat_tests) in
        absurd (omega arith)
    at false false e f h =
        let k = rw (e, f) at h in
        let first : 128 + length (digits_of 256 m) ≡ 128 + length (digits_of 256 n) = cc in
        let counts : length (digits_of 256 m) ≡ length (digits_of 256 n) = omega arith in
        let others : digits_of 256 m ++ x ≡ digits_of 256 n ++ y = cc in
        let same = split_same_length (digits_of 256 m) (digits_of 256 n) x y counts others in
        (same_from_digits_of 256 m n (lit≤ tt) same.0, same.1)

pub length_octets-injective : (m n : ℕ) → length_octets m ≡ length_octets n → m ≡ n
length_octets-injective m n e = (length_octets-unique m n [] [] (ap (λ c. c ++ []) e)).0

-- a length has at least one octet
pub length_octets-some : (n : ℕ) → 0 < length (length_octets n)
unfolding length_octets
length_octets-some n = at (nat_lt n 128) refl
  where
    at : (a : Bool) → nat_lt n 128 ≡ a → 0 < length (length_octets n)
    at true e = rw e (omega arith)
    at false e = rw e (omega arith)

pub length_octets-few : (n : ℕ) → n < 2 ^ 32 → length (length_octets n) ≤ 5
unfolding length_octets
length_octets-few n small = at (nat_lt n 128) refl
  where
    at : (a : Bool) → nat_lt n 128 ≡ a → length (length_octets n) ≤ 5
    at true e = rw e (omega arith)
    at false e = let few = length-digits_of-le 256 4 n (lit≤ tt) small in rw e (omega arith)

-- a list equals itself, octet for octet
pub pointwise-same : (a : List ℕ) → pointwise nat_eq a a ≡ true
pointwise-same [] = refl
pointwise-same (x ∷ a) = let e : nat_eq x x ≡ true = grind (arith, nat_tests) in rw (e, pointwise-same a) refl

-- a list is not shorter than its first part
pub not_short : (c x : List ℕ) → nat_lt (length (c ++ x)) (length c) ≡ false
not_short c x = let h = length-append c x in grind (arith, nat_tests)

-- length octets that were written are read back, whatever follows
pub read_long_length-digits : (n p : ℕ) (x : List ℕ) → nat_lt n 128 ≡ false → read_long_length (length (digits_of 256 n)) p (digits_of 256 n ++ x) ≡ Ok (length (digits_of 256 n), n)
unfolding read_long_length length_octets
read_long_length-digits n p x long =
    let ds = digits_of 256 n in
    let enough : nat_lt (length (digits_of 256 n ++ x)) (length (digits_of 256 n)) ≡ false = not_short (digits_of 256 n) x in
    let same : pointwise nat_eq (length_octets n) ((128 + length (digits_of 256 n)) ∷ digits_of 256 n) ≡ true = rw long (pointwise-same ((128 + length (digits_of 256 n)) ∷ digits_of 256 n)) in
    rw (enough, take-append_seam (digits_of 256 n) x, number_digits_of 256 n (lit≤ tt), same) refl

some_digits : (n : ℕ) → nat_lt n 128 ≡ false → 0 < length (digits_of 256 n)
some_digits n e =
    let more : 0 < n = grind (arith, nat_tests) in
    omega (arith, length-digits_of_step 256 n (lit≤ tt) more)

pub read_length-octets : (n p : ℕ) (x : List ℕ) → n < 2 ^ 32 → read_length p (length_octets n ++ x) ≡ Ok (length (length_octets n), n)
unfolding read_length length_octets
read_length-octets n p x small = at (nat_lt n 128) refl
  where
    at : (a : Bool) → nat_lt n 128 ≡ a → read_length p (length_octets n ++ x) ≡ Ok (length (length_octets n), n)
    at true e = rw (e, e) refl
    at false e =
        let few = length-digits_of-le 256 4 n (lit≤ tt) small in
        let some : 0 < length (digits_of 256 n) = some_digits n e in
        let not_one : nat_lt (128 + length (digits_of 256 n)) 128 ≡ false = grind (arith, nat_tests) in
        let not_none : (128 + length (digits_of 256 n) == 128) ≡ false = grind (arith, nat_tests) in
        let not_more : nat_lt 132 (128 + length (digits_of 256 n)) ≡ false = grind (arith, nat_tests) in
        let count : 128 + length (digits_of 256 n) - 128 ≡ length (digits_of 256 n) = omega arith in
        let read = read_long_length-digits n (p + 1) x e in
        rw (e, not_one, not_none, not_more, count, read) refl
