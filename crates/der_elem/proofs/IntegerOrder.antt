-- The order of contents octets as that of numbers: of the octets with zeros after them, and then of their count.
use Rattle.std.proofs.Common.{◌≡◌, ℕ, zero, suc, ◌+◌, ◌-◌, ◌*◌, ◌<◌, ◌≤◌, ◌^◌, ◌/◌, ◌%◌, ◌++◌, inl, inr, List, [], ◌∷◌, length, length-append, refl, sym, ap, ap₂, ◌∙◌, arith, mul-le-mul_right, Ordering, ℤ, pos, SFits}
use Rattle.std.proofs.Math.Nat.{add-mul, mul_assoc, mul-lt-mul_of_pos_right, one-le-pow}
use Rattle.std.proofs.lemmas.Bool.{cases_lt}
use Rattle.std.proofs.lemmas.Bool.Decides.{nat_tests}
use Rattle.std.proofs.lemmas.Nat.{pow-add}
use Rattle.std.proofs.lemmas.Int.Digits.{number_lt}
use Rattle.std.specs.declared.cmp.Ordering.TheVariants.{Less, Equal, Greater}
use Rattle.std.specs.Ordering.{nat_cmp, ordering_then}
use Rattle.std.specs.Int.{w128}
use Rattle.der_tlv.specs.Octets.{lex}
use Rattle.der_tlv.specs.OrderingLaws.{then_assoc, then_equal}
use Rattle.der_elem.specs.Integer.{AreOctets, big_endian_number, left_aligned, integer_contents, natural_contents}
use Rattle.der_elem.specs.IntegerLaws.{integer_contents-are_octets, integer_contents-pos, natural_contents-are_octets, natural_contents-length, natural_contents-length_le, natural_contents-step, number_natural_contents}
use Rattle.der_elem.proofs.IntegerBytes.{wide_length}
use Rattle.der_elem.proofs.IntegerContents.{number_after_number}

sum_back : (k l : ℕ) → l ≤ k → l + (k - l) ≡ k
sum_back k l within = omega (arith, within)

-- one more octet in front of others
left_aligned-cons : (k d : ℕ) (ds : List ℕ) → length ds ≤ k → left_aligned (suc k) (d ∷ ds) ≡ d * 256 ^ k + left_aligned k ds
left_aligned-cons k d ds within =
    let first : 0 * 256 + d ≡ d = omega arith in
    let fewer : suc k - suc (length ds) ≡ k - length ds = omega arith in
    ap (λ e. big_endian_number (d ∷ ds) * 256 ^ e) fewer
    ∙ ap (λ n. n * 256 ^ (k - length ds)) (number_after_number (0 * 256 + d) ds ∙ ap (λ e. e * 256 ^ length ds + big_endian_number ds) first)
    ∙ add-mul (d * 256 ^ length ds) (big_endian_number ds) (256 ^ (k - length ds))
    ∙ ap (λ n. n + left_aligned k ds) (mul_assoc d (256 ^ length ds) (256 ^ (k - length ds)) ∙ ap (λ p. d * p) (sym (pow-add 256 (length ds) (k - length ds)) ∙ ap (λ e. 256 ^ e) (sum_back k (length ds) within)))

left_aligned-lt : (k : ℕ) (ds : List ℕ) → AreOctets ds → length ds ≤ k → left_aligned k ds < 256 ^ k
left_aligned-lt k ds all within =
    let unit = 256 ^ (k - length ds) in
    let some : 0 < unit = one-le-pow (k - length ds) 256 (omega arith) in
    let below : big_endian_number ds * unit < 256 ^ length ds * unit = mul-lt-mul_of_pos_right {m = big_endian_number ds} {n = 256 ^ length ds} {k = unit} (number_lt 256 ds all) some in
    omega (arith, below, sym (pow-add 256 (length ds) (k - length ds)) ∙ ap (λ e. 256 ^ e) (sum_back k (length ds) within))

-- the higher digits decide, and then the rest
digit_first : (p a b x y : ℕ) → x < p → y < p → nat_cmp (a * p + x) (b * p + y) ≡ ordering_then (nat_cmp a b) (nat_cmp x y)
digit_first p a b x y left right = elim (cases_lt a b) [
  | inl less ↦ let above : (a + 1) * p ≤ b * p = mul-le-mul_right {m = a + 1} {n = b} p (omega arith) in let one = add-mul a 1 p in grind (arith, nat_tests, above, one)
  | inr other ↦
      elim (cases_lt b a) [
        | inl less ↦ let above : (b + 1) * p ≤ a * p = mul-le-mul_right {m = b + 1} {n = a} p (omega arith) in let one = add-mul b 1 p in grind (arith, nat_tests, above, one)
        | inr same ↦ let e : a ≡ b = omega arith in rw e (grind (arith, nat_tests))
      ]
]

suc_cmp : (m n : ℕ) → nat_cmp m n ≡ nat_cmp (suc m) (suc n)
suc_cmp m n = grind (arith, nat_tests)

-- the order of octets is that of these numbers, and then that of their counts
pub lex-left_aligned : (k : ℕ) (cs ds : List ℕ) → AreOctets cs → AreOctets ds → length cs ≤ k → length ds ≤ k → lex cs ds ≡ ordering_then (nat_cmp (left_aligned k cs) (left_aligned k ds)) (nat_cmp (length cs) (length ds))
lex-left_aligned k [] [] all_c all_d c d = grind (arith, nat_tests)
lex-left_aligned k [] (y ∷ ds) all_c all_d c d = grind (arith, nat_tests)
lex-left_aligned k (x ∷ cs) [] all_c all_d c d = grind (arith, nat_tests)
lex-left_aligned zero (x ∷ cs) (y ∷ ds) all_c all_d c d = absurd (omega arith)
lex-left_aligned (suc k) (x ∷ cs) (y ∷ ds) all_c all_d c d =
    ap (ordering_then (nat_cmp x y)) (lex-left_aligned k cs ds all_c.1 all_d.1 (omega (arith, c)) (omega (arith, d)))
    ∙ then_assoc (nat_cmp x y) (nat_cmp (left_aligned k cs) (left_aligned k ds)) (nat_cmp (length cs) (length ds))
    ∙ ap (λ o. ordering_then o (nat_cmp (length cs) (length ds)))
    (sym (digit_first (256 ^ k) x y (left_aligned k cs) (left_aligned k ds) (left_aligned-lt k cs all_c.1 (omega (arith, c))) (left_aligned-lt k ds all_d.1 (omega (arith, d))))
    ∙ sym (ap₂ nat_cmp (left_aligned-cons k x cs (omega (arith, c))) (left_aligned-cons k y ds (omega (arith, d)))))
    ∙ ap (ordering_then (nat_cmp (left_aligned (suc k) (x ∷ cs)) (left_aligned (suc k) (y ∷ ds)))) (suc_cmp (length cs) (length ds))

-- ---- integers of 128 bits

of_equal : (o p : Ordering) → o ≡ Equal → ordering_then o p ≡ p
of_equal o p e = ap (λ q. ordering_then q p) e

of_other : (o p : Ordering) → (o ≡ Equal → ⊥) → ordering_then o p ≡ o
of_other Less p other = refl
of_other Equal p other = absurd (other refl)
of_other Greater p other = refl

module _ (y z : ℤ) (fits_y : SFits w128 y) (fits_z : SFits w128 z) where
  told : lex (integer_contents y) (integer_contents z) ≡ ordering_then (nat_cmp (left_aligned 16 (integer_contents y)) (left_aligned 16 (integer_contents z))) (nat_cmp (length (integer_contents y)) (length (integer_contents z)))
  told = lex-left_aligned 16 (integer_contents y) (integer_contents z) (integer_contents-are_octets y) (integer_contents-are_octets z) (wide_length y fits_y) (wide_length z fits_z)

  -- if the numbers are equal, the number of octets decides
  pub integers_tied : nat_cmp (left_aligned 16 (integer_contents y)) (left_aligned 16 (integer_contents z)) ≡ Equal → nat_cmp (length (integer_contents y)) (length (integer_contents z)) ≡ lex (integer_contents y) (integer_contents z)
  integers_tied e = sym (told ∙ of_equal (nat_cmp (left_aligned 16 (integer_contents y)) (left_aligned 16 (integer_contents z))) _ e)

  -- if the numbers are not equal, they decide
  pub integers_decided : (nat_cmp (left_aligned 16 (integer_contents y)) (left_aligned 16 (integer_contents z)) ≡ Equal → ⊥) → nat_cmp (left_aligned 16 (integer_contents y)) (left_aligned 16 (integer_contents z)) ≡ lex (integer_contents y) (integer_contents z)
  integers_decided other = sym (told ∙ of_other (nat_cmp (left_aligned 16 (integer_contents y)) (left_aligned 16 (integer_contents z))) _ other)

-- ---- numbers of 128 bits that are not negative

-- one more octet after octets that are at least as many as others
lex-after : (cs ds : List ℕ) (last : ℕ) → length ds ≤ length cs → lex (cs ++ last ∷ []) ds ≡ ordering_then (lex cs ds) Greater
lex-after [] [] last within = refl
lex-after [] (y ∷ ds) last within = absurd (omega arith)
lex-after (x ∷ cs) [] last within = refl
lex-after (x ∷ cs) (y ∷ ds) last within =
    ap (ordering_then (nat_cmp x y)) (lex-after cs ds last (omega arith)) ∙ then_assoc (nat_cmp x y) (lex cs ds) Greater

lex-before : (cs ds : List ℕ) (last : ℕ) → length cs ≤ length ds → lex cs (ds ++ last ∷ []) ≡ ordering_then (lex cs ds) Less
lex-before [] [] last within = refl
lex-before (x ∷ cs) [] last within = absurd (omega arith)
lex-before [] (y ∷ ds) last within = refl
lex-before (x ∷ cs) (y ∷ ds) last within =
    ap (ordering_then (nat_cmp x y)) (lex-before cs ds last (omega arith)) ∙ then_assoc (nat_cmp x y) (lex cs ds) Less

-- a number of 128 bits that does not fit in 127 bits has 17 contents octets, and the first 16 are those of its quotient by 256
long_length : (n : ℕ) → 2 ^ 127 ≤ n → n < 2 ^ 128 → length (natural_contents n) ≡ 17
long_length n large fits = natural_contents-length n 16 (omega (arith, fits)) (λ less e. let l : less ≡ 15 = omega (arith, e) in rw l (omega (arith, large)))

quotient_length : (n : ℕ) → 2 ^ 127 ≤ n → n < 2 ^ 128 → length (natural_contents (n / 256)) ≡ 16
quotient_length n large fits = omega (arith, long_length n large fits, ap length (natural_contents-step n (omega (arith, large))), length-append (natural_contents (n / 256)) (n % 256 ∷ []))

short_natural : (n : ℕ) → n < 2 ^ 127 → length (natural_contents n) ≤ 16
short_natural n fits = natural_contents-length_le n 15 (omega (arith, fits))

pub long_first : (m n : ℕ) → 2 ^ 127 ≤ m → m < 2 ^ 128 → n < 2 ^ 127 → lex (natural_contents m) (natural_contents n) ≡ ordering_then (lex (natural_contents (m / 256)) (natural_contents n)) Greater
long_first m n large fits few =
    ap (λ c. lex c (natural_contents n)) (natural_contents-step m (omega (arith, large)))
    ∙ lex-after (natural_contents (m / 256)) (natural_contents n) (m % 256) (omega (arith, quotient_length m large fits, short_natural n few))

pub long_second : (m n : ℕ) → m < 2 ^ 127 → 2 ^ 127 ≤ n → n < 2 ^ 128 → lex (natural_contents m) (natural_contents n) ≡ ordering_then (lex (natural_contents m) (natural_contents (n / 256))) Less
long_second m n few large fits =
    ap (lex (natural_contents m)) (natural_contents-step n (omega (arith, large)))
    ∙ lex-before (natural_contents m) (natural_contents (n / 256)) (n % 256) (omega (arith, quotient_length n large fits, short_natural m few))

pub both_long : (m n : ℕ) → 2 ^ 127 ≤ m → m < 2 ^ 128 → 2 ^ 127 ≤ n → n < 2 ^ 128 → lex (natural_contents m) (natural_contents n) ≡ nat_cmp m n
both_long m n large_m fits_m large_n fits_n =
    let c = long_length m large_m fits_m in
    let d = long_length n large_n fits_n in
    lex-left_aligned 17 (natural_contents m) (natural_contents n) (natural_contents-are_octets m) (natural_contents-are_octets n) (omega (arith, c)) (omega (arith, d))
    ∙ ap₂ (λ o p. ordering_then o p) (ap₂ nat_cmp (whole m c) (whole n d)) (ap₂ nat_cmp c d)
    ∙ then_equal (nat_cmp m n)
  where
    whole : (k : ℕ) → length (natural_contents k) ≡ 17 → left_aligned 17 (natural_contents k) ≡ k
    whole k l = ap (λ e. big_endian_number (natural_contents k) * 256 ^ (17 - e)) l ∙ omega (arith, number_natural_contents k)

pub natural_of : (z : ℤ) (n : ℕ) → z ≡ pos n → integer_contents z ≡ natural_contents n
natural_of z n e = ap integer_contents e ∙ integer_contents-pos n

-- a number below 2^127 is in the range of signed 128 bits, and so is the quotient of any number of 128 bits by 256
pub half_fits : (n : ℕ) → n < 2 ^ 127 → SFits w128 (pos n)
half_fits n fits = record { sfits = omega (arith, fits) }

pub quotient_fits : (n : ℕ) → n < 2 ^ 128 → SFits w128 (pos (n / 256))
quotient_fits n fits = record { sfits = omega (arith, fits) }
