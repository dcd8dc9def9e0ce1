-- The order of headers and of encodings, octet by octet.
use Rattle.std.proofs.Common.{◌≡◌, ℕ, ◌+◌, ◌*◌, ◌<◌, ◌≤◌, ◌^◌, Bool, true, false, List, [], ◌∷◌, ◌++◌, length, refl, sym, ap, ◌∙◌, arith, subst, append_assoc, nat_lt, lit≤}
use Rattle.std.proofs.lemmas.Bool.Decides.{nat_tests}
use Rattle.std.specs.Ordering.{nat_cmp, ordering_then}
use Rattle.std.specs.Int.Digits.{digits_of, number_from_digits, number_from_digits_after, AllBelowBase}
use Rattle.std.proofs.lemmas.Int.Digits.{number_digits_of, all_below_base_digits_of, number_lt, length-digits_of-le}
use Rattle.der_tlv.specs.declared.tag.Tag.{Tag}
use Rattle.der_tlv.specs.Octets.{lex}
use Rattle.der_tlv.specs.OrderingLaws.{then_assoc, then_equal, nat_cmp-less, nat_cmp-greater, nat_cmp-same}
use Rattle.der_tlv.specs.OctetLaws.{SameBeginning, lex-append}
use Rattle.der_tlv.specs.Identifier.{identifier}
use Rattle.der_tlv.specs.IdentifierLaws.{lex-identifier}
use Rattle.der_tlv.specs.LengthOctets.{length_octets}
use Rattle.der_tlv.specs.LengthLaws.{length_octets-unique}
use Rattle.der_tlv.specs.HeaderOctets.{tlv}

-- one more digit
digit_cmp : (m n x y : ℕ) → x < 256 → y < 256 → nat_cmp (m * 256 + x) (n * 256 + y) ≡ ordering_then (nat_cmp m n) (nat_cmp x y)
digit_cmp m n x y h k = grind (arith, nat_tests)

-- the order of two lists with the same number of digits is that of their numbers
digits_cmp : (m n : ℕ) (xs ys : List ℕ) → AllBelowBase 256 xs → AllBelowBase 256 ys → length xs ≡ length ys → nat_cmp (number_from_digits_after 256 m xs) (number_from_digits_after 256 n ys) ≡ ordering_then (nat_cmp m n) (lex xs ys)
digits_cmp m n [] [] a b l = sym (then_equal (nat_cmp m n))
digits_cmp m n [] (y ∷ ys) a b l = absurd (omega arith)
digits_cmp m n (x ∷ xs) [] a b l = absurd (omega arith)
digits_cmp m n (x ∷ xs) (y ∷ ys) (a, as') (b, bs) l =
    digits_cmp (m * 256 + x) (n * 256 + y) xs ys as' bs (omega arith) ∙ ap (λ o. ordering_then o (lex xs ys)) (digit_cmp m n x y a b) ∙ sym (then_assoc (nat_cmp m n) (nat_cmp x y) (lex xs ys))

-- the order of the digits of two numbers that have the same number of digits
lex-digits : (m n : ℕ) → length (digits_of 256 m) ≡ length (digits_of 256 n) → lex (digits_of 256 m) (digits_of 256 n) ≡ nat_cmp m n
lex-digits m n l =
    sym (digits_cmp 0 0 (digits_of 256 m) (digits_of 256 n) (all_below_base_digits_of 256 m (lit≤ tt)) (all_below_base_digits_of 256 n (lit≤ tt)) l) ∙ ap (λ k. nat_cmp k (number_from_digits 256 (digits_of 256 n))) (number_digits_of 256 m (lit≤ tt)) ∙ ap (nat_cmp m) (number_digits_of 256 n (lit≤ tt))

-- the number with more digits is greater
more_digits : (m n : ℕ) → length (digits_of 256 m) < length (digits_of 256 n) → m < n
more_digits m n l = at (nat_lt m n) refl
  where
    at : (b : Bool) → nat_lt m n ≡ b → m < n
    at true e = grind (arith, nat_tests)
    at false e =
        let most : m < 256 ^ length (digits_of 256 m) = subst (λ k. k < 256 ^ length (digits_of 256 m)) (number_digits_of 256 m (lit≤ tt)) (number_lt 256 (digits_of 256 m) (all_below_base_digits_of 256 m (lit≤ tt))) in
        let le : n ≤ m = grind (arith, nat_tests) in
        let less : n < 256 ^ length (digits_of 256 m) = omega arith in
        let few = length-digits_of-le 256 (length (digits_of 256 m)) n (lit≤ tt) less in
        absurd (omega arith)

-- the number of digits decides, and then the digits
long_cmp : (m n : ℕ) → ordering_then (nat_cmp (128 + length (digits_of 256 m)) (128 + length (digits_of 256 n))) (lex (digits_of 256 m) (digits_of 256 n)) ≡ nat_cmp m n
long_cmp m n = at (nat_lt (length (digits_of 256 m)) (length (digits_of 256 n))) (nat_lt (length (digits_of 256 n)) (length (digits_of 256 m))) refl refl
  where
    at : (a b : Bool) → nat_lt (length (digits_of 256 m)) (length (digits_of 256 n)) ≡ a → nat_lt (length (digits_of 256 n)) (length (digits_of 256 m)) ≡ b → ordering_then (nat_cmp (128 + length (digits_of 256 m)) (128 + length (digits_of 256 n))) (lex (digits_of 256 m) (digits_of 256 n)) ≡ nat_cmp m n
    at true b e f =
        let l : length (digits_of 256 m) < length (digits_of 256 n) = grind (arith, nat_tests) in
        let k : 128 + length (digits_of 256 m) < 128 + length (digits_of 256 n) = omega arith in
        ap (λ o. ordering_then o (lex (digits_of 256 m) (digits_of 256 n))) (nat_cmp-less (128 + length (digits_of 256 m)) (128 + length (digits_of 256 n)) k) ∙ sym (nat_cmp-less m n (more_digits m n l))
    at false true e f =
        let l : length (digits_of 256 n) < length (digits_of 256 m) = grind (arith, nat_tests) in
        let k : 128 + length (digits_of 256 n) < 128 + length (digits_of 256 m) = omega arith in
        ap (λ o. ordering_then o (lex (digits_of 256 m) (digits_of 256 n))) (nat_cmp-greater (128 + length (digits_of 256 m)) (128 + length (digits_of 256 n)) k) ∙ sym (nat_cmp-greater m n (more_digits n m l))
    at false false e f =
        let l : length (digits_of 256 m) ≡ length (digits_of 256 n) = grind (arith, nat_tests) in
        ap (λ o. ordering_then o (lex (digits_of 256 m) (digits_of 256 n))) (nat_cmp-same (128 + length (digits_of 256 m)) (128 + length (digits_of 256 n)) (ap (λ k. 128 + k) l)) ∙ lex-digits m n l

short_first : (m n k : ℕ) (a : List ℕ) → m < 128 → 128 ≤ n → ordering_then (nat_cmp m (128 + k)) (lex [] a) ≡ nat_cmp m n
short_first m n k a h g =
    let l : m < 128 + k = omega arith in
    let o : m < n = omega arith in
    ap (λ o. ordering_then o (lex [] a)) (nat_cmp-less m (128 + k) l) ∙ sym (nat_cmp-less m n o)

short_second : (m n k : ℕ) (a : List ℕ) → 128 ≤ m → n < 128 → ordering_then (nat_cmp (128 + k) n) (lex a []) ≡ nat_cmp m n
short_second m n k a h g =
    let l : n < 128 + k = omega arith in
    let o : n < m = omega arith in
    ap (λ o. ordering_then o (lex a [])) (nat_cmp-greater (128 + k) n l) ∙ sym (nat_cmp-greater m n o)

-- the order of length octets is that of the lengths
pub lex-length_octets : (m n : ℕ) → lex (length_octets m) (length_octets n) ≡ nat_cmp m n
unfolding length_octets
lex-length_octets m n = at (nat_lt m 128) (nat_lt n 128) refl refl
  where
    at : (a b : Bool) → nat_lt m 128 ≡ a → nat_lt n 128 ≡ b → lex (length_octets m) (length_octets n) ≡ nat_cmp m n
    at true true e f = rw (e, f) (then_equal (nat_cmp m n))
    at true false e f =
        let a : m < 128 = grind (arith, nat_tests) in
        let b : 128 ≤ n = grind (arith, nat_tests) in
        rw (e, f) (short_first m n (length (digits_of 256 n)) (digits_of 256 n) a b)
    at false true e f =
        let a : 128 ≤ m = grind (arith, nat_tests) in
        let b : n < 128 = grind (arith, nat_tests) in
        rw (e, f) (short_second m n (length (digits_of 256 m)) (digits_of 256 m) a b)
    at false false e f = rw (e, f) (long_cmp m n)

length_beginning : (m n : ℕ) → SameBeginning (length_octets m) (length_octets n)
length_beginning m n = record { same = λ x y e. ap length_octets (length_octets-unique m n x y e).0 }

-- the order of encodings: the identifier octets, then the lengths, then the contents octets
pub lex-tlv : (t u : Tag) (c d : List ℕ) → lex (tlv t c) (tlv u d) ≡ ordering_then (lex (identifier t) (identifier u)) (ordering_then (nat_cmp (length c) (length d)) (lex c d))
lex-tlv t u c d =
    let a = append_assoc (identifier t) (length_octets (length c)) c in
    let b = append_assoc (identifier u) (length_octets (length d)) d in
    ap (λ o. lex o (tlv u d)) a ∙ ap (lex (identifier t ++ (length_octets (length c) ++ c))) b ∙ lex-identifier t u (length_octets (length c) ++ c) (length_octets (length d) ++ d) ∙ ap (ordering_then (lex (identifier t) (identifier u))) (lex-append (length_octets (length c)) (length_octets (length d)) c d (length_beginning (length c) (length d)) ∙ ap (λ o. ordering_then o (lex c d)) (lex-length_octets (length c) (length d)))
