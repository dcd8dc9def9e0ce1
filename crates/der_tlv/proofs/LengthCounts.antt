-- The number of octets of a length after the octet that counts them.
use Rattle.std.proofs.Common.{◌≡◌, ℕ, ◌+◌, ◌*◌, ◌/◌, ◌%◌, ◌∷◌, ◌++◌, append_assoc, nat_lt, true, false, ◌<◌, ◌≤◌, ◌^◌, List, [], length, sym, ap, ◌∙◌, arith, lit≤}
use Rattle.std.specs.Int.Digits.{digits_of}
use Rattle.std.proofs.Math.Nat.{div-eq_of_lt}
use Rattle.std.proofs.lemmas.Int.Digits.{digits_of_step, length-digits_of_step}
use Rattle.std.proofs.lemmas.Bool.Decides.{nat_tests}
use Rattle.der_tlv.specs.LengthOctets.{length_octets}

-- one octet
pub one_octet : (n : ℕ) → 0 < n → n < 256 → length (digits_of 256 n) ≡ 1
one_octet n some small =
    length-digits_of_step 256 n (lit≤ tt) some ∙ ap (λ q. length (digits_of 256 q) + 1) (div-eq_of_lt small)

-- a number has one octet more than a 256th of it
pub more_octets : (n k : ℕ) → 256 ≤ n → length (digits_of 256 (n / 256)) ≡ k → length (digits_of 256 n) ≡ k + 1
more_octets n k some e = let more : 0 < n = omega arith in length-digits_of_step 256 n (lit≤ tt) more ∙ ap (λ c. c + 1) e

pub two_octets : (n : ℕ) → 256 ≤ n → n < 256 * 256 → length (digits_of 256 n) ≡ 2
two_octets n some small = more_octets n 1 some (one_octet (n / 256) (omega arith) (omega arith))

pub three_octets : (n : ℕ) → 256 * 256 ≤ n → n < 256 * 256 * 256 → length (digits_of 256 n) ≡ 3
three_octets n some small = more_octets n 2 (omega arith) (two_octets (n / 256) (omega arith) (omega arith))

pub four_octets : (n : ℕ) → 256 * 256 * 256 ≤ n → n < 2 ^ 32 → length (digits_of 256 n) ≡ 4
four_octets n some small = more_octets n 3 (omega arith) (three_octets (n / 256) (omega arith) (omega arith))

-- appending the last octet to those before it
pub digits_pushed : (old mid new : List ℕ) (n : ℕ) → 0 < n → mid ≡ old ++ digits_of 256 (n / 256) → new ≡ mid ++ ((n % 256) ∷ []) → new ≡ old ++ digits_of 256 n
digits_pushed old mid new n some e f =
    f ∙ ap (λ c. c ++ ((n % 256) ∷ [])) e ∙ append_assoc old (digits_of 256 (n / 256)) ((n % 256) ∷ []) ∙ ap (λ c. old ++ c) (sym (digits_of_step 256 n (lit≤ tt) some))

pub short_pushed : (old new : List ℕ) (n : ℕ) → n < 128 → new ≡ old ++ (n ∷ []) → new ≡ old ++ length_octets n
unfolding length_octets
short_pushed old new n small e = let t : nat_lt n 128 ≡ true = grind (arith, nat_tests) in rw t e

pub long_pushed : (old mid new : List ℕ) (n count : ℕ) → 128 ≤ n → count ≡ length (digits_of 256 n) → mid ≡ old ++ ((128 + count) ∷ []) → new ≡ mid ++ digits_of 256 n → new ≡ old ++ length_octets n
unfolding length_octets
long_pushed old mid new n count long c e f =
    let t : nat_lt n 128 ≡ false = grind (arith, nat_tests) in
    rw t (f ∙ ap (λ m. m ++ digits_of 256 n) e ∙ append_assoc old ((128 + count) ∷ []) (digits_of 256 n) ∙ ap (λ k. old ++ ((128 + k) ∷ digits_of 256 n)) c)
