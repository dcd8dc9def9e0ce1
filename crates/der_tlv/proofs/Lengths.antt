-- Reading the octets of a length one by one.
use Rattle.std.proofs.Common.{◌≡◌, ℕ, zero, suc, ◌+◌, ◌*◌, ◌^◌, ◌<◌, ◌≤◌, true, false, List, [], ◌∷◌, ◌++◌, length, take, drop, Err, refl, sym, ap, ◌∙◌, subst, arith, nat_lt}
use Rattle.std.proofs.Math.Seq.{take-add}
use Rattle.std.proofs.lemmas.List.{length-take, length-drop}
use Rattle.std.proofs.lemmas.Bool.Decides.{nat_tests}
use Rattle.std.specs.Int.Digits.{number_from_digits, AllBelowBase}
use Rattle.std.proofs.lemmas.Int.Digits.{number_push, number_lt}
use Rattle.der_tlv.specs.declared.error.ErrorKind.{ErrorKind}
use Rattle.der_tlv.specs.ReaderState.{ReaderState, rest, after_read, unless_failed, read_fault_at}
use Rattle.der_tlv.specs.HeaderReading.{read_long_length}
use Rattle.der_tlv.specs.Reading.{OctetRead}
use Rattle.der_tlv.proofs.ReaderStates.{rest-after_read}

-- the octets that a reader has read since its state was `old`, each below 256, and the number that they write
pub record OctetsSoFar (old now : ReaderState) (count n : ℕ) : Type 0 where
  pub ready : old.failed ≡ false
  pub there : count ≤ length (rest old)
  pub after : now ≡ after_read old count
  pub number : n ≡ number_from_digits 256 (take count (rest old))
  pub below : AllBelowBase 256 (take count (rest old))

all_below-append : (b : ℕ) (xs ys : List ℕ) → AllBelowBase b xs → AllBelowBase b ys → AllBelowBase b (xs ++ ys)
all_below-append b [] ys h k = k
all_below-append b (x ∷ xs) ys (h, hs) k = (h, all_below-append b xs ys hs k)

pub after_none : (s : ReaderState) → s ≡ after_read s 0
after_none s = ap (λ p. record s { position = p }) (let e : s.position ≡ s.position + 0 = omega arith in e)

pub after_more : (s : ReaderState) (m n : ℕ) → after_read (after_read s m) n ≡ after_read s (m + n)
after_more s m n = ap (λ p. record s { position = p }) (let e : s.position + m + n ≡ s.position + (m + n) = omega arith in e)

pub no_octets : (old : ReaderState) → old.failed ≡ false → OctetsSoFar old old 0 0
no_octets old ready = record { ready = ready; there = omega arith; after = after_none old; number = refl; below = tt }

rest_so_far : {old now : ReaderState} {count n : ℕ} → OctetsSoFar old now count n → rest now ≡ drop count (rest old)
rest_so_far {old} {count} so_far = ap rest so_far.after ∙ rest-after_read old count

pub one_more : (old now new : ReaderState) (count n octet : ℕ) → OctetsSoFar old now count n → OctetRead now new octet → octet < 256 → OctetsSoFar old new (count + 1) (n * 256 + octet)
one_more old now new count n octet so_far read small =
    let left : drop count (rest old) ≡ octet ∷ rest new = sym (rest_so_far so_far) ∙ read.first in
    let taken : take (count + 1) (rest old) ≡ take count (rest old) ++ (octet ∷ []) = take-add count 1 (rest old) ∙ ap (λ c. take count (rest old) ++ take 1 c) left in
    record {
      ready = so_far.ready;
      there = omega (arith, length-drop count (rest old), ap length left);
      after = read.after ∙ ap (λ s. after_read s 1) so_far.after ∙ after_more old count 1;
      number = ap (λ m. m * 256 + octet) so_far.number ∙ sym (ap (number_from_digits 256) taken ∙ number_push 256 (take count (rest old)) octet);
      below = subst (AllBelowBase 256) (sym taken) (all_below-append 256 (take count (rest old)) (octet ∷ []) so_far.below (small, tt));
    }

-- `count` octets write a number below 256 ^ count
pub so_far-lt : {old now : ReaderState} {count n : ℕ} → OctetsSoFar old now count n → n < 256 ^ count
so_far-lt {old} {count} {n} so_far =
    let l : length (take count (rest old)) ≡ count = omega (arith, length-take count (rest old), so_far.there) in
    let lt = number_lt 256 (take count (rest old)) so_far.below in
    rw (so_far.number) (subst (λ k. number_from_digits 256 (take count (rest old)) < 256 ^ k) l lt)

-- an octet is missing
pub missing : {old now : ReaderState} {done n : ℕ} → OctetsSoFar old now done n → (count : ℕ) → done < count → rest now ≡ [] → (kind : ErrorKind) → kind ≡ read_fault_at now.position 1 0 → unless_failed (read_long_length count) old ≡ Err kind
unfolding read_long_length
missing {old} {now} {done} so_far count more none kind e =
    let left : drop done (rest old) ≡ [] = sym (rest_so_far so_far) ∙ none in
    let all : length (rest old) ≡ done = omega (arith, length-drop done (rest old), ap length left, so_far.there) in
    let short : nat_lt (length (rest old)) count ≡ true = grind (arith, nat_tests) in
    let at : now.position ≡ old.position + length (rest old) = ap (λ s. s.position) so_far.after ∙ ap (λ k. old.position + k) (sym all) in
    rw (so_far.ready, short) (ap Err (sym (e ∙ ap (λ p. read_fault_at p 1 0) at)))

-- three octets leave space for one more
pub room_for_more : (k n : ℕ) → k ≤ 3 → n < 256 ^ k → n < 2 ^ 24
room_for_more zero n h k = omega (arith, k)
room_for_more (suc zero) n h k = omega (arith, k)
room_for_more (suc (suc zero)) n h k = omega (arith, k)
room_for_more (suc (suc (suc zero))) n h k = omega (arith, k)
room_for_more (suc (suc (suc (suc m)))) n h k = absurd (omega arith)
