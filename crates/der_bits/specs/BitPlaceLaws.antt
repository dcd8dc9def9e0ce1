-- Bits by their positions.
use Rattle.std.proofs.Common.{◌≡◌, ℕ, zero, suc, ◌+◌, ◌-◌, ◌<◌, ◌≤◌, Bool, true, List, [], ◌∷◌, length, refl, ap, ◌∙◌, arith}
use Rattle.der_bits.specs.BitString.{bit_at_place, bits_from}

-- the first bit, if any are left
pub bits_from-next : (octets : List ℕ) (i n : ℕ) → i < n → bits_from octets i (n - i) ≡ bit_at_place octets i ∷ bits_from octets (i + 1) (n - (i + 1))
bits_from-next octets i n h =
    let e : n - i ≡ suc (n - (i + 1)) = omega arith in
    ap (bits_from octets i) e

-- no bits, if none are left
pub bits_from-end : (octets : List ℕ) (i n : ℕ) → n ≤ i → bits_from octets i (n - i) ≡ []
bits_from-end octets i n h =
    let e : n - i ≡ zero = omega arith in
    ap (bits_from octets i) e

pub length-bits_from : (octets : List ℕ) (i n : ℕ) → length (bits_from octets i n) ≡ n
length-bits_from octets i zero = refl
length-bits_from octets i (suc n) = ap suc (length-bits_from octets (i + 1) n)

abbrev head_of : Bool → List Bool → Bool
head_of d [] = d
head_of d (b ∷ bs) = b

abbrev tail_of : List Bool → List Bool
tail_of [] = []
tail_of (b ∷ bs) = bs

-- equal lists of bits have equal bits at each position
pub same_places : (o p : List ℕ) (i n j : ℕ) → bits_from o i n ≡ bits_from p i n → j < n → bit_at_place o (i + j) ≡ bit_at_place p (i + j)
same_places o p i zero j e h = absurd (omega (arith, h))
same_places o p i (suc n) zero e h =
    let z : i + zero ≡ i = omega arith in
    rw z (ap (head_of true) e)
same_places o p i (suc n) (suc j) e h =
    let z : i + suc j ≡ (i + 1) + j = omega arith in
    rw z (same_places o p (i + 1) n j (ap tail_of e) (omega (arith, h)))

-- lists of bits with equal bits at each position are equal
pub bits_from-same : (o p : List ℕ) (i n : ℕ) → ((j : ℕ) → i ≤ j → j < i + n → bit_at_place o j ≡ bit_at_place p j) → bits_from o i n ≡ bits_from p i n
bits_from-same o p i zero same = refl
bits_from-same o p i (suc n) same =
    let here = same i (omega arith) (omega arith) in
    let others = bits_from-same o p (i + 1) n (λ j a b. same j (omega (arith, a)) (omega (arith, b))) in
    ap (λ b. b ∷ bits_from o (i + 1) n) here ∙ ap (λ bs. bit_at_place p i ∷ bs) others
