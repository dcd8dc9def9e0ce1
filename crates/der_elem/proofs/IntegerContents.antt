-- Lemmas for the functions on the contents octets of INTEGER.
use Rattle.std.proofs.Common.{◌≡◌, ℕ, zero, suc, ◌+◌, ◌-◌, ◌*◌, ◌/◌, ◌^◌, ◌<◌, ◌≤◌, Bool, true, false, cond, List, [], ◌∷◌, length, get_or, take, drop, refl, sym, ap, ap₂, ◌∙◌, subst, pow-suc, arith, nat_le, slice_index}
use Rattle.std.proofs.lemmas.Int.Digits.{number_more, number_after_append, number_after_ge, number_lt}
use Rattle.std.proofs.Math.ListN.{take-append-drop}
use Rattle.std.proofs.Math.Nat.{pow-le-pow_right, pow-zero}
use Rattle.std.proofs.lemmas.List.{length-drop, take-map}
use Rattle.std.proofs.lemmas.Nat.{be_bytes_8, div-mul-add}
use Rattle.std.specs.Int.{from_be_bytes, w64}
use Rattle.std.specs.Int.Digits.{number_from_digits_after}
use Rattle.std.specs.Int.Signed.{mag}
use Rattle.der_elem.specs.Integer.{AreOctets, big_endian_number, complement_octets, complement_octets_if, FitsUnsignedOctets}
use Rattle.der_elem.specs.IntegerLaws.{length-complement_octets, complement_octets-are_octets, twos_complement-fits_width, twos_complement-complement_if, mag-complement_if, number-complement_octets, number-fits_octets}
use Rattle.der_elem.proofs.IntegerBytes.{number_bytes, pow_octets}

-- ---- the number of the octets

-- inverting octets does not change how many there are
pub length_complemented_if : (negative : Bool) (octets : List ℕ) → length (complement_octets_if negative octets) ≡ length octets
length_complemented_if true octets = length-complement_octets octets
length_complemented_if false octets = refl

-- an octet of the inverse is the inverse of the octet
get_or-complement_octets : (octets : List ℕ) (i : ℕ) → i < length octets → get_or (complement_octets octets) i 0 ≡ 255 - get_or octets i 0
get_or-complement_octets [] i within = absurd (omega arith)
get_or-complement_octets (octet ∷ octets) zero within = refl
get_or-complement_octets (octet ∷ octets) (suc i) within = get_or-complement_octets octets i (omega arith)

-- an octet of the inverse is the inverse of the octet, if the flag is set
get_or-complement_octets_if : (negative : Bool) (octets : List ℕ) (i : ℕ) → i < length octets → get_or (complement_octets_if negative octets) i 0 ≡ cond negative (255 - get_or octets i 0) (get_or octets i 0)
get_or-complement_octets_if true octets i within = get_or-complement_octets octets i within
get_or-complement_octets_if false octets i within = refl

-- the number that the octets write, with one more octet
pub magnitude_more : (negative : Bool) (octets : List ℕ) (i n digit : ℕ) → i < length octets → n ≡ big_endian_number (take i (complement_octets_if negative octets)) → digit ≡ cond negative (255 - get_or octets i 0) (get_or octets i 0) → n * 256 + digit ≡ big_endian_number (take (i + 1) (complement_octets_if negative octets))
magnitude_more negative octets i n digit within number read =
    omega (arith, number_more 256 (complement_octets_if negative octets) i (omega (arith, length_complemented_if negative octets)), get_or-complement_octets_if negative octets i within)

-- the number of the first octets is at most the number of all
number_take-le : (octets : List ℕ) (i : ℕ) → big_endian_number (take i octets) ≤ big_endian_number octets
number_take-le octets i =
    omega (arith, ap big_endian_number (take-append-drop i octets), number_after_append 256 0 (take i octets) (drop i octets), number_after_ge 256 (big_endian_number (take i octets)) (drop i octets) (omega arith))

-- that number is at most the number of all the octets
pub magnitude_more_le : (negative : Bool) (octets : List ℕ) (i n digit : ℕ) → i < length octets → n ≡ big_endian_number (take i (complement_octets_if negative octets)) → digit ≡ cond negative (255 - get_or octets i 0) (get_or octets i 0) → n * 256 + digit ≤ big_endian_number (complement_octets_if negative octets)
magnitude_more_le negative octets i n digit within number read =
    omega (arith, magnitude_more negative octets i n digit within number read, number_take-le (complement_octets_if negative octets) (i + 1))

-- ---- reading at a width

-- the octets of a slice, each read as a byte
pub are_octets : (octets : List ℕ) → ((i : ℕ) → get_or octets i 0 < 256) → AreOctets octets
are_octets [] each = tt
are_octets (octet ∷ octets) each = (each 0, are_octets octets (λ i. each (suc i)))

-- the first of them are octets too
pub take-are_octets : (i : ℕ) (octets : List ℕ) → AreOctets octets → AreOctets (take i octets)
take-are_octets zero octets each = tt
take-are_octets (suc i) [] each = tt
take-are_octets (suc i) (octet ∷ octets) each = (each.0, take-are_octets i octets each.1)

-- the number of at most 8 octets, inverted or not, is below 2^64
pub short_magnitude-fits : (negative : Bool) (octets : List ℕ) → AreOctets octets → length octets ≤ 8 → big_endian_number (complement_octets_if negative octets) < 2 ^ 64
short_magnitude-fits negative octets all few =
    omega (arith, number_lt 256 (complement_octets_if negative octets) (each negative), pow-le-pow_right {n = 256} (omega arith) {i = length (complement_octets_if negative octets)} {j = 8} (omega (arith, length_complemented_if negative octets)))
  where
    each : (flag : Bool) → AreOctets (complement_octets_if flag octets)
    each true = complement_octets-are_octets octets
    each false = all

-- the magnitude of at most 16 contents octets is below 2^127
pub magnitude-fits : (width : ℕ) (octets : List ℕ) → AreOctets octets → 0 < length octets → length octets ≤ width → width ≤ 16 → big_endian_number (complement_octets_if (nat_le 128 (slice_index octets 0)) octets) < 2 ^ 127
magnitude-fits width octets all some within most =
    omega (arith, twos_complement-fits_width 16 octets all some (omega arith), ap mag (twos_complement-complement_if octets all), mag-complement_if (nat_le 128 (slice_index octets 0)) (big_endian_number (complement_octets_if (nat_le 128 (slice_index octets 0)) octets)))

-- the number of octets that fit at most 16 octets is below 2^128
pub number-fits_most : (width : ℕ) (octets : List ℕ) → AreOctets octets → FitsUnsignedOctets width octets → width ≤ 16 → big_endian_number octets < 2 ^ 128
number-fits_most width octets all within most =
    omega (arith, number-fits_octets octets width all within, pow-le-pow_right {n = 256} (omega arith) {i = width} {j = 16} most)

-- ---- the octets at the front of a block

-- the number of the octets after a number
pub number_after_number : (n : ℕ) (octets : List ℕ) → number_from_digits_after 256 n octets ≡ n * 256 ^ length octets + big_endian_number octets
number_after_number n [] = omega (arith, pow-zero 256)
number_after_number n (octet ∷ octets) =
    let step : number_from_digits_after 256 n (octet ∷ octets) ≡ (n * 256 + octet) * 256 ^ length octets + big_endian_number octets = number_after_number (n * 256 + octet) octets in
    let low : big_endian_number (octet ∷ octets) ≡ (0 * 256 + octet) * 256 ^ length octets + big_endian_number octets = number_after_number (0 * 256 + octet) octets in
    let power : n * 256 ^ length (octet ∷ octets) ≡ n * (256 ^ length octets * 256) = ap (λ p. n * p) (pow-suc 256 (length octets)) in
    omega (arith, step, low, power)

-- the big-endian number of the first octets is the quotient by 256 to the count of the others
number_of_front : (k l : ℕ) (octets : List ℕ) → AreOctets octets → length octets ≡ k → l ≤ k → big_endian_number (take l octets) ≡ big_endian_number octets / 256 ^ (k - l)
number_of_front k l octets all count within =
    let others = drop l octets in
    let few : length others ≡ k - l = length-drop l octets ∙ ap (λ n. n - l) count in
    let small : big_endian_number others < 256 ^ (k - l) = subst (λ n. big_endian_number others < 256 ^ n) few (number_lt 256 others (drop-are_octets l octets all)) in
    let whole : big_endian_number octets ≡ big_endian_number (take l octets) * 256 ^ (k - l) + big_endian_number others =
    ap big_endian_number (sym (take-append-drop l octets))
    ∙ number_after_append 256 0 (take l octets) others
    ∙ number_after_number (big_endian_number (take l octets)) others
    ∙ ap (λ n. big_endian_number (take l octets) * 256 ^ n + big_endian_number others) few in
    sym (ap (λ n. n / 256 ^ (k - l)) whole ∙ div-mul-add (big_endian_number (take l octets)) (256 ^ (k - l)) (big_endian_number others) small)
  where
    drop-are_octets : (i : ℕ) (xs : List ℕ) → AreOctets xs → AreOctets (drop i xs)
    drop-are_octets zero xs each = each
    drop-are_octets (suc i) [] each = tt
    drop-are_octets (suc i) (x ∷ xs) each = drop-are_octets i xs each.1

-- a block is the octets of its number
block_number : (block : List ℕ) (n : ℕ) → length block ≡ 8 → ((i : ℕ) → get_or block i 0 < 256) → n < 2 ^ 64 → n ≡ from_be_bytes w64 block → big_endian_number block ≡ n
block_number block n count each fits read = ap big_endian_number (sym (be_bytes_8 block n count each read)) ∙ number_bytes 8 n fits

-- the number of the first octets of a block, inverted or not
pub front_number : (negative : Bool) (block : List ℕ) (len n m : ℕ) → length block ≡ 8 → ((i : ℕ) → get_or block i 0 < 256) → n < 2 ^ 64 → n ≡ from_be_bytes w64 block → m ≡ cond negative (2 ^ 64 - 1 - n) n → len ≤ 8 → m / 2 ^ (8 * (8 - len)) ≡ big_endian_number (complement_octets_if negative (take len block))
front_number negative block len n m count each fits read inverted within =
    let all : AreOctets block = are_octets block each in
    ap₂ (λ a b. a / b) (inverted ∙ number_is negative all) (pow_octets (8 - len))
    ∙ sym (number_of_front 8 len (complement_octets_if negative block) (each_if negative all) (length_complemented_if negative block ∙ count) within)
    ∙ ap big_endian_number (front_if negative)
  where
    each_if : (flag : Bool) → AreOctets block → AreOctets (complement_octets_if flag block)
    each_if true all = complement_octets-are_octets block
    each_if false all = all

    front_if : (flag : Bool) → take len (complement_octets_if flag block) ≡ complement_octets_if flag (take len block)
    front_if true = take-map (λ octet. 255 - octet) len block
    front_if false = refl

    number_is : (flag : Bool) → AreOctets block → cond flag (2 ^ 64 - 1 - n) n ≡ big_endian_number (complement_octets_if flag block)
    number_is true all = omega (arith, block_number block n count each fits read, number-complement_octets block all, ap (λ l. 256 ^ l) count)
    number_is false all = sym (block_number block n count each fits read)
