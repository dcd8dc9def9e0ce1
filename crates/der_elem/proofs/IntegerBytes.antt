-- The contents octets of an integer as the last octets of its big-endian form at a width.
use Rattle.std.proofs.Common.{◌≡◌, ℕ, zero, suc, ◌+◌, ◌-◌, ◌*◌, ◌/◌, ◌%◌, ◌^◌, ◌<◌, ◌≤◌, inl, inr, List, ◌∷◌, length, take, drop, ℤ, pos, negsuc, refl, sym, ap, ap₂, ◌∙◌, subst, arith, pow-suc, mul_comm, SFits}
use Rattle.std.proofs.Math.Nat.{mod-eq_of_lt, mul-div_cancel, mul-div-mul_right, mul-mod_left, one-le-pow, pow-le-pow_right}
use Rattle.std.proofs.Math.Arith.{mod-mul}
use Rattle.std.proofs.lemmas.Bool.{cases_lt}
use Rattle.std.proofs.lemmas.Nat.{pow-add}
use Rattle.std.proofs.lemmas.List.{drop-map, take_all}
use Rattle.std.proofs.lemmas.Int.Digits.{number_lt}
use Rattle.std.specs.Int.{byte_at, bytes_high_first, cast_unsigned, w64, w128}
use Rattle.std.specs.Int.Digits.{number_from_digits_after}
use Rattle.der_elem.specs.Integer.{AreOctets, big_endian_number, natural_contents, complement_octets, integer_contents, left_aligned}
use Rattle.der_elem.specs.IntegerLaws.{octets-same_number, number_natural_contents, natural_contents-are_octets, number-complement_octets, complement_octets-are_octets, length-complement_octets, integer_contents-are_octets, integer_contents-pos, integer_contents-negsuc, integer_contents-length, integer_contents-length_le_width}

-- ---- the lowest octets of a number

length_bytes : (k n : ℕ) → length (bytes_high_first k n) ≡ k
length_bytes zero n = refl
length_bytes (suc k) n = ap suc (length_bytes k n)

byte_lt : (k n : ℕ) → byte_at k n < 256
byte_lt zero n = omega arith
byte_lt (suc k) n = omega arith

bytes_are_octets : (k n : ℕ) → AreOctets (bytes_high_first k n)
bytes_are_octets zero n = tt
bytes_are_octets (suc k) n = (byte_lt k n, bytes_are_octets k n)

-- one more octet in front of the lowest k
byte_on : (k n high : ℕ) → (high * 256 + byte_at k n) * 256 ^ k + n % 256 ^ k ≡ high * 256 ^ suc k + n % 256 ^ suc k
byte_on zero n high = omega arith
byte_on (suc k) n high =
    let unit = 256 ^ suc k in
    let wider : 256 ^ suc (suc k) ≡ 256 * unit = pow-suc 256 (suc k) ∙ mul_comm unit 256 in
    let some : 0 < unit = pow-le-pow_right {n = 256} (omega arith) {i = 0} {j = suc k} (omega arith) in
    rw (wider, mod-mul n {m = 256} {c = unit} (omega arith) some) (omega arith)

number_after_bytes : (k n high : ℕ) → number_from_digits_after 256 high (bytes_high_first k n) ≡ high * 256 ^ k + n % 256 ^ k
number_after_bytes zero n high = omega arith
number_after_bytes (suc k) n high = number_after_bytes k n (high * 256 + byte_at k n) ∙ byte_on k n high

-- the number of the lowest k octets is the number itself, if it fits
pub number_bytes : (k n : ℕ) → n < 256 ^ k → big_endian_number (bytes_high_first k n) ≡ n
number_bytes k n fits = omega (arith, number_after_bytes k n 0, mod-eq_of_lt fits)

-- the last octets are the lowest
drop_bytes : (k l n : ℕ) → l ≤ k → drop (k - l) (bytes_high_first k n) ≡ bytes_high_first l n
drop_bytes zero l n within = let none : l ≡ 0 = omega arith in rw none refl
drop_bytes (suc k) l n within = elim (cases_lt k l) [
  | inl above ↦ let all : l ≡ suc k = omega arith in let none : suc k - suc k ≡ 0 = omega arith in rw (all, none) refl
  | inr below ↦ let one : suc k - l ≡ suc (k - l) = omega arith in rw one (drop_bytes k l n below)
]

-- the octets of the greatest number minus n are the octets of n, inverted
bytes_complemented : (k m n : ℕ) → m + n + 1 ≡ 256 ^ k → bytes_high_first k m ≡ complement_octets (bytes_high_first k n)
bytes_complemented k m n both =
    let octets = bytes_high_first k n in
    let inverse = number-complement_octets octets (bytes_are_octets k n) in
    octets-same_number (bytes_high_first k m) (complement_octets octets) (bytes_are_octets k m) (complement_octets-are_octets octets) (length_bytes k m ∙ sym (length-complement_octets octets ∙ length_bytes k n))
    (omega (arith, number_bytes k m (omega arith), number_bytes k n (omega arith), inverse, ap (λ l. 256 ^ l) (length_bytes k n)))

-- ---- contents octets

-- the contents octets of a number that is not negative are the last of its octets
last_natural : (k n : ℕ) → length (natural_contents n) ≤ k → drop (k - length (natural_contents n)) (bytes_high_first k n) ≡ natural_contents n
last_natural k n within =
    let l = length (natural_contents n) in
    drop_bytes k l n within
    ∙ octets-same_number (bytes_high_first l n) (natural_contents n) (bytes_are_octets l n) (natural_contents-are_octets n) (length_bytes l n)
    (number_bytes l n (subst (λ m. m < 256 ^ l) (number_natural_contents n) (number_lt 256 (natural_contents n) (natural_contents-are_octets n))) ∙ sym (number_natural_contents n))

-- the number by which octets of a width represent an integer: the integer itself, or the integer plus 256 to the width
abbrev Represents : ℕ → ℕ → ℤ → Type 0
Represents k number (pos n) = number ≡ n
Represents k number (negsuc n) = number + n + 1 ≡ 256 ^ k

-- octets that are equal to the last octets of others are the last octets of the others
last_of : (k : ℕ) (octets c d : List ℕ) → c ≡ d → drop (k - length d) octets ≡ d → drop (k - length c) octets ≡ c
last_of k octets c d same last = subst (λ x. drop (k - length x) octets ≡ x) (sym same) last

-- the contents octets of an integer are the last octets of the number that represents it
last_octets : (k number : ℕ) (z : ℤ) → Represents k number z → length (integer_contents z) ≤ k → drop (k - length (integer_contents z)) (bytes_high_first k number) ≡ integer_contents z
last_octets k number (pos n) same within =
    last_of k (bytes_high_first k number) (integer_contents (pos n)) (natural_contents n) (integer_contents-pos n)
    (ap (λ m. drop (k - length (natural_contents n)) (bytes_high_first k m)) same ∙ last_natural k n (omega (arith, within, integer_contents-length (pos n))))
last_octets k number (negsuc n) same within =
    let l = length (natural_contents n) in
    let octets = complement_octets (natural_contents n) in
    last_of k (bytes_high_first k number) (integer_contents (negsuc n)) octets (integer_contents-negsuc n)
    (ap (λ m. drop (k - m) (bytes_high_first k number)) (length-complement_octets (natural_contents n))
    ∙ ap (drop (k - l)) (bytes_complemented k number n same)
    ∙ drop-map (λ octet. 255 - octet) (k - l) (bytes_high_first k n)
    ∙ ap complement_octets (last_natural k n (omega (arith, within, integer_contents-length (negsuc n)))))

-- a slice of the last octets is those octets
slice_of_last : (k l : ℕ) (octets contents : List ℕ) → l ≡ length contents → l ≤ k → drop (k - length contents) octets ≡ contents → take (k - (k - l)) (drop (k - l) octets) ≡ contents
slice_of_last k l octets contents len within last =
    ap (take (k - (k - l))) (ap (λ m. drop (k - m) octets) len ∙ last) ∙ take_all (k - (k - l)) contents (omega (arith, len))

-- ---- at 8 and 16 octets

-- the cast of a signed integer represents it
represents_cast_8 : (z : ℤ) → SFits w64 z → Represents 8 (cast_unsigned w64 z) z
represents_cast_8 (pos n) fits = omega (arith, fits.sfits)
represents_cast_8 (negsuc n) fits = omega (arith, fits.sfits)

represents_cast_16 : (z : ℤ) → SFits w128 z → Represents 16 (cast_unsigned w128 z) z
represents_cast_16 (pos n) fits = omega (arith, fits.sfits)
represents_cast_16 (negsuc n) fits = omega (arith, fits.sfits)

-- a number that fits has an octet 00 in front of its 16 octets
pub zero_front : (n : ℕ) → n < 2 ^ 128 → 0 ∷ bytes_high_first 16 n ≡ bytes_high_first 17 n
zero_front n fits = let none : n / 256 ^ 16 % 256 ≡ 0 = omega arith in ap (λ octet. octet ∷ bytes_high_first 16 n) (sym none)

-- the slice at the end of the octets of a number that represents an integer
represented_slice : (k : ℕ) (z : ℤ) (len number : ℕ) (octets : List ℕ) → Represents k number z → octets ≡ bytes_high_first k number → len ≡ length (integer_contents z) → len ≤ k → take (k - (k - len)) (drop (k - len) octets) ≡ integer_contents z
represented_slice k z len number octets represents all count within =
    ap (λ o. take (k - (k - len)) (drop (k - len) o)) all
    ∙ slice_of_last k len (bytes_high_first k number) (integer_contents z) count within (last_octets k number z represents (omega (arith, count, within)))

-- the slice that a signed integer of 128 bits is written from
pub signed_slice : (z : ℤ) (len number : ℕ) (octets : List ℕ) → SFits w128 z → number ≡ cast_unsigned w128 z → octets ≡ bytes_high_first 16 number → len ≡ length (integer_contents z) → len ≤ 16 → take (16 - (16 - len)) (drop (16 - len) octets) ≡ integer_contents z
signed_slice z len number octets fits cast = represented_slice 16 z len number octets (subst (λ n. Represents 16 n z) (sym cast) (represents_cast_16 z fits))

-- the length of an integer of 64 bits
pub short_length : (z : ℤ) → SFits w64 z → length (integer_contents z) ≤ 8
short_length (pos n) fits = integer_contents-length_le_width 8 (pos n) (omega arith) (omega (arith, fits.sfits))
short_length (negsuc n) fits = integer_contents-length_le_width 8 (negsuc n) (omega arith) (omega (arith, fits.sfits))

-- the last octets of the number that represents an integer of 64 bits are its contents octets
pub short_last : (z : ℤ) (len number : ℕ) (block : List ℕ) → SFits w64 z → number ≡ cast_unsigned w64 z → block ≡ bytes_high_first 8 number → len ≡ length (integer_contents z) → drop (8 - len) block ≡ integer_contents z
short_last z len number block fits cast octets count =
    ap (λ b. drop (8 - len) b) octets ∙ ap (λ l. drop (8 - l) (bytes_high_first 8 number)) count
    ∙ last_octets 8 number z (subst (λ n. Represents 8 n z) (sym cast) (represents_cast_8 z fits)) (short_length z fits)

-- the slice that a number that is not negative is written from, with an octet 00 in front
pub unsigned_slice : (n len : ℕ) (octets : List ℕ) → octets ≡ bytes_high_first 17 n → len ≡ length (natural_contents n) → len ≤ 17 → take (17 - (17 - len)) (drop (17 - len) octets) ≡ natural_contents n
unsigned_slice n len octets all count within =
    ap (λ o. take (17 - (17 - len)) (drop (17 - len) o)) all
    ∙ slice_of_last 17 len (bytes_high_first 17 n) (natural_contents n) count within (last_natural 17 n (omega (arith, count, within)))

-- the length of an integer of 128 bits
pub wide_length : (z : ℤ) → SFits w128 z → length (integer_contents z) ≤ 16
wide_length (pos n) fits = integer_contents-length_le_width 16 (pos n) (omega arith) (omega (arith, fits.sfits))
wide_length (negsuc n) fits = integer_contents-length_le_width 16 (negsuc n) (omega arith) (omega (arith, fits.sfits))

-- ---- the number of the contents octets with zeros after them

pub pow_octets : (j : ℕ) → 2 ^ (8 * j) ≡ 256 ^ j
pow_octets zero = refl
pow_octets (suc j) = ap (λ e. 2 ^ e) (omega arith) ∙ pow-add 2 8 (8 * j) ∙ omega (arith, pow_octets j, pow-suc 256 j)

-- a number that is shifted up keeps the lowest of its octets
moved_up : (number k l : ℕ) → l ≤ k → (number * 256 ^ (k - l)) % 256 ^ k ≡ (number % 256 ^ l) * 256 ^ (k - l)
moved_up number k l within =
    let unit = 256 ^ (k - l) in
    let some : 0 < unit = one-le-pow (k - l) 256 (omega arith) in
    let low : 0 < 256 ^ l = one-le-pow l 256 (omega arith) in
    let whole : 256 ^ l * unit ≡ 256 ^ k = sym (pow-add 256 l (k - l)) ∙ ap (λ e. 256 ^ e) (omega (arith, within)) in
    ap (λ m. (number * unit) % m) (sym whole) ∙ mod-mul (number * unit) {m = 256 ^ l} {c = unit} low some
    ∙ ap₂ (λ a b. a % 256 ^ l * unit + b) (mul-div_cancel number some) (mul-mod_left number unit) ∙ omega arith

-- the number that represents an integer, shifted up, is that of its contents octets with zeros after them
aligned_at : (k number : ℕ) (z : ℤ) (len : ℕ) → Represents k number z → len ≡ length (integer_contents z) → len ≤ k → (number * 2 ^ (8 * (k - len))) % 256 ^ k ≡ left_aligned k (integer_contents z)
aligned_at k number z len represents count within =
    let contents = integer_contents z in
    let few : length contents ≤ k = omega (arith, count, within) in
    let same : bytes_high_first (length contents) number ≡ contents = sym (drop_bytes k (length contents) number few) ∙ last_octets k number z represents few in
    let value : number % 256 ^ length contents ≡ big_endian_number contents = omega (arith, number_after_bytes (length contents) number 0, ap big_endian_number same) in
    ap (λ p. (number * p) % 256 ^ k) (pow_octets (k - len))
    ∙ ap (λ l. (number * 256 ^ (k - l)) % 256 ^ k) count
    ∙ moved_up number k (length contents) few
    ∙ ap (λ n. n * 256 ^ (k - length contents)) value

-- at 16 octets, that number is that of the contents octets with zeros after them
pub aligned_number : (z : ℤ) (len number : ℕ) → SFits w128 z → number ≡ cast_unsigned w128 z → len ≡ length (integer_contents z) → len ≤ 16 → (number * 2 ^ (8 * (16 - len))) % 2 ^ 128 ≡ left_aligned 16 (integer_contents z)
aligned_number z len number fits cast = aligned_at 16 number z len (subst (λ n. Represents 16 n z) (sym cast) (represents_cast_16 z fits))

-- ---- the octets of a number with zeros after them

byte_is : (i n : ℕ) → byte_at i n ≡ n / 256 ^ i % 256
byte_is zero n = omega arith
byte_is (suc i) n = refl

-- an octet of a number that is shifted up is an octet of the number
byte_moved : (k l n : ℕ) → l ≤ k → byte_at k (n * 256 ^ (k - l)) ≡ byte_at l n
byte_moved k l n within =
    let unit = 256 ^ (k - l) in
    let some : 0 < unit = one-le-pow (k - l) 256 (omega arith) in
    let whole : 256 ^ k ≡ 256 ^ l * unit = ap (λ e. 256 ^ e) (omega (arith, within)) ∙ pow-add 256 l (k - l) in
    byte_is k (n * unit)
    ∙ ap (λ p. n * unit / p % 256) whole
    ∙ ap (λ q. q % 256) (mul-div-mul_right {m = unit} n (256 ^ l) some)
    ∙ sym (byte_is l n)

-- the first octets of a number that is shifted up are those of the number
front_bytes : (k l n : ℕ) → l ≤ k → take l (bytes_high_first k (n * 256 ^ (k - l))) ≡ bytes_high_first l n
front_bytes k zero n within = refl
front_bytes zero (suc l) n within = absurd (omega (arith, within))
front_bytes (suc k) (suc l) n within =
    let lower : l ≤ k = omega (arith, within) in
    let same : suc k - suc l ≡ k - l = omega arith in
    ap (λ e. take (suc l) (bytes_high_first (suc k) (n * 256 ^ e))) same
    ∙ ap₂ (λ octet octets. octet ∷ octets) (byte_moved k l n lower) (front_bytes k l n lower)

-- the first octets of the number that represents an integer of 64 bits, shifted up, are its contents octets
pub short_front : (z : ℤ) (len number front : ℕ) (block : List ℕ) → SFits w64 z → number ≡ cast_unsigned w64 z → front ≡ (number * 2 ^ (8 * (8 - len))) % 2 ^ 64 → block ≡ bytes_high_first 8 front → len ≡ length (integer_contents z) → len ≤ 8 → take len block ≡ integer_contents z
short_front z len number front block fits cast moved octets count within =
    let contents = integer_contents z in
    let all = integer_contents-are_octets z in
    let few : length contents ≤ 8 = omega (arith, count, within) in
    let value : front ≡ left_aligned 8 contents = moved ∙ aligned_at 8 number z len (subst (λ n. Represents 8 n z) (sym cast) (represents_cast_8 z fits)) count within in
    let whole : block ≡ bytes_high_first 8 (left_aligned 8 contents) = octets ∙ ap (bytes_high_first 8) value in
    let number_of = big_endian_number contents in
    ap (λ b. take len b) whole
    ∙ ap (λ l. take l (bytes_high_first 8 (left_aligned 8 contents))) count
    ∙ front_bytes 8 (length contents) number_of few
    ∙ octets-same_number (bytes_high_first (length contents) number_of) contents (bytes_are_octets (length contents) number_of) all (length_bytes (length contents) number_of) (number_bytes (length contents) number_of (number_lt 256 contents all))
