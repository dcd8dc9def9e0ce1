-- Errors in octets: every kind except lack of memory (1), and an earlier refusal of the reader or writer (17).
use Rattle.std.proofs.Common.{ℕ, ◌+◌, ◌-◌, ◌/◌, ◌%◌, ◌^◌, nat_lt, nat_le, ◌==◌, nat_eq, if◌then◌else◌, Bool, true, false, List, [], ◌∷◌, length, take, drop, Option, Some, None, Result, Ok, Err, refl, IsTrue}
use Rattle.std.specs.Int.Digits.{number_from_digits}
use Rattle.std.specs.Cmp.Lexicographic.{pointwise}
use Rattle.std.specs.Bool.{beq}
use Rattle.der_tlv.specs.declared.error.ErrorKind.{ErrorKind}
use Rattle.der_tlv.specs.declared.error.ErrorKind.TheVariants.{Memory, Failed, Incomplete, Overflow, Noncanonical, Overlength}
use Rattle.der_tlv.specs.declared.tag.Tag.{Tag}
use Rattle.der_tlv.specs.TagParts.{is_constructed, universal_tag}
use Rattle.der_tlv.specs.LengthOctets.{length_octets}
use Rattle.der_tlv.specs.ReaderState.{read_fault_at}
use Rattle.der_tlv.specs.HeaderReading.{high_count, number_value, read_number, universal_of, tag_of_octets, counted_tag, tag_with_number, read_tag, read_long_length, after_one, read_length, header_with_length, header_with_tag, read_header}

abbrev pub is_of_octets : ErrorKind → Bool
is_of_octets Memory = false
is_of_octets Failed = false
is_of_octets _ = true

-- the result of reading octets is a value, or an error in them
abbrev pub IsOfOctets : {A : Type 0} → Result A ErrorKind → Type 0
IsOfOctets (Ok v) = Unit {0}
IsOfOctets (Err k) = IsTrue (is_of_octets k)

-- this holds of a choice if it holds of both cases
pub of_octets_either : {A : Type 0} (b : Bool) (r s : Result A ErrorKind) → IsOfOctets r → IsOfOctets s → IsOfOctets (if b then r else s)
of_octets_either true r s a c = a
of_octets_either false r s a c = c

-- octets that are missing
pub of_octets_missing : (p n left : ℕ) → IsTrue (is_of_octets (read_fault_at p n left))
of_octets_missing p n left =
    elim (nat_lt (p + n) (2 ^ 32)) as (λ b. IsTrue (is_of_octets (if b then Incomplete (p + n) (p + left) else Overflow))) [ true ↦ refl | false ↦ refl ]

pub number_of_octets : (p : ℕ) (octets : List ℕ) → IsOfOctets (read_number p octets)
unfolding read_number
number_of_octets p [] = of_octets_missing (p + 0) 1 0
number_of_octets p (x ∷ xs) =
    of_octets_either (x == 128) _ _ refl (of_octets_either (nat_le (2 ^ 32) (number_value (x ∷ xs))) _ _ refl (of_octets_either (nat_le (length (x ∷ xs)) (high_count (x ∷ xs))) _ _ (of_octets_missing (p + length (x ∷ xs)) 1 0) (of_octets_either (nat_lt (number_value (x ∷ xs)) 31) _ _ refl tt)))

universal_of_octets : (first : ℕ) (constructed : Bool) (t : Option Tag) → IsOfOctets (universal_of first constructed t)
universal_of_octets first constructed None = refl
universal_of_octets first constructed (Some t) = of_octets_either (beq (is_constructed t) constructed) (Ok t) (Err (Noncanonical t)) tt refl

first_of_octets : (first n : ℕ) → IsOfOctets (tag_of_octets first n)
first_of_octets first n =
    let constructed = nat_eq (first / 32 % 2) 1 in
    of_octets_either (first / 64 == 0) _ _ (universal_of_octets first constructed (universal_tag n)) (of_octets_either (first / 64 == 1) _ _ tt (of_octets_either (first / 64 == 2) _ _ tt tt))

counted_of_octets : (count : ℕ) (r : Result Tag ErrorKind) → IsOfOctets r → IsOfOctets (counted_tag count r)
counted_of_octets count (Ok t) h = tt
counted_of_octets count (Err k) h = h

numbered_of_octets : (first : ℕ) (r : Result (ℕ × ℕ) ErrorKind) → IsOfOctets r → IsOfOctets (tag_with_number first r)
numbered_of_octets first (Ok (count, n)) h = counted_of_octets (1 + count) (tag_of_octets first n) (first_of_octets first n)
numbered_of_octets first (Err k) h = h

-- the errors in identifier octets
pub tag_of_octets_read : (p : ℕ) (octets : List ℕ) → IsOfOctets (read_tag p octets)
unfolding read_tag
tag_of_octets_read p [] = of_octets_missing (p + 0) 1 0
tag_of_octets_read p (x ∷ xs) =
    of_octets_either (x % 32 == 31) _ _ (numbered_of_octets x (read_number (p + 1) xs) (number_of_octets (p + 1) xs)) (counted_of_octets 1 (tag_of_octets x (x % 32)) (first_of_octets x (x % 32)))

long_of_octets : (count p : ℕ) (octets : List ℕ) → IsOfOctets (read_long_length count p octets)
unfolding read_long_length
long_of_octets count p octets =
    let n = number_from_digits 256 (take count octets) in
    of_octets_either (nat_lt (length octets) count) _ _ (of_octets_missing (p + length octets) 1 0) (of_octets_either (pointwise nat_eq (length_octets n) ((128 + count) ∷ take count octets)) (Ok (count, n)) (Err Overlength) tt refl)

after_of_octets : (r : Result (ℕ × ℕ) ErrorKind) → IsOfOctets r → IsOfOctets (after_one r)
after_of_octets (Ok (count, n)) h = tt
after_of_octets (Err k) h = h

-- the errors in length octets
pub length_of_octets_read : (p : ℕ) (octets : List ℕ) → IsOfOctets (read_length p octets)
unfolding read_length
length_of_octets_read p [] = of_octets_missing (p + 0) 1 0
length_of_octets_read p (x ∷ xs) =
    of_octets_either (nat_lt x 128) _ _ tt (of_octets_either (x == 128) _ _ refl (of_octets_either (nat_lt 132 x) _ _ refl (after_of_octets (read_long_length (x - 128) (p + 1) xs) (long_of_octets (x - 128) (p + 1) xs))))

with_length_of_octets : (count : ℕ) (t : Tag) (r : Result (ℕ × ℕ) ErrorKind) → IsOfOctets r → IsOfOctets (header_with_length count t r)
with_length_of_octets count t (Ok (more, n)) h = tt
with_length_of_octets count t (Err k) h = h

with_tag_of_octets : (p : ℕ) (octets : List ℕ) (r : Result (ℕ × Tag) ErrorKind) → IsOfOctets r → IsOfOctets (header_with_tag p octets r)
with_tag_of_octets p octets (Ok (count, t)) h = with_length_of_octets count t (read_length (p + count) (drop count octets)) (length_of_octets_read (p + count) (drop count octets))
with_tag_of_octets p octets (Err k) h = h

-- the errors in a header
pub header_of_octets_read : (p : ℕ) (octets : List ℕ) → IsOfOctets (read_header p octets)
unfolding read_header
header_of_octets_read p octets = with_tag_of_octets p octets (read_tag p octets) (tag_of_octets_read p octets)
