-- The results of reading an identifier, a length and a header, in the order of their errors.
use Rattle.std.specs.Prelude.{ℕ, suc, ◌+◌, ◌-◌, ◌/◌, ◌%◌, ◌^◌, nat_lt, nat_le, ◌==◌, nat_eq, if◌then◌else◌, Bool, List, [], ◌∷◌, length, take, drop, map, take_while, Option, Some, None, Result, Ok, Err}
use Rattle.std.specs.Int.Digits.{number_from_digits}
use Rattle.std.specs.Cmp.Lexicographic.{pointwise}
use Rattle.std.specs.Bool.{beq}
use Rattle.der_tlv.specs.declared.error.ErrorKind.{ErrorKind}
use Rattle.der_tlv.specs.declared.error.ErrorKind.TheVariants.{TagNumberInvalid, TagUnknown, Noncanonical, IndefiniteLength, Overlength}
use Rattle.der_tlv.specs.declared.tag.Tag.{Tag}
use Rattle.der_tlv.specs.declared.tag.Tag.TheVariants.{Application, ContextSpecific, Private}
use Rattle.der_tlv.specs.declared.header.Header.{Header}
use Rattle.der_tlv.specs.TagParts.{is_constructed, universal_tag}
use Rattle.der_tlv.specs.LengthOctets.{length_octets}
use Rattle.der_tlv.specs.HeaderOctets.{header_octets}
use Rattle.der_tlv.specs.ReaderState.{read_fault_at}

-- the error of reading one octet after all the octets that are left at position p
abbrev pub octet_missing : ℕ → List ℕ → ErrorKind
octet_missing p left = read_fault_at (p + length left) 1 0

-- the number of octets before the last of a number in base 128: those with bit 8 set
abbrev pub high_count : List ℕ → ℕ
high_count octets = length (take_while (λ d. nat_le 128 d) octets)

-- the number that the octets write in base 128, as far as octets are present
abbrev pub number_value : List ℕ → ℕ
number_value octets = number_from_digits 128 (map (λ d. d % 128) (take (high_count octets + 1) octets))

-- A tag number above 30 at position p: its number of octets and its value, or the first error.
unfoldable pub read_number : ℕ → List ℕ → Result (ℕ × ℕ) ErrorKind
read_number p [] = Err (octet_missing p [])
read_number p (x ∷ xs) =
    if x == 128 then Err TagNumberInvalid
    else (if nat_le (2 ^ 32) (number_value (x ∷ xs)) then Err TagNumberInvalid
    else (if nat_le (length (x ∷ xs)) (high_count (x ∷ xs)) then Err (octet_missing p (x ∷ xs))
    else (if nat_lt (number_value (x ∷ xs)) 31 then Err TagNumberInvalid
    else Ok (high_count (x ∷ xs) + 1, number_value (x ∷ xs)))))

-- a universal tag in its only form
abbrev pub universal_of : ℕ → Bool → Option Tag → Result Tag ErrorKind
universal_of first constructed None = Err (TagUnknown first)
universal_of first constructed (Some t) = if beq (is_constructed t) constructed then Ok t else Err (Noncanonical t)

-- the tag of a first identifier octet and a number
abbrev pub tag_of_octets : ℕ → ℕ → Result Tag ErrorKind
tag_of_octets first n =
    let constructed = nat_eq (first / 32 % 2) 1 in
    if first / 64 == 0 then universal_of first constructed (universal_tag n)
    else (if first / 64 == 1 then Ok (Application constructed (record { 0 = n }))
    else (if first / 64 == 2 then Ok (ContextSpecific constructed (record { 0 = n }))
    else Ok (Private constructed (record { 0 = n }))))

abbrev pub counted_tag : ℕ → Result Tag ErrorKind → Result (ℕ × Tag) ErrorKind
counted_tag count (Ok t) = Ok (count, t)
counted_tag count (Err k) = Err k

abbrev pub tag_with_number : ℕ → Result (ℕ × ℕ) ErrorKind → Result (ℕ × Tag) ErrorKind
tag_with_number first (Ok (count, n)) = counted_tag (1 + count) (tag_of_octets first n)
tag_with_number first (Err k) = Err k

-- An identifier at position p: its number of octets and the tag, or the first error.
unfoldable pub read_tag : ℕ → List ℕ → Result (ℕ × Tag) ErrorKind
read_tag p [] = Err (octet_missing p [])
read_tag p (x ∷ xs) =
    if x % 32 == 31 then tag_with_number x (read_number (p + 1) xs) else counted_tag 1 (tag_of_octets x (x % 32))

-- a length of `count` octets, if it does not fit in fewer octets
abbrev pub fewest_octets : ℕ → List ℕ → ℕ → Result (ℕ × ℕ) ErrorKind
fewest_octets count octets n =
    if pointwise nat_eq (length_octets n) ((128 + count) ∷ octets) then Ok (count, n) else Err Overlength

-- The octets of a length of at least 128 after the octet that counts them, at position p.
unfoldable pub read_long_length : ℕ → ℕ → List ℕ → Result (ℕ × ℕ) ErrorKind
read_long_length count p octets =
    if nat_lt (length octets) count then Err (octet_missing p octets)
    else fewest_octets count (take count octets) (number_from_digits 256 (take count octets))

abbrev pub after_one : Result (ℕ × ℕ) ErrorKind → Result (ℕ × ℕ) ErrorKind
after_one (Ok (count, n)) = Ok (suc count, n)
after_one (Err k) = Err k

-- Length octets at position p: their number and the length, or the first error.
unfoldable pub read_length : ℕ → List ℕ → Result (ℕ × ℕ) ErrorKind
read_length p [] = Err (octet_missing p [])
read_length p (x ∷ xs) =
    if nat_lt x 128 then Ok (1, x)
    else (if x == 128 then Err IndefiniteLength
    else (if nat_lt 132 x then Err Overlength else after_one (read_long_length (x - 128) (p + 1) xs)))

-- the octets of a header
abbrev pub octets_of : Header → List ℕ
octets_of h = header_octets h.tag h.length

abbrev pub header : Tag → ℕ → Header
header t n = record { tag = t; length = n }

abbrev pub header_with_length : ℕ → Tag → Result (ℕ × ℕ) ErrorKind → Result (ℕ × Header) ErrorKind
header_with_length count t (Ok (more, n)) = Ok (count + more, header t n)
header_with_length count t (Err k) = Err k

abbrev pub header_with_tag : ℕ → List ℕ → Result (ℕ × Tag) ErrorKind → Result (ℕ × Header) ErrorKind
header_with_tag p octets (Ok (count, t)) = header_with_length count t (read_length (p + count) (drop count octets))
header_with_tag p octets (Err k) = Err k

-- A header at position p: its number of octets and its value, or the first error: the identifier's, then the length's.
unfoldable pub read_header : ℕ → List ℕ → Result (ℕ × Header) ErrorKind
read_header p octets = header_with_tag p octets (read_tag p octets)
