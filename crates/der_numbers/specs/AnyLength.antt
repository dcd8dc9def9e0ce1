-- INTEGER with any number of contents octets (X.690 8.3): what contents octets are read as, and which octets are kept.
use Rattle.std.specs.Prelude.{◌≡◌, ℕ, ◌<◌, ◌≤◌, ◌^◌, ◌==◌, nat_le, if◌then◌else◌, List, [], ◌∷◌, length, Bool, false, ◌⊎◌, Result, Ok, Err}
use Rattle.der_tlv.specs.declared.error.ErrorKind.{ErrorKind}
use Rattle.der_tlv.specs.declared.error.ErrorKind.TheVariants as kinds
use Rattle.der_tlv.specs.declared.error.Error.{Error}
use Rattle.der_tlv.specs.declared.tag.Tag.TheVariants.{Integer}
use Rattle.der_elem.specs.Parsing.{ContentsParse}
use Rattle.der_elem.specs.Integer.{is_redundant, big_endian_number, natural_contents}
use Rattle.der_elem.specs.IntegerReading.{has_needless_zero}

-- no octets, or a redundant first octet (8)
abbrev pub integer_or_fault : List ℕ → Result (List ℕ) ErrorKind
integer_or_fault [] = Err (kinds.Noncanonical Integer)
integer_or_fault (first ∷ others) = if is_redundant (first ∷ others) then Err (kinds.Noncanonical Integer) else Ok (first ∷ others)

-- for a number that is not negative: no octets, or a needless 00 (8); a negative number (13)
abbrev pub natural_or_fault : List ℕ → Result (List ℕ) ErrorKind
natural_or_fault [] = Err (kinds.Noncanonical Integer)
natural_or_fault (first ∷ others) =
    if has_needless_zero (first ∷ others) then Err (kinds.Noncanonical Integer)
    else (if nat_le 128 first then Err (kinds.Value Integer) else Ok (first ∷ others))

-- parses an integer from contents octets, under all rules and at every position
abbrev pub parse_integer : ContentsParse
parse_integer rules p octets = integer_or_fault octets

-- parses a number that is not negative from contents octets, under all rules and at every position
abbrev pub parse_natural : ContentsParse
parse_natural rules p octets = natural_or_fault octets

-- the result of taking contents octets: a value with exactly these, or the first error
abbrev pub TakesContents : {T : Type 0} → (T → List ℕ) → (List ℕ → Result (List ℕ) ErrorKind) → List ℕ → Result T ErrorKind → Type 0
TakesContents contents or_fault octets (Ok v) = (contents v ≡ octets) × (or_fault octets ≡ Ok octets)
TakesContents contents or_fault octets (Err kind) = or_fault octets ≡ Err kind

-- a 00 before other octets, which a number that is not negative does not need
abbrev pub has_leading_zero : List ℕ → Bool
has_leading_zero [] = false
has_leading_zero (first ∷ []) = false
has_leading_zero (first ∷ second ∷ others) = first == 0

-- contents octets without a 00 before others that only shows that the number is not negative
abbrev pub without_sign_octet : List ℕ → List ℕ
without_sign_octet [] = []
without_sign_octet (first ∷ []) = first ∷ []
without_sign_octet (first ∷ second ∷ others) = if first == 0 then second ∷ others else first ∷ second ∷ others

-- a value whose contents octets are the fewest of the number of some octets, or (7) for no octets and for more contents octets than a length can count
abbrev pub KeepsNumber : {T : Type 0} → (T → List ℕ) → List ℕ → List ℕ → Result T Error → Type 0
KeepsNumber contents octets fewest (Ok v) = (contents v ≡ fewest) × (0 < length octets) × (length fewest < 2 ^ 32)
KeepsNumber contents octets fewest (Err e) = (e.kind ≡ kinds.Length Integer) × ((octets ≡ []) ⊎ (2 ^ 32 ≤ length fewest))

-- a copy in memory of such a value, or (1) for octets that have no error
abbrev pub KeepsCopy : {T : Type 0} → (T → List ℕ) → List ℕ → List ℕ → Result T Error → Type 0
KeepsCopy contents octets fewest (Ok v) = KeepsNumber contents octets fewest (Ok v)
KeepsCopy {T} contents octets fewest (Err e) = ((e.kind ≡ kinds.Memory) × (0 < length octets) × (length fewest < 2 ^ 32)) ⊎ KeepsNumber {T = T} contents octets fewest (Err e)

-- A number that is not negative, kept in the fewest octets, which have no 00 before them; or (7) for no octets, and for more octets
-- to keep than a length can count. It may have one more contents octet than the octets that are kept.
abbrev pub KeepsNatural : {T : Type 0} → (T → List ℕ) → List ℕ → Result T Error → Type 0
KeepsNatural contents octets (Ok v) =
    (contents v ≡ natural_contents (big_endian_number octets)) × (0 < length octets) × (length (without_sign_octet (natural_contents (big_endian_number octets))) < 2 ^ 32)
KeepsNatural contents octets (Err e) =
    (e.kind ≡ kinds.Length Integer) × ((octets ≡ []) ⊎ (2 ^ 32 ≤ length (without_sign_octet (natural_contents (big_endian_number octets)))))

-- a copy in memory of such a number, or (1) for octets that have no error
abbrev pub KeepsNaturalCopy : {T : Type 0} → (T → List ℕ) → List ℕ → Result T Error → Type 0
KeepsNaturalCopy contents octets (Ok v) = KeepsNatural contents octets (Ok v)
KeepsNaturalCopy {T} contents octets (Err e) =
    ((e.kind ≡ kinds.Memory) × (0 < length octets) × (length (without_sign_octet (natural_contents (big_endian_number octets))) < 2 ^ 32))
    ⊎ KeepsNatural {T = T} contents octets (Err e)

-- a value in memory with these contents octets, or (1), or (7) if they are more than a length can count
abbrev pub CopiesWithinLength : {T : Type 0} → (T → List ℕ) → List ℕ → Result T Error → Type 0
CopiesWithinLength contents octets (Ok v) = (contents v ≡ octets) × (length octets < 2 ^ 32)
CopiesWithinLength contents octets (Err e) =
    ((e.kind ≡ kinds.Memory) × (length octets < 2 ^ 32)) ⊎ ((e.kind ≡ kinds.Length Integer) × (2 ^ 32 ≤ length octets))

-- a value in memory with these contents octets, or (1)
abbrev pub CopiesContents : {T : Type 0} → (T → List ℕ) → List ℕ → Result T Error → Type 0
CopiesContents contents octets (Ok v) = contents v ≡ octets
CopiesContents contents octets (Err e) = e.kind ≡ kinds.Memory
