-- The results of reading contents octets as an INTEGER of a number of octets (X.690 8.3).
use Rattle.std.specs.Prelude.{◌≡◌, ℕ, ◌+◌, ◌||◌, ◌&&◌, ◌==◌, nat_lt, nat_le, if◌then◌else◌, List, [], ◌∷◌, length, Bool, false, ℤ, Result, Ok, Err}
use Rattle.der_tlv.specs.declared.error.ErrorKind.{ErrorKind}
use Rattle.der_tlv.specs.declared.error.ErrorKind.TheVariants as kinds
use Rattle.der_tlv.specs.declared.tag.Tag.TheVariants.{Integer}
use Rattle.der_elem.specs.Parsing.{ContentsParse}
use Rattle.der_elem.specs.Integer.{natural_contents, integer_contents, is_redundant, FitsSignedWidth, FitsUnsignedWidth, fits_unsigned}

-- a first octet 00 before an octet below 80, which a number that is not negative does not need (X.690 8.3.2)
abbrev pub has_needless_zero : List ℕ → Bool
has_needless_zero [] = false
has_needless_zero (first ∷ []) = false
has_needless_zero (first ∷ second ∷ others) = first == 0 && nat_lt second 128

-- at a width of w octets: no octets (7), more than w (8), a redundant first octet (8)
abbrev pub signed_or_fault : ℕ → List ℕ → Result (List ℕ) ErrorKind
signed_or_fault width [] = Err (kinds.Length Integer)
signed_or_fault width (first ∷ others) =
    if nat_lt width (length (first ∷ others)) || is_redundant (first ∷ others) then Err (kinds.Noncanonical Integer) else Ok (first ∷ others)

-- of a number that is not negative: no octets (7), more than w + 1 (8), a needless 00 (8), a negative number (13), w + 1 octets with a first octet that is not 00 (7)
abbrev pub unsigned_or_fault : ℕ → List ℕ → Result (List ℕ) ErrorKind
unsigned_or_fault width [] = Err (kinds.Length Integer)
unsigned_or_fault width (first ∷ others) =
    if nat_lt (width + 1) (length (first ∷ others)) || has_needless_zero (first ∷ others) then Err (kinds.Noncanonical Integer)
    else (if nat_le 128 first then Err (kinds.Value Integer)
    else (if fits_unsigned width (first ∷ others) then Ok (first ∷ others) else Err (kinds.Length Integer)))

-- a parse of contents octets with these errors, under all rules and at every position
abbrev pub parse_signed : ℕ → ContentsParse
parse_signed width rules p octets = signed_or_fault width octets

-- this parse, for a number that is not negative
abbrev pub parse_unsigned : ℕ → ContentsParse
parse_unsigned width rules p octets = unsigned_or_fault width octets

-- the result of reading contents octets: an integer in range whose contents octets they are, or the first error
abbrev pub ReadsSigned : ℕ → List ℕ → Result ℤ ErrorKind → Type 0
ReadsSigned width octets (Ok integer) = (octets ≡ integer_contents integer) × FitsSignedWidth width integer
ReadsSigned width octets (Err kind) = signed_or_fault width octets ≡ Err kind

-- this result, for a number that is not negative
abbrev pub ReadsUnsigned : ℕ → List ℕ → Result ℕ ErrorKind → Type 0
ReadsUnsigned width octets (Ok number) = (octets ≡ natural_contents number) × FitsUnsignedWidth width number
ReadsUnsigned width octets (Err kind) = unsigned_or_fault width octets ≡ Err kind
