-- Named bits (X.680 22.7): a BIT STRING with no 0 at its end (X.690 11.2.2).
use Rattle.std.specs.Prelude.{ℕ, ◌-◌, ◌/◌, ◌%◌, ◌^◌, nat_eq, Bool, ◌||◌, if◌then◌else◌, List, length, slice_index_or, Result, Ok, Err}
use Rattle.der_tlv.specs.declared.error.ErrorKind.{ErrorKind}
use Rattle.der_tlv.specs.declared.error.ErrorKind.TheVariants as kinds
use Rattle.der_tlv.specs.declared.tag.Tag.TheVariants as tags
use Rattle.der_elem.specs.Parsing.{ContentsParse}
use Rattle.der_bits.specs.BitString.{unused_count, bit_octets, bits_or_fault}

-- whether the last bit before this number of unused bits is 1, or there is no octet
abbrev pub ends_in_one : ℕ → List ℕ → Bool
ends_in_one count octets = nat_eq (length octets) 0 || nat_eq (slice_index_or octets (length octets - 1) 0 / 2 ^ count % 2) 1

-- contents octets that end in a bit 1, or (8), or an earlier error
abbrev pub ending_in_one : Result (List ℕ) ErrorKind → Result (List ℕ) ErrorKind
ending_in_one (Ok contents) =
    if ends_in_one (unused_count contents) (bit_octets contents) then Ok contents else Err (kinds.Noncanonical tags.BitString)
ending_in_one (Err kind) = Err kind

-- the result for contents octets: the errors of a BIT STRING, then a bit 0 at the end (8)
abbrev pub named_bits_or_fault : List ℕ → Result (List ℕ) ErrorKind
named_bits_or_fault contents = ending_in_one (bits_or_fault contents)

abbrev pub parse_named_bits : ContentsParse
parse_named_bits rules p contents = named_bits_or_fault contents
