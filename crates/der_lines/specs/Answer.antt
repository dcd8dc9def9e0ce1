-- The answer to a line, as a function of a table of types and the line's octets.
use Rattle.std.specs.Prelude.{◌≢◌, ℕ, ◌+◌, ◌==◌, List, [], ◌++◌, length, take, drop, position, Option, None, Some, option_map, Result, Ok, Err, if◌then◌else◌, codes}
use Rattle.std.specs.Fmt.{decimal}
use Rattle.std.specs.Str.{bytes_eq}
use Rattle.std.specs.Result.{result_ok}
use Rattle.hex.specs.Hex.{decode_of, encode_lower}
use Rattle.der_tlv.specs.ErrorNumber.{error_number}
use Rattle.der_tlv.specs.declared.error.ErrorKind.{ErrorKind}
use Rattle.der_tlv.specs.declared.error.ErrorKind.TheVariants.{Memory}
use Rattle.der_lines.specs.Rows.{Row, canonical}
use Rattle.der_lines.specs.Tables.{Table}

-- the octets before the first space, and those after it
abbrev pub parts_of : List ℕ → Option (List ℕ × List ℕ)
parts_of line = option_map (λ end. (take end line, drop (end + 1) line)) (position (λ octet. octet == 32) line)

-- the octets of an even number of hex digits, at least two, or no octets for `-`
abbrev pub octets_of : List ℕ → Option (List ℕ)
octets_of text =
    if length text == 0 then None
    else if bytes_eq text (codes "-") then Some []
    else result_ok (decode_of text)

-- the text of a canonical encoding
abbrev pub accepted_of : List ℕ → List ℕ
accepted_of encoding = if length encoding == 0 then codes "ok -" else codes "ok " ++ encode_lower encoding

-- the text of an error
abbrev pub refused_of : ErrorKind → List ℕ
refused_of kind = codes "refused " ++ decimal (error_number kind)

abbrev pub verdict_of : Result (List ℕ) ErrorKind → List ℕ
verdict_of (Ok encoding) = accepted_of encoding
verdict_of (Err kind) = refused_of kind

abbrev pub verdict_by : Option Row → List ℕ → List ℕ
verdict_by None octets = codes "bad line"
verdict_by (Some row) octets = verdict_of (canonical row octets)

abbrev pub answer_to_text : Table → List ℕ → Option (List ℕ) → List ℕ
answer_to_text table name None = codes "bad line"
answer_to_text table name (Some octets) = verdict_by (table name) octets

abbrev pub answer_to_parts : Table → Option (List ℕ × List ℕ) → List ℕ
answer_to_parts table None = codes "bad line"
answer_to_parts table (Some parts) = answer_to_text table parts.0 (octets_of parts.1)

-- the answer to a line, by the types of a table
unfoldable pub answer_of : Table → List ℕ → List ℕ
answer_of table line = answer_to_parts table (parts_of line)

-- the result for the octets is not that memory ran out
abbrev pub IsNotMemory : Option Row → List ℕ → Type 0
IsNotMemory None octets = Unit {0}
IsNotMemory (Some row) octets = canonical row octets ≢ Err Memory

abbrev pub text_is_not_memory : Table → List ℕ → Option (List ℕ) → Type 0
text_is_not_memory table name None = Unit {0}
text_is_not_memory table name (Some octets) = IsNotMemory (table name) octets

abbrev pub parts_are_not_memory : Table → Option (List ℕ × List ℕ) → Type 0
parts_are_not_memory table None = Unit {0}
parts_are_not_memory table (Some parts) = text_is_not_memory table parts.0 (octets_of parts.1)

-- a line would not be refused because memory ran out: its answer is not `refused 1`
abbrev pub NotRefusedForMemory : Table → List ℕ → Type 0
NotRefusedForMemory table line = parts_are_not_memory table (parts_of line)
