-- The numbers of the kinds of errors.
use Rattle.std.specs.Prelude.{ℕ, None}
use Rattle.der_tlv.specs.declared.error.Error.{Error}
use Rattle.der_tlv.specs.declared.error.ErrorKind.{ErrorKind}
use Rattle.der_tlv.specs.declared.error.ErrorKind.TheVariants.{Memory, Incomplete, TrailingData, TagUnexpected, TagUnknown, TagNumberInvalid, Length, Noncanonical, Overflow, Overlength, SetOrdering, Utf8, Value, DateTime, OidMalformed, IndefiniteLength, Failed}

abbrev pub error_number : ErrorKind → ℕ
error_number Memory = 1
error_number (Incomplete expected_len actual_len) = 2
error_number (TrailingData decoded remaining) = 3
error_number (TagUnexpected expected actual) = 4
error_number (TagUnknown byte) = 5
error_number TagNumberInvalid = 6
error_number (Length tag) = 7
error_number (Noncanonical tag) = 8
error_number Overflow = 9
error_number Overlength = 10
error_number SetOrdering = 11
error_number Utf8 = 12
error_number (Value tag) = 13
error_number DateTime = 14
error_number OidMalformed = 15
error_number IndefiniteLength = 16
error_number Failed = 17

-- memory ran out, with no position
abbrev pub out_of_memory : Error
out_of_memory = record { kind = Memory; position = None }
