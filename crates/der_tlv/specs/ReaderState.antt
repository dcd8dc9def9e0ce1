-- The state of a reader, and the state after each call.
use Rattle.std.specs.Prelude.{ℕ, ◌+◌, ◌-◌, ◌^◌, ◌<◌, ◌≤◌, List, length, take, drop, Bool, true, false, nat_lt, nat_le, ◌&&◌, ◌==◌, not, if◌then◌else◌, Result, Err}
use Rattle.der_tlv.specs.declared.error.ErrorKind.{ErrorKind}
use Rattle.der_tlv.specs.declared.error.ErrorKind.TheVariants.{Incomplete, Overflow, Failed, TrailingData}
use Rattle.der_tlv.specs.declared.encoding_rules.EncodingRules.{EncodingRules}
use Rattle.der_tlv.specs.declared.reader.source.Cursor.{Cursor}

-- the whole input, the position in it, the end of the octets that are shown now, whether a call has refused, and the rules
pub record ReaderState : Type 0 where
  pub input : List ℕ
  pub position : ℕ
  pub end : ℕ
  pub failed : Bool
  pub rules : EncodingRules

-- the properties of every reader
pub record IsReaderState (s : ReaderState) : Type 0 where
  pub ordered : s.position ≤ s.end
  pub inside : s.end ≤ length s.input
  pub short : length s.input < 2 ^ 32

-- a new reader of these octets
abbrev pub new_reader : List ℕ → EncodingRules → ReaderState
new_reader input rules = record { input = input; position = 0; end = length input; failed = false; rules = rules }

-- this input, read from the cursor on
abbrev pub with_cursor : ReaderState → Cursor → ReaderState
with_cursor s c = record { input = s.input; position = c.position; end = c.end; failed = c.failed; rules = c.rules }

-- the octets that the reader can still read
abbrev pub rest : ReaderState → List ℕ
rest s = drop s.position (take s.end s.input)

abbrev pub after_read : ReaderState → ℕ → ReaderState
after_read s n = record s { position = s.position + n }

abbrev pub after_fault : ReaderState → ReaderState
after_fault s = record s { failed = true }

abbrev pub after_nest : ReaderState → ℕ → ReaderState
after_nest s n = record s { end = s.position + n }

abbrev pub after_unnest : ReaderState → ℕ → ReaderState
after_unnest s end = record s { end = end }

abbrev pub after_rewind : ReaderState → ℕ → ReaderState
after_rewind s position = record s { position = position }

abbrev pub can_read : ReaderState → ℕ → Bool
can_read s n = not s.failed && nat_le (s.position + n) s.end

abbrev pub can_unnest : ReaderState → ℕ → Bool
can_unnest s end = not s.failed && (s.position == s.end) && nat_le s.end end && nat_le end (length s.input)

-- the error of reading n octets at position p, where only `left` octets are left
abbrev pub read_fault_at : ℕ → ℕ → ℕ → ErrorKind
read_fault_at p n left = if nat_lt (p + n) (2 ^ 32) then Incomplete (p + n) (p + left) else Overflow

abbrev pub read_fault : ReaderState → ℕ → ErrorKind
read_fault s n = if s.failed then Failed else (if nat_lt (s.position + n) (2 ^ 32) then Incomplete (s.position + n) s.end else Overflow)

abbrev pub unnest_fault : ReaderState → ErrorKind
unnest_fault s = if s.failed then Failed else (if s.position == s.end then Overflow else TrailingData s.position (length (rest s)))

-- the result that a reader gets from a function of its position and the octets left: (17) if the reader has refused
abbrev pub unless_failed : {A : Type 0} → (ℕ → List ℕ → Result A ErrorKind) → ReaderState → Result A ErrorKind
unless_failed parse s = if s.failed then Err Failed else parse s.position (rest s)

abbrev pub can_finish : ReaderState → Bool
can_finish s = not s.failed && (s.position == length s.input)

abbrev pub finish_fault : ReaderState → ErrorKind
finish_fault s = if s.failed then Failed else TrailingData s.position (length s.input - s.position)
