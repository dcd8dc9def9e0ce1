-- The octets that are read as a time, and the errors of others.
use Rattle.std.specs.Prelude.{◌≡◌, ℕ, ◌+◌, ◌*◌, ◌&&◌, ◌==◌, not, nat_lt, Bool, List, [], ◌∷◌, length, slice_index, drop, Option, Some, None, option_and_then, is_some, bytes_eq, if◌then◌else◌, Result, Ok, Err}
use Rattle.der_tlv.specs.declared.error.ErrorKind.{ErrorKind}
use Rattle.der_tlv.specs.declared.error.ErrorKind.TheVariants as kinds
use Rattle.der_tlv.specs.declared.tag.Tag.TheVariants as tags
use Rattle.der_elem.specs.Parsing.{ContentsParse}
use Rattle.der_time.specs.declared.fields.Fields.{Fields}
use Rattle.der_time.specs.Digits.{read_two_digits}
use Rattle.der_time.specs.Times.{is_time}

infixl 10 ◌>>=◌
abbrev ◌>>=◌ : {A B : Type 0} → Option A → (A → Option B) → Option B
o >>= f = option_and_then f o

-- hour, minutes and seconds in two digits each, and Z at the end
unfoldable pub read_clock : ℕ → ℕ → ℕ → List ℕ → Option Fields
read_clock year month day octets = do
  hour ← read_two_digits octets
  minutes ← read_two_digits hour.1
  seconds ← read_two_digits minutes.1
  if bytes_eq seconds.1 (90 ∷ [])
      then Some (record {
        year = year;
        month = month;
        day = day;
        hour = hour.0;
        minutes = minutes.0;
        seconds = seconds.0;
      })
      else None

-- month and day, and then the clock
unfoldable pub read_after_year : ℕ → List ℕ → Option Fields
read_after_year year octets = do
  month ← read_two_digits octets
  day ← read_two_digits month.1
  read_clock year month.0 day.0 day.1

-- a year of four digits, and then the rest
unfoldable pub read_generalized : List ℕ → Option Fields
read_generalized octets = do
  century ← read_two_digits octets
  year ← read_two_digits century.1
  read_after_year (century.0 * 100 + year.0) year.1

-- the year of two digits: 50 and more is 19YY, less is 20YY (RFC 5280 4.1.2.5.1)
abbrev pub century_of : ℕ → ℕ
century_of year = if nat_lt year 50 then 2000 + year else 1900 + year

-- a year of two digits, and then the rest
unfoldable pub read_utc : List ℕ → Option Fields
read_utc octets = do
  year ← read_two_digits octets
  read_after_year (century_of year.0) year.1

-- the octets after this octet at the front
unfoldable pub read_octet : ℕ → List ℕ → Option (List ℕ)
read_octet octet [] = None
read_octet octet (first ∷ others) = if first == octet then Some others else None

-- hour, minutes and seconds with colons between them, and Z at the end
unfoldable pub read_clock_text : ℕ → ℕ → ℕ → List ℕ → Option Fields
read_clock_text year month day text = do
  hour ← read_two_digits text
  minutes ← read_octet 58 hour.1 >>= read_two_digits
  seconds ← read_octet 58 minutes.1 >>= read_two_digits
  if bytes_eq seconds.1 (90 ∷ [])
      then Some (record {
        year = year;
        month = month;
        day = day;
        hour = hour.0;
        minutes = minutes.0;
        seconds = seconds.0;
      })
      else None

-- year, month and day with hyphens between them and T after them
unfoldable pub read_text : List ℕ → Option Fields
read_text text = do
  century ← read_two_digits text
  year ← read_two_digits century.1
  month ← read_octet 45 year.1 >>= read_two_digits
  day ← read_octet 45 month.1 >>= read_two_digits
  read_octet 84 day.1 >>= read_clock_text (century.0 * 100 + year.0) month.0 day.0

-- the six numbers, if they are a time
abbrev pub if_time : Fields → Option Fields
if_time f = if is_time f then Some f else None

-- the octets if they are read as a time, else this error
abbrev pub octets_or : ErrorKind → List ℕ → Option Fields → Result (List ℕ) ErrorKind
octets_or kind octets None = Err kind
octets_or kind octets (Some f) = Ok octets

-- whether these are 15 octets that end with Z and begin with two digits, and whose third and fourth octets are not both digits
unfoldable pub lacks_year : List ℕ → Bool
lacks_year octets =
    (length octets == 15) && (slice_index octets 14 == 90) && is_some (read_two_digits octets) && not (is_some (read_two_digits (drop 2 octets)))

-- the error for octets that are not a GeneralizedTime: (14) if the year lacks its last two digits, else (13)
abbrev pub generalized_fault : List ℕ → ErrorKind
generalized_fault octets = if lacks_year octets then kinds.DateTime else kinds.Value tags.GeneralizedTime

-- the result for contents octets of a GeneralizedTime
unfoldable pub generalized_or_fault : List ℕ → Result (List ℕ) ErrorKind
generalized_or_fault octets = octets_or (generalized_fault octets) octets (read_generalized octets >>= if_time)

abbrev pub parse_generalized : ContentsParse
parse_generalized rules p octets = generalized_or_fault octets

-- the result for contents octets of a UTCTime: (13) if they are not a time
unfoldable pub utc_or_fault : List ℕ → Result (List ℕ) ErrorKind
utc_or_fault octets = octets_or (kinds.Value tags.UtcTime) octets (read_utc octets >>= if_time)

abbrev pub parse_utc : ContentsParse
parse_utc rules p octets = utc_or_fault octets

-- a value with these contents octets, or their first error
abbrev pub ReadAs : {T : Type 0} → (T → List ℕ) → (List ℕ → Result (List ℕ) ErrorKind) → List ℕ → Result T ErrorKind → Type 0
ReadAs contents parse octets (Ok v) = (contents v ≡ octets) × (parse octets ≡ Ok octets)
ReadAs contents parse octets (Err k) = parse octets ≡ Err k
