-- The value of a UTCTime that contracts see, and the octets that are read as one.
use Rattle.std.specs.Prelude.{◌≡◌, ℕ, ◌<◌, List, Result, Ok, Err}
use Rattle.der_tlv.specs.declared.error.ErrorKind.TheVariants as kinds
use Rattle.der_tlv.specs.declared.error.Error.{Error}
use Rattle.der_tlv.specs.declared.tag.Tag.{Tag}
use Rattle.der_tlv.specs.declared.tag.Tag.TheVariants as tags
use Rattle.der_opaque.specs.DecodingAs.{DecodesOwnAs}
use Rattle.der_time.specs.declared.date_time.DateTime.{DateTime}
use Rattle.der_time.specs.declared.utc_time.UtcTime.{UtcTime}
use Rattle.der_time.specs.Times.{utc_contents}
use Rattle.der_time.specs.DateTime.{fields_of}
use Rattle.der_time.specs.TimeReading.{parse_utc}

-- its contents octets
abbrev pub utc_time_contents : UtcTime → List ℕ
utc_time_contents t = utc_contents (fields_of t.date_time)

-- the same time, or (13) after 2049
abbrev pub TakesTime : DateTime → Result UtcTime Error → Type 0
TakesTime time (Ok t) = t.date_time ≡ time
TakesTime time (Err e) = (e.kind ≡ kinds.Value tags.UtcTime) × (2049 < time.year)

-- the result of decoding contents octets after a tag as a UTCTime
abbrev pub DecodesUtcTime : Tag → List ℕ → Result UtcTime Error → Type 0
DecodesUtcTime = DecodesOwnAs tags.UtcTime utc_time_contents (λ time. Unit {0}) parse_utc
