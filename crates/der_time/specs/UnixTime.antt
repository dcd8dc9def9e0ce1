-- The seconds from 1970-01-01T00:00:00Z to a time.
use Rattle.std.specs.Prelude.{◌≡◌, ℕ, ◌+◌, ◌*◌, ◌/◌, ◌<◌, ◌≤◌, pos, unsigned_abs, ◌⊎◌, Result, Ok, Err}
use Rattle.std.specs.Duration.{as_nanos}
use Rattle.std.specs.declared.time.Duration.{Duration}
use Rattle.jiff_core.specs.declared.civil.date.Date.{Date}
use Rattle.jiff_core.specs.Calendar.{days_from_civil}
use Rattle.der_tlv.specs.declared.error.ErrorKind.TheVariants as kinds
use Rattle.der_tlv.specs.declared.error.ErrorKind.{ErrorKind}
use Rattle.der_tlv.specs.declared.error.Error.{Error}
use Rattle.der_tlv.specs.declared.tag.Tag.TheVariants as tags
use Rattle.der_time.specs.declared.date_time.DateTime.{DateTime}
use Rattle.der_time.specs.declared.utc_time.UtcTime.{UtcTime}

-- the day number of its date, which is not negative: 0 for 1970-01-01
unfoldable pub day_number : DateTime → ℕ
day_number t = unsigned_abs (days_from_civil (pos t.year) t.month t.day)

-- the seconds of its day that are before it
abbrev pub second_of_day : DateTime → ℕ
second_of_day t = t.hour * 3600 + t.minutes * 60 + t.seconds

-- the seconds before it
abbrev pub unix_seconds : DateTime → ℕ
unix_seconds t = day_number t * 86400 + second_of_day t

-- the seconds before the last time, 9999-12-31T23:59:59Z
abbrev pub last_second : ℕ
last_second = 253_402_300_799

-- a duration of these seconds and no more
abbrev pub LastsSeconds : ℕ → Duration → Type 0
LastsSeconds seconds d = as_nanos d ≡ seconds * 1_000_000_000

-- the whole seconds of a duration
abbrev pub whole_seconds : Duration → ℕ
whole_seconds d = as_nanos d / 1_000_000_000

-- the time after the whole seconds of a duration, or this error for a duration longer than that of the last time
abbrev pub IsTimeAfter : {T : Type 0} → (T → DateTime) → ErrorKind → Duration → Result T Error → Type 0
IsTimeAfter date_time kind d (Ok t) = (unix_seconds (date_time t) ≡ whole_seconds d) × (as_nanos d ≤ last_second * 1_000_000_000)
IsTimeAfter date_time kind d (Err e) = (e.kind ≡ kind) × (last_second * 1_000_000_000 < as_nanos d)

-- the time is on this date
pub record IsOnDate (d : Date) (t : DateTime) : Type 0 where
  pub year : pos t.year ≡ d.year
  pub month : t.month ≡ d.month
  pub day : t.day ≡ d.day

-- the seconds before 2050-01-01T00:00:00Z
abbrev pub end_of_2049 : ℕ
end_of_2049 = 2_524_608_000

-- the UTCTime after the whole seconds of a duration; (14) for a duration longer than that of the last time, else (13) from 2050 on
abbrev pub IsUtcTimeAfter : Duration → Result UtcTime Error → Type 0
IsUtcTimeAfter d (Ok t) = (unix_seconds t.date_time ≡ whole_seconds d) × (whole_seconds d < end_of_2049)
IsUtcTimeAfter d (Err e) =
    ((e.kind ≡ kinds.DateTime) × (last_second * 1_000_000_000 < as_nanos d)) ⊎ ((e.kind ≡ kinds.Value tags.UtcTime) × (as_nanos d ≤ last_second * 1_000_000_000) × (end_of_2049 ≤ whole_seconds d))
