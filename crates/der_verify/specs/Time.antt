-- Dates of certificates (RFC 5280 4.1.2.5): "CAs conforming to this profile MUST always encode certificate validity dates through the
-- year 2049 as UTCTime; certificate validity dates in 2050 or later MUST be encoded as GeneralizedTime."
use Rattle.std.specs.Prelude.{◌≡◌, ℕ, ◌≤◌, ◌<◌, nat_le, ◌&&◌, Bool, false}
use Rattle.der_time.specs.declared.date_time.DateTime.{DateTime}
use Rattle.der_time.specs.UnixTime.{unix_seconds}
use Rattle.der_pkix.specs.declared.certificate.time.Time.{Time}
use Rattle.der_pkix.specs.declared.certificate.time.Time.TheVariants.{UtcTime, GeneralTime}
use Rattle.der_pkix.specs.declared.certificate.validity.Validity.{Validity}
use Rattle.der_pkix.specs.Certificate.Validity as validity

-- the date and time of a Time
abbrev pub date_time_of : Time → DateTime
date_time_of (UtcTime t) = t.date_time
date_time_of (GeneralTime t) = t.date_time

-- the form that the profile requires
abbrev pub HasForm : DateTime → Time → Type 0
HasForm at (UtcTime t) = (t.date_time ≡ at) × (at.year ≤ 2049)
HasForm at (GeneralTime t) = (t.date_time ≡ at) × (2049 < at.year)

-- a date through 2049 as a GeneralizedTime
abbrev pub is_early : Time → Bool
is_early (UtcTime t) = false
is_early (GeneralTime t) = nat_le t.date_time.year 2049

-- the seconds from 1970-01-01T00:00:00Z
abbrev pub seconds_of : Time → ℕ
seconds_of t = unix_seconds (date_time_of t)

-- a moment within a validity, both ends included (4.1.2.5)
abbrev pub is_valid_at : Validity → ℕ → Bool
is_valid_at v seconds = nat_le (seconds_of (validity.not_before v)) seconds && nat_le seconds (seconds_of (validity.not_after v))
