-- Dates as seconds from 1970-01-01T00:00:00Z, with no leap seconds.
use Rattle.std.specs.Prelude.{◌≡◌, ℕ, List, Option, None, Some}
use Rattle.der_pkix.specs.declared.certificate.time.Time.{Time}
use Rattle.der_pkix.specs.declared.certificate.time.Time.TheVariants.{UtcTime, GeneralTime}
use Rattle.der_simple.specs.FractionalTimes.{fraction_of, time_octets}
use Rattle.der_time.specs.UnixTime.{unix_seconds}
use Rattle.der_time.specs.declared.generalized_time.GeneralizedTime.{GeneralizedTime}

-- the seconds of a date
abbrev pub seconds_of : Time → ℕ
seconds_of (UtcTime t) = unix_seconds t.date_time
seconds_of (GeneralTime t) = unix_seconds t.date_time

-- the seconds of a date, or 0 if it is absent
abbrev pub seconds_if_there : Option Time → ℕ
seconds_if_there None = 0
seconds_if_there (Some t) = seconds_of t

-- the number of a version, or 0 for v1 if it is absent (RFC 5280 5.1.2.1)
abbrev pub version_if_there : Option ℕ → ℕ
version_if_there None = 0
version_if_there (Some n) = n

-- the seconds of a GeneralizedTime
abbrev pub seconds_of_general : GeneralizedTime → ℕ
seconds_of_general t = unix_seconds t.date_time

-- the seconds of a GeneralizedTime, or 0 if it is absent
abbrev pub seconds_if_given : Option GeneralizedTime → ℕ
seconds_if_given None = 0
seconds_if_given (Some t) = seconds_of_general t

-- contents octets encode a second with this number, and a fraction
pub record IsSecondOf (contents : List ℕ) (seconds : ℕ) : Type 0 where
  pub second : GeneralizedTime
  pub octets_are : contents ≡ time_octets second (fraction_of contents)
  pub seconds_are : seconds ≡ seconds_of_general second
