-- Whether a list of revoked certificates is current at a moment (RFC 5280 5.1.2.4 and 5.1.2.5).
use Rattle.std.specs.Prelude.{ℕ, nat_le, ◌&&◌, Bool, true, Option, None, Some}
use Rattle.der_pkix.specs.declared.certificate.time.Time.{Time}
use Rattle.der_verify.specs.Time.{seconds_of}

-- a moment, in seconds since 1970-01-01T00:00:00Z, until the next list, if its time is given
abbrev pub is_before_next : Option Time → ℕ → Bool
is_before_next None seconds = true
is_before_next (Some next) seconds = nat_le seconds (seconds_of next)

-- a moment from thisUpdate to nextUpdate, both included
abbrev pub is_current_at : Time → Option Time → ℕ → Bool
is_current_at first next seconds = nat_le (seconds_of first) seconds && is_before_next next seconds
