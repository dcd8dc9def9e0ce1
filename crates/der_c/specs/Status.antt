-- The status of a certificate (RFC 6960 4.2.1).
use Rattle.std.specs.Prelude.{ℕ}
use Rattle.der_ocsp.specs.Ocsp.RevokedInfo as revoked
use Rattle.der_ocsp.specs.declared.ocsp.cert_status.CertStatus.{CertStatus}
use Rattle.der_ocsp.specs.declared.ocsp.cert_status.CertStatus.TheVariants.{Good, Revoked, Unknown}
use Rattle.der_c.specs.Times.{seconds_of_general}

-- good, revoked or unknown
abbrev pub number_of_status : CertStatus → ℕ
number_of_status (Good tagged) = 0
number_of_status (Revoked tagged) = 1
number_of_status (Unknown tagged) = 2

-- when the certificate was revoked, in seconds; 0 if it was not revoked
abbrev pub revoked_at : CertStatus → ℕ
revoked_at (Good tagged) = 0
revoked_at (Revoked tagged) = seconds_of_general (revoked.revocation_time tagged.value)
revoked_at (Unknown tagged) = 0
