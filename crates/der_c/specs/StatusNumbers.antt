-- Reasons of revocation, and the steps that refuse lists and answers, as numbers.
use Rattle.std.specs.Prelude.{ℕ, List, [], ◌∷◌, Bool, false, Option, Some, None}
use Rattle.der_extensions.specs.declared.extension.crl_reason.CrlReason.{CrlReason}
use Rattle.der_extensions.specs.declared.extension.crl_reason.CrlReason.TheVariants as reason
use Rattle.der_ocsp.specs.Ocsp.RevokedInfo as revoked
use Rattle.der_ocsp.specs.declared.ocsp.cert_status.CertStatus.{CertStatus}
use Rattle.der_ocsp.specs.declared.ocsp.cert_status.CertStatus.TheVariants.{Good, Revoked, Unknown}
use Rattle.der_path.specs.declared.list_step.ListStep.{ListStep}
use Rattle.der_path.specs.declared.list_step.ListStep.TheVariants as step
use Rattle.der_path.specs.declared.ocsp_step.OcspStep.{OcspStep}
use Rattle.der_path.specs.declared.ocsp_step.OcspStep.TheVariants as ocsp_step
use Rattle.der_path.specs.declared.reasons.Reasons.{Reasons}
use Rattle.der_c.specs.Bits.{bits}

-- CRLReason (RFC 5280 5.3.1)
abbrev pub number_of_reason : CrlReason → ℕ
number_of_reason reason.Unspecified = 0
number_of_reason reason.KeyCompromise = 1
number_of_reason reason.CaCompromise = 2
number_of_reason reason.AffiliationChanged = 3
number_of_reason reason.Superseded = 4
number_of_reason reason.CessationOfOperation = 5
number_of_reason reason.CertificateHold = 6
number_of_reason reason.RemoveFromCrl = 8
number_of_reason reason.PrivilegeWithdrawn = 9
number_of_reason reason.AaCompromise = 10

-- 0, unspecified, if there is no reason
abbrev pub number_if_given : Option CrlReason → ℕ
number_if_given None = 0
number_if_given (Some r) = number_of_reason r

-- the reason why a certificate was revoked (RFC 6960 4.2.1)
abbrev pub reason_of_status : CertStatus → ℕ
reason_of_status (Good tagged) = 0
reason_of_status (Revoked tagged) = number_if_given (revoked.revocation_reason tagged.value)
reason_of_status (Unknown tagged) = 0

-- ReasonFlags (RFC 5280 4.2.1.13), of which bit 0 is not used
abbrev pub reason_flags : Reasons → List Bool
reason_flags r =
    false ∷ r.key_compromise ∷ r.ca_compromise ∷ r.affiliation_changed ∷ r.superseded
    ∷ r.cessation_of_operation ∷ r.certificate_hold ∷ r.privilege_withdrawn ∷ r.aa_compromise ∷ []

abbrev pub reason_bits : Reasons → ℕ
reason_bits r = bits (reason_flags r)

-- the number of each step that refuses a list
abbrev pub number_of_list_step : ListStep → ℕ
number_of_list_step step.Delta = 1
number_of_list_step step.UnknownExtension = 2
number_of_list_step step.UnreadEntry = 3
number_of_list_step step.UnknownEntryExtension = 4
number_of_list_step step.Issuer = 5
number_of_list_step step.PointName = 6
number_of_list_step step.UserCertificates = 7
number_of_list_step step.CaCertificates = 8
number_of_list_step step.AttributeCertificates = 9
number_of_list_step step.ThisUpdate = 10
number_of_list_step step.NextUpdate = 11
number_of_list_step step.NoNewReasons = 12

-- the number of each step that refuses an answer
abbrev pub number_of_ocsp_step : OcspStep → ℕ
number_of_ocsp_step ocsp_step.CriticalExtension = 1
number_of_ocsp_step ocsp_step.NotAnswered = 2
number_of_ocsp_step ocsp_step.ThisUpdate = 3
number_of_ocsp_step ocsp_step.NextUpdate = 4
number_of_ocsp_step ocsp_step.NoResponder = 5
