-- The fields of RevokedInfo, by their names.
-- Made by tools/asn1 from ocsp.asn1.
use Rattle.std.specs.Prelude.{Option, option_map}
use Rattle.der_extensions.specs.declared.extension.crl_reason.CrlReason.{CrlReason}
use Rattle.der_ocsp.specs.declared.ocsp.revoked_info.RevokedInfo.{RevokedInfo}
use Rattle.der_time.specs.declared.generalized_time.GeneralizedTime.{GeneralizedTime}

-- revocationTime GeneralizedTime
abbrev pub revocation_time : RevokedInfo → GeneralizedTime
revocation_time v = v.fields.list.first

-- revocationReason [0] EXPLICIT CRLReason OPTIONAL
abbrev pub revocation_reason : RevokedInfo → Option CrlReason
revocation_reason v = option_map (λ x. x.fields.first.value) v.fields.list.rest.first
