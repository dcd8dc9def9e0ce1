-- The fields of RevokedCertificate, by their names.
-- Made by tools/asn1 from crl.asn1.
use Rattle.std.specs.Prelude.{Option}
use Rattle.der_numbers.specs.declared.int_ref.IntRef.{IntRef}
use Rattle.der_pkix.specs.declared.certificate.extensions.Extensions.{Extensions}
use Rattle.der_pkix.specs.declared.certificate.time.Time.{Time}
use Rattle.der_pkix.specs.declared.crl.revoked_certificate.RevokedCertificate.{RevokedCertificate}

-- userCertificate CertificateSerialNumber
abbrev pub user_certificate : RevokedCertificate → IntRef
user_certificate v = v.fields.list.first

-- revocationDate Time
abbrev pub revocation_date : RevokedCertificate → Time
revocation_date v = v.fields.list.rest.first

-- crlEntryExtensions Extensions OPTIONAL
abbrev pub crl_entry_extensions : RevokedCertificate → Option Extensions
crl_entry_extensions v = v.fields.list.rest.rest.first
