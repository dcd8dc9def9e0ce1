-- Identifiers of certificates in messages: a CertID (RFC 6960 4.1.1), and an IssuerAndSerialNumber (RFC 5652 10.2.4).
use Rattle.std.specs.Prelude.{ℕ, nat_eq, List, Bool, ◌&&◌}
use Rattle.std.specs.Cmp.Lexicographic.{pointwise}
use Rattle.der_cms.specs.Cms.IssuerAndSerialNumber as named
use Rattle.der_cms.specs.declared.cms.issuer_and_serial_number.IssuerAndSerialNumber.{IssuerAndSerialNumber}
use Rattle.der_numbers.specs.IntRef.{contents_of}
use Rattle.der_ocsp.specs.Ocsp.CertId as cert_id
use Rattle.der_ocsp.specs.declared.ocsp.cert_id.CertId.{CertId}
use Rattle.der_opaque.specs.OctetStringRef.{octets_of}
use Rattle.der_pkix.specs.Certificate.Certificate as certificate
use Rattle.der_pkix.specs.Certificate.TbsCertificate as tbs
use Rattle.der_pkix.specs.declared.certificate.certificate.Certificate.{Certificate}

-- whether a CertID has these hash values of the issuer's name and key, and this serial number in contents octets
abbrev pub has_hashes : List ℕ → List ℕ → List ℕ → CertId → Bool
has_hashes name_hash key_hash serial v =
    pointwise nat_eq (octets_of (cert_id.issuer_name_hash v)) name_hash
    && (pointwise nat_eq (octets_of (cert_id.issuer_key_hash v)) key_hash
    && pointwise nat_eq (contents_of (cert_id.serial_number v)) serial)

-- whether an IssuerAndSerialNumber has the serial number of a certificate
abbrev pub same_serial : IssuerAndSerialNumber → Certificate → Bool
same_serial v c = pointwise nat_eq (contents_of (named.serial_number v)) (contents_of (tbs.serial_number (certificate.tbs_certificate c)))
