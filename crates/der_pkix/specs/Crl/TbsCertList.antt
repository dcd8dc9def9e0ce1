-- The fields of TBSCertList, by their names.
-- Made by tools/asn1 from crl.asn1.
use Rattle.std.specs.Prelude.{Option, option_map, ℕ}
use Rattle.der_lists.specs.declared.list_ref.ListRef.{ListRef}
use Rattle.der_pkix.specs.declared.algorithm_identifier.AlgorithmIdentifier.{AlgorithmIdentifier}
use Rattle.der_pkix.specs.declared.certificate.extensions.Extensions.{Extensions}
use Rattle.der_pkix.specs.declared.certificate.time.Time.{Time}
use Rattle.der_pkix.specs.declared.crl.revoked_certificate.RevokedCertificate.{RevokedCertificate}
use Rattle.der_pkix.specs.declared.crl.tbs_cert_list.TbsCertList.{TbsCertList}
use Rattle.der_pkix.specs.declared.name.rdn_sequence.RdnSequence.{RdnSequence}

-- version Version OPTIONAL
abbrev pub version : TbsCertList → Option ℕ
version v = v.fields.list.first

-- signature AlgorithmIdentifier
abbrev pub signature : TbsCertList → AlgorithmIdentifier
signature v = v.fields.list.rest.first

-- issuer Name
abbrev pub issuer : TbsCertList → RdnSequence
issuer v = v.fields.list.rest.rest.first

-- thisUpdate Time
abbrev pub this_update : TbsCertList → Time
this_update v = v.fields.list.rest.rest.rest.first

-- nextUpdate Time OPTIONAL
abbrev pub next_update : TbsCertList → Option Time
next_update v = v.fields.list.rest.rest.rest.rest.first

-- revokedCertificates SEQUENCE OF SEQUENCE { userCertificate CertificateSerialNumber, revocationDate Time, crlEntryExtensions Extensions OPTIONAL } OPTIONAL
abbrev pub revoked_certificates : TbsCertList → Option (ListRef RevokedCertificate)
revoked_certificates v = v.fields.list.rest.rest.rest.rest.rest.first

-- crlExtensions [0] Extensions OPTIONAL
abbrev pub crl_extensions : TbsCertList → Option Extensions
crl_extensions v = option_map (λ x. x.fields.first) v.fields.list.rest.rest.rest.rest.rest.rest.first
