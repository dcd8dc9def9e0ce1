-- The fields of IssuerAndSerialNumber, by their names.
-- Made by tools/asn1 from cms.asn1.
use Rattle.der_cms.specs.declared.cms.issuer_and_serial_number.IssuerAndSerialNumber.{IssuerAndSerialNumber}
use Rattle.der_numbers.specs.declared.int_ref.IntRef.{IntRef}
use Rattle.der_pkix.specs.declared.name.rdn_sequence.RdnSequence.{RdnSequence}

-- issuer Name
abbrev pub issuer : IssuerAndSerialNumber → RdnSequence
issuer v = v.fields.list.first

-- serialNumber CertificateSerialNumber
abbrev pub serial_number : IssuerAndSerialNumber → IntRef
serial_number v = v.fields.list.rest.first
