-- The fields of IssuerSerial, by their names.
-- Made by tools/asn1 from ess.asn1.
use Rattle.der_cms.specs.declared.ess.issuer_serial.IssuerSerial.{IssuerSerial}
use Rattle.der_extensions.specs.declared.extension.general_names.GeneralNames.{GeneralNames}
use Rattle.der_numbers.specs.declared.int_ref.IntRef.{IntRef}

-- issuer GeneralNames
abbrev pub issuer : IssuerSerial → GeneralNames
issuer v = v.fields.list.first

-- serialNumber CertificateSerialNumber
abbrev pub serial_number : IssuerSerial → IntRef
serial_number v = v.fields.list.rest.first
