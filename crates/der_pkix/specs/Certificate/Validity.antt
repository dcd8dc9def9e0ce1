-- The fields of Validity, by their names.
-- Made by tools/asn1 from certificate.asn1.
use Rattle.der_pkix.specs.declared.certificate.time.Time.{Time}
use Rattle.der_pkix.specs.declared.certificate.validity.Validity.{Validity}

-- notBefore Time
abbrev pub not_before : Validity → Time
not_before v = v.fields.list.first

-- notAfter Time
abbrev pub not_after : Validity → Time
not_after v = v.fields.list.rest.first
