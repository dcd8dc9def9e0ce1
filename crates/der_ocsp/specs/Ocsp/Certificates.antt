-- The items of Certificates.
-- Made by tools/asn1 from ocsp.asn1.
use Rattle.der_lists.specs.declared.list_ref.ListRef.{ListRef}
use Rattle.der_ocsp.specs.declared.ocsp.certificates.Certificates.{Certificates}
use Rattle.der_pkix.specs.declared.certificate.certificate.Certificate.{Certificate}

abbrev pub items_of : Certificates → ListRef Certificate
items_of v = v.items
