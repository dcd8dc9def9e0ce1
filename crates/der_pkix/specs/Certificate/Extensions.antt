-- The items of Extensions.
-- Made by tools/asn1 from certificate.asn1.
use Rattle.der_lists.specs.declared.list_ref.ListRef.{ListRef}
use Rattle.der_pkix.specs.declared.certificate.extension.Extension.{Extension}
use Rattle.der_pkix.specs.declared.certificate.extensions.Extensions.{Extensions}

abbrev pub items_of : Extensions → ListRef Extension
items_of v = v.items.list
