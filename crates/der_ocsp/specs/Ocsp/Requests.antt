-- The items of Requests.
-- Made by tools/asn1 from ocsp.asn1.
use Rattle.der_lists.specs.declared.list_ref.ListRef.{ListRef}
use Rattle.der_ocsp.specs.declared.ocsp.request.Request.{Request}
use Rattle.der_ocsp.specs.declared.ocsp.requests.Requests.{Requests}

abbrev pub items_of : Requests → ListRef Request
items_of v = v.items
