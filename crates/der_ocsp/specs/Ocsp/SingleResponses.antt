-- The items of SingleResponses.
-- Made by tools/asn1 from ocsp.asn1.
use Rattle.der_lists.specs.declared.list_ref.ListRef.{ListRef}
use Rattle.der_ocsp.specs.declared.ocsp.single_response.SingleResponse.{SingleResponse}
use Rattle.der_ocsp.specs.declared.ocsp.single_responses.SingleResponses.{SingleResponses}

abbrev pub items_of : SingleResponses → ListRef SingleResponse
items_of v = v.items
