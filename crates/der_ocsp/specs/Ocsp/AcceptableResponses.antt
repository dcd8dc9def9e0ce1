-- The items of AcceptableResponses.
-- Made by tools/asn1 from ocsp.asn1.
use Rattle.der_lists.specs.declared.list_ref.ListRef.{ListRef}
use Rattle.der_ocsp.specs.declared.ocsp.acceptable_responses.AcceptableResponses.{AcceptableResponses}
use Rattle.der_opaque.specs.declared.object_identifier_ref.ObjectIdentifierRef.{ObjectIdentifierRef}

abbrev pub items_of : AcceptableResponses → ListRef (ObjectIdentifierRef 39)
items_of v = v.items
