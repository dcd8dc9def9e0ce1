-- The items of AuthenticatedSafe.
-- Made by tools/asn1 from pkcs12.asn1.
use Rattle.der_lists.specs.declared.list_ref.ListRef.{ListRef}
use Rattle.der_pkcs.specs.declared.pkcs12.authenticated_safe.AuthenticatedSafe.{AuthenticatedSafe}
use Rattle.der_pkcs.specs.declared.pkcs12.content_info.ContentInfo.{ContentInfo}

abbrev pub items_of : AuthenticatedSafe → ListRef ContentInfo
items_of v = v.items
