-- The items of AuthorityInfoAccessSyntax.
-- Made by tools/asn1 from extension.asn1.
use Rattle.der_extensions.specs.declared.extension.access_description.AccessDescription.{AccessDescription}
use Rattle.der_extensions.specs.declared.extension.authority_info_access_syntax.AuthorityInfoAccessSyntax.{AuthorityInfoAccessSyntax}
use Rattle.der_lists.specs.declared.list_ref.ListRef.{ListRef}

abbrev pub items_of : AuthorityInfoAccessSyntax → ListRef AccessDescription
items_of v = v.items.list
