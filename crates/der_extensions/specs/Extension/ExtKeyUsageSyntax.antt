-- The items of ExtKeyUsageSyntax.
-- Made by tools/asn1 from extension.asn1.
use Rattle.der_extensions.specs.declared.extension.ext_key_usage_syntax.ExtKeyUsageSyntax.{ExtKeyUsageSyntax}
use Rattle.der_lists.specs.declared.list_ref.ListRef.{ListRef}
use Rattle.der_opaque.specs.declared.object_identifier_ref.ObjectIdentifierRef.{ObjectIdentifierRef}

abbrev pub items_of : ExtKeyUsageSyntax → ListRef (ObjectIdentifierRef 39)
items_of v = v.items.list
