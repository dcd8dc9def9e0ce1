-- The items of SubjectDirectoryAttributes.
-- Made by tools/asn1 from extension.asn1.
use Rattle.der_extensions.specs.declared.extension.subject_directory_attributes.SubjectDirectoryAttributes.{SubjectDirectoryAttributes}
use Rattle.der_lists.specs.declared.list_ref.ListRef.{ListRef}
use Rattle.der_pkix.specs.declared.name.attribute.Attribute.{Attribute}

abbrev pub items_of : SubjectDirectoryAttributes → ListRef Attribute
items_of v = v.items.list
