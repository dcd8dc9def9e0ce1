-- The items of SubjectInfoAccessSyntax.
-- Made by tools/asn1 from extension.asn1.
use Rattle.der_extensions.specs.declared.extension.access_description.AccessDescription.{AccessDescription}
use Rattle.der_extensions.specs.declared.extension.subject_info_access_syntax.SubjectInfoAccessSyntax.{SubjectInfoAccessSyntax}
use Rattle.der_lists.specs.declared.list_ref.ListRef.{ListRef}

abbrev pub items_of : SubjectInfoAccessSyntax → ListRef AccessDescription
items_of v = v.items.list
