-- The fields of AccessDescription, by their names.
-- Made by tools/asn1 from extension.asn1.
use Rattle.der_extensions.specs.declared.extension.access_description.AccessDescription.{AccessDescription}
use Rattle.der_extensions.specs.declared.extension.general_name.GeneralName.{GeneralName}
use Rattle.der_opaque.specs.declared.object_identifier_ref.ObjectIdentifierRef.{ObjectIdentifierRef}

-- accessMethod OBJECT IDENTIFIER
abbrev pub access_method : AccessDescription → ObjectIdentifierRef 39
access_method v = v.fields.list.first

-- accessLocation GeneralName
abbrev pub access_location : AccessDescription → GeneralName
access_location v = v.fields.list.rest.first
