-- The items of GeneralNames.
-- Made by tools/asn1 from extension.asn1.
use Rattle.der_extensions.specs.declared.extension.general_name.GeneralName.{GeneralName}
use Rattle.der_extensions.specs.declared.extension.general_names.GeneralNames.{GeneralNames}
use Rattle.der_lists.specs.declared.list_ref.ListRef.{ListRef}

abbrev pub items_of : GeneralNames → ListRef GeneralName
items_of v = v.items.list
