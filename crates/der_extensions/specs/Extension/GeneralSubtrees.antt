-- The items of GeneralSubtrees.
-- Made by tools/asn1 from extension.asn1.
use Rattle.der_extensions.specs.declared.extension.general_subtree.GeneralSubtree.{GeneralSubtree}
use Rattle.der_extensions.specs.declared.extension.general_subtrees.GeneralSubtrees.{GeneralSubtrees}
use Rattle.der_lists.specs.declared.list_ref.ListRef.{ListRef}

abbrev pub items_of : GeneralSubtrees → ListRef GeneralSubtree
items_of v = v.items.list
