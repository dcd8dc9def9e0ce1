-- The items of Ordered.
-- Made by tools/asn1 from shapes.asn1.
use Rattle.der_lists.specs.declared.set_ref.SetRef.{SetRef}
use Rattle.der_shapes.specs.declared.shapes.ordered.Ordered.{Ordered}
use Rattle.der_shapes.specs.declared.shapes.pair.Pair.{Pair}

abbrev pub items_of : Ordered → SetRef Pair
items_of v = v.items
