-- The items of Chain.
-- Made by tools/asn1 from shapes.asn1.
use Rattle.der_lists.specs.declared.list_ref.ListRef.{ListRef}
use Rattle.der_shapes.specs.declared.shapes.chain.Chain.{Chain}
use Rattle.der_shapes.specs.declared.shapes.link.Link.{Link}

abbrev pub items_of : Chain → ListRef Link
items_of v = v.items
