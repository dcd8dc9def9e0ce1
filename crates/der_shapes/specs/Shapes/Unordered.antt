-- The items of Unordered.
-- Made by tools/asn1 from shapes.asn1.
use Rattle.der_lists.specs.declared.unordered_set_ref.UnorderedSetRef.{UnorderedSetRef}
use Rattle.der_shapes.specs.declared.shapes.status.Status.{Status}
use Rattle.der_shapes.specs.declared.shapes.unordered.Unordered.{Unordered}

abbrev pub items_of : Unordered → UnorderedSetRef Status
items_of v = v.items.list
