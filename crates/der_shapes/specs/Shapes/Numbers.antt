-- The items of Numbers.
-- Made by tools/asn1 from shapes.asn1.
use Rattle.std.specs.Prelude.{ℕ}
use Rattle.der_lists.specs.declared.list_ref.ListRef.{ListRef}
use Rattle.der_shapes.specs.declared.shapes.numbers.Numbers.{Numbers}

abbrev pub items_of : Numbers → ListRef ℕ
items_of v = v.items
