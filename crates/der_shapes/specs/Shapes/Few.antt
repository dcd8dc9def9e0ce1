-- The items of Few.
-- Made by tools/asn1 from shapes.asn1.
use Rattle.std.specs.Prelude.{ℕ}
use Rattle.der_constrained.specs.declared.constrained.Constrained.{Constrained}
use Rattle.der_constrained.specs.declared.integers.InRange.{InRange}
use Rattle.der_lists.specs.declared.list_ref.ListRef.{ListRef}
use Rattle.der_shapes.specs.declared.shapes.few.Few.{Few}

abbrev pub items_of : Few → ListRef (Constrained ℕ (InRange 0 9))
items_of v = v.items.value
