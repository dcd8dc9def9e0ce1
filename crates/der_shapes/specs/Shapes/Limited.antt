-- The alternatives of Limited, as a tree.
-- Made by tools/asn1 from shapes.asn1.
use Rattle.std.specs.Prelude.{ℕ}
use Rattle.der_constrained.specs.declared.alphabets.CharacterRange.{CharacterRange}
use Rattle.der_constrained.specs.declared.alphabets.HasCharacters.{HasCharacters}
use Rattle.der_constrained.specs.declared.constrained.Constrained.{Constrained}
use Rattle.der_constrained.specs.declared.constraint.IntersectionOf.{IntersectionOf}
use Rattle.der_constrained.specs.declared.constraint.UnionOf.{UnionOf}
use Rattle.der_constrained.specs.declared.integers.InRange.{InRange}
use Rattle.der_constrained.specs.declared.sizes.HasSize.{HasSize}
use Rattle.der_fields.specs.declared.implicit.ImplicitIn.{ImplicitIn}
use Rattle.der_fields.specs.declared.one_of.OneOf.{OneOf}
use Rattle.der_fields.specs.declared.one_of.OneOf.TheVariants.{First, Other}
use Rattle.der_shapes.specs.declared.shapes.limited.Limited.{Limited}
use Rattle.der_shapes.specs.declared.shapes.limited.Limited.TheVariants as of
use Rattle.der_simple.specs.declared.string_ref.SimpleStringRef.{SimpleStringRef}

abbrev pub tree_of : Limited → (OneOf (Constrained ℕ (UnionOf (InRange 0 49) (InRange 51 99))) (ImplicitIn (Constrained (SimpleStringRef 26) (IntersectionOf (HasCharacters (CharacterRange 97 102)) (HasSize 1 2))) 2 0))
tree_of (of.Number v) = First v
tree_of (of.Text v) = Other v
