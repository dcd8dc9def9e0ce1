-- The alternatives of a Filter, and what it holds.
use Rattle.std.specs.Prelude.{ℕ, List, [], ◌∷◌, ◌<◌, ◌^◌, length}
use Rattle.std.proofs.Common.{arith}
use Rattle.der_fields.specs.declared.end.End.{End}
use Rattle.der_fields.specs.declared.explicit.ExplicitIn.{ExplicitIn}
use Rattle.der_fields.specs.declared.field.Field.{Field}
use Rattle.der_fields.specs.declared.implicit.ImplicitIn.{ImplicitIn}
use Rattle.der_fields.specs.declared.one_of.OneOf.{OneOf}
use Rattle.der_fields.specs.declared.one_of.OneOf.TheVariants.{First, Other}
use Rattle.der_nest.specs.SequenceRef.{octets_of}
use Rattle.der_nest.specs.Kept as kept
use Rattle.der_nest.specs.declared.kept.Kept.{Kept}
use Rattle.der_nest.specs.declared.sequence_ref.SequenceRef.{SequenceRef}
use Rattle.der_opaque.specs.declared.any_ref.AnyRef.{AnyRef}
use Rattle.der_opaque.specs.declared.octet_string_ref.OctetStringRef.{OctetStringRef}
use Rattle.layer_tests.specs.declared.filter.Filter.{Filter}
use Rattle.layer_tests.specs.declared.filter.Filter.TheVariants as of

abbrev pub tree_of : Filter → (OneOf (OneOf (ImplicitIn SequenceRef 2 0) (Kept (ExplicitIn (Field AnyRef End) 2 2))) (ImplicitIn OctetStringRef 2 7))
tree_of (of.And v) = First (First v)
tree_of (of.Not v) = First (Other v)
tree_of (of.Present v) = Other v

-- the octets of the component that leads back, if there is one
abbrev pub held_of : Filter → List (List ℕ)
held_of (of.And v) = octets_of v.value ∷ []
held_of (of.Not v) = kept.octets_of v ∷ []
held_of (of.Present v) = []

pub few_held : (v : Filter) → length (held_of v) < 2 ^ 32
few_held (of.And v) = omega arith
few_held (of.Not v) = omega arith
few_held (of.Present v) = omega arith
