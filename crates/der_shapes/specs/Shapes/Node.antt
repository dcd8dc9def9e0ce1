-- The fields of Node, by their names.
-- Made by tools/asn1 from shapes.asn1.
use Rattle.std.specs.Prelude.{Option, option_map, ℕ}
use Rattle.der_nest.specs.declared.sequence_ref.SequenceRef.{SequenceRef}
use Rattle.der_shapes.specs.declared.shapes.node.Node.{Node}

-- value INTEGER (0..255)
abbrev pub value : Node → ℕ
value v = v.fields.list.first

-- left [0] Node OPTIONAL
abbrev pub left : Node → Option SequenceRef
left v = option_map (λ x. x.value) v.fields.list.rest.first

-- right [1] EXPLICIT Node OPTIONAL
abbrev pub right : Node → Option SequenceRef
right v = option_map (λ x. x.value) v.fields.list.rest.rest.first

-- children SEQUENCE OF Node OPTIONAL
abbrev pub children : Node → Option SequenceRef
children v = v.fields.list.rest.rest.rest.first
