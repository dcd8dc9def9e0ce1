-- The fields of Marks, by their names.
-- Made by tools/asn1 from shapes.asn1.
use Rattle.std.specs.Prelude.{Option, option_map}
use Rattle.der_shapes.specs.declared.shapes.empty.Empty.{Empty}
use Rattle.der_shapes.specs.declared.shapes.marks.Marks.{Marks}
use Rattle.der_shapes.specs.declared.shapes.marks_fourth.MarksFourth.{MarksFourth}
use Rattle.der_shapes.specs.declared.shapes.nothing.Nothing.{Nothing}

-- first Nothing
abbrev pub first : Marks → Nothing
first v = v.fields.list.first

-- second [0] Nothing OPTIONAL
abbrev pub second : Marks → Option Nothing
second v = option_map (λ x. x.value) v.fields.list.rest.first

-- third [1] EXPLICIT Empty OPTIONAL
abbrev pub third : Marks → Option Empty
third v = option_map (λ x. x.fields.first) v.fields.list.rest.rest.first

-- fourth SET { ...}
abbrev pub fourth : Marks → MarksFourth
fourth v = v.fields.list.rest.rest.rest.first
