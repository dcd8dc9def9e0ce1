-- The fields of Extensible, by their names.
-- Made by tools/asn1 from shapes.asn1.
use Rattle.std.specs.Prelude.{Bool, Option, option_map, ℕ}
use Rattle.der_additions.specs.declared.additions.Additions.{Additions}
use Rattle.der_shapes.specs.declared.shapes.extensible.Extensible.{Extensible}

-- a INTEGER (0..255)
abbrev pub a : Extensible → ℕ
a v = v.fields.list.first

-- b [0] BOOLEAN OPTIONAL
abbrev pub b : Extensible → Option Bool
b v = option_map (λ x. x.value) v.fields.list.rest.first

-- the elements after these, which the module does not have
abbrev pub additions : Extensible → Additions
additions v = v.fields.list.rest.rest
