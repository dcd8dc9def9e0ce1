-- The fields of Counted, by their names.
-- Made by tools/asn1 from shapes.asn1.
use Rattle.std.specs.Prelude.{Bool, ℕ, ℤ}
use Rattle.der_numbers.specs.declared.int_ref.IntRef.{IntRef}
use Rattle.der_numbers.specs.declared.uint_ref.UintRef.{UintRef}
use Rattle.der_opaque.specs.declared.null.Null.{Null}
use Rattle.der_shapes.specs.declared.shapes.color.Color.{Color}
use Rattle.der_shapes.specs.declared.shapes.counted.Counted.{Counted}

-- visible BOOLEAN DEFAULT TRUE
abbrev pub visible : Counted → Bool
visible v = v.fields.list.first.value

-- port INTEGER (0..65535) DEFAULT 8080
abbrev pub port : Counted → ℕ
port v = v.fields.list.rest.first.value

-- offset [0] INTEGER (- 128..127) DEFAULT - 1
abbrev pub offset : Counted → ℤ
offset v = v.fields.list.rest.rest.first.value.value

-- level [1] EXPLICIT Level DEFAULT high
abbrev pub level : Counted → ℤ
level v = v.fields.list.rest.rest.rest.first.value.fields.first

-- balance [2] INTEGER DEFAULT - 40000
abbrev pub balance : Counted → IntRef
balance v = v.fields.list.rest.rest.rest.rest.first.value.value

-- serial [3] INTEGER (0..MAX) DEFAULT 200
abbrev pub serial : Counted → UintRef
serial v = v.fields.list.rest.rest.rest.rest.rest.first.value.value

-- nothing NULL DEFAULT NULL
abbrev pub nothing : Counted → Null
nothing v = v.fields.list.rest.rest.rest.rest.rest.rest.first.value

-- color Color DEFAULT green
abbrev pub color : Counted → Color
color v = v.fields.list.rest.rest.rest.rest.rest.rest.rest.first.value.value
