-- The fields of Mixed, by their names.
-- Made by tools/asn1 from shapes.asn1.
use Rattle.std.specs.Prelude.{Bool, ℤ}
use Rattle.der_numbers.specs.declared.int_ref.IntRef.{IntRef}
use Rattle.der_shapes.specs.declared.shapes.mixed.Mixed.{Mixed}

-- first BOOLEAN
abbrev pub first : Mixed → Bool
first v = v.fields.list.first

-- second INTEGER (- 128..127)
abbrev pub second : Mixed → ℤ
second v = v.fields.list.rest.first

-- third [1] INTEGER
abbrev pub third : Mixed → IntRef
third v = v.fields.list.rest.rest.first.value
