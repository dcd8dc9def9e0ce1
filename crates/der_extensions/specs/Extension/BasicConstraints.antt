-- The fields of BasicConstraints, by their names.
-- Made by tools/asn1 from extension.asn1.
use Rattle.std.specs.Prelude.{Bool, Option}
use Rattle.der_extensions.specs.declared.extension.basic_constraints.BasicConstraints.{BasicConstraints}
use Rattle.der_numbers.specs.declared.uint_ref.UintRef.{UintRef}

-- cA BOOLEAN DEFAULT FALSE
abbrev pub ca : BasicConstraints → Bool
ca v = v.fields.list.first.value

-- pathLenConstraint INTEGER (0..MAX) OPTIONAL
abbrev pub path_len_constraint : BasicConstraints → Option UintRef
path_len_constraint v = v.fields.list.rest.first
