-- The fields of Labels, by their names.
-- Made by tools/asn1 from shapes.asn1.
use Rattle.std.specs.Prelude.{Bool, Option, option_map}
use Rattle.der_opaque.specs.declared.octet_string.OctetString.{OctetString}
use Rattle.der_shapes.specs.declared.shapes.label.Label.{Label}
use Rattle.der_shapes.specs.declared.shapes.labels.Labels.{Labels}

-- label Label
abbrev pub label : Labels → Label
label v = v.fields.list.first

-- title OCTET STRING OPTIONAL
abbrev pub title : Labels → Option OctetString
title v = v.fields.list.rest.first

-- other [1] EXPLICIT OCTET STRING OPTIONAL
abbrev pub other : Labels → Option OctetString
other v = option_map (λ x. x.fields.first) v.fields.list.rest.rest.first

-- visible BOOLEAN DEFAULT FALSE
abbrev pub visible : Labels → Bool
visible v = v.fields.list.rest.rest.rest.first.value
