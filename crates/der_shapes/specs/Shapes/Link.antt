-- The fields of Link, by their names.
-- Made by tools/asn1 from shapes.asn1.
use Rattle.std.specs.Prelude.{Option, option_map}
use Rattle.der_nest.specs.declared.sequence_ref.SequenceRef.{SequenceRef}
use Rattle.der_shapes.specs.declared.shapes.link.Link.{Link}
use Rattle.der_text.specs.declared.utf8_string.Utf8StringRef.{Utf8StringRef}

-- name UTF8String
abbrev pub name : Link → Utf8StringRef
name v = v.fields.list.first

-- after [APPLICATION 4] Chain OPTIONAL
abbrev pub after : Link → Option SequenceRef
after v = option_map (λ x. x.value) v.fields.list.rest.first
