-- The fields of Notes, by their names.
-- Made by tools/asn1 from shapes.asn1.
use Rattle.std.specs.Prelude.{Option, option_map}
use Rattle.der_lists.specs.declared.list_ref.ListRef.{ListRef}
use Rattle.der_shapes.specs.declared.shapes.notes.Notes.{Notes}
use Rattle.der_simple.specs.declared.relative_oid.RelativeOidRef.{RelativeOidRef}
use Rattle.der_simple.specs.declared.string_ref.SimpleStringRef.{SimpleStringRef}

-- digits NumericString
abbrev pub digits : Notes → SimpleStringRef 18
digits v = v.fields.list.first

-- text [0] VisibleString OPTIONAL
abbrev pub text : Notes → Option (SimpleStringRef 26)
text v = option_map (λ x. x.value) v.fields.list.rest.first

-- arcs [1] EXPLICIT RELATIVE-OID OPTIONAL
abbrev pub arcs : Notes → Option RelativeOidRef
arcs v = option_map (λ x. x.fields.first) v.fields.list.rest.rest.first

-- lines SEQUENCE OF VisibleString
abbrev pub lines : Notes → ListRef (SimpleStringRef 26)
lines v = v.fields.list.rest.rest.rest.first
