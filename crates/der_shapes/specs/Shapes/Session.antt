-- The fields of Session, by their names.
-- Made by tools/asn1 from shapes.asn1.
use Rattle.std.specs.Prelude.{Option, option_map}
use Rattle.der_lists.specs.declared.list_ref.ListRef.{ListRef}
use Rattle.der_shapes.specs.declared.shapes.session.Session.{Session}
use Rattle.der_simple.specs.declared.fractional_time.FractionalTimeRef.{FractionalTimeRef}
use Rattle.der_time.specs.declared.generalized_time.GeneralizedTime.{GeneralizedTime}

-- begin GeneralizedTime
abbrev pub begin : Session → FractionalTimeRef
begin v = v.fields.list.first

-- end [0] GeneralizedTime OPTIONAL
abbrev pub end : Session → Option FractionalTimeRef
end v = option_map (λ x. x.value) v.fields.list.rest.first

-- day [1] GeneralizedTime OPTIONAL
abbrev pub day : Session → Option GeneralizedTime
day v = option_map (λ x. x.value) v.fields.list.rest.rest.first

-- pauses SEQUENCE OF GeneralizedTime
abbrev pub pauses : Session → ListRef FractionalTimeRef
pauses v = v.fields.list.rest.rest.rest.first
