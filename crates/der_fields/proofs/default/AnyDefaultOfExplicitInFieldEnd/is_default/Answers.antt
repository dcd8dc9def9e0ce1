use Rattle.std.proofs.Common.{true, ◌∙◌}
use Rattle.der_fields.specs.MarkerTags.{marker_tag}
use Rattle.der_fields.specs.DefaultLaws.{explicit_default}
use Rattle.der_fields.proofs.default.AnyDefaultOfExplicitInFieldEnd.is_default.Goals as goal

pub returns : goal.returns
returns g c =
    c.is_default.ensures ∙ explicit_default (marker_tag g.row.CLASS true g.row.NUMBER) g.D.DefaultOf.octets (g.T.Form.encoding c.args.value.now.fields.first)
