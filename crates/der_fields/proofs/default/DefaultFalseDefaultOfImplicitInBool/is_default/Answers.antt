use Rattle.std.proofs.Common.{false}
use Rattle.der_fields.specs.MarkerTags.{marker_tag}
use Rattle.der_fields.specs.DefaultLaws.{false_default}
use Rattle.der_fields.proofs.default.DefaultFalseDefaultOfImplicitInBool.is_default.Goals as goal

pub returns : goal.returns
returns g c = false_default (marker_tag g.row.CLASS false g.row.NUMBER) c.args.value.now.value
