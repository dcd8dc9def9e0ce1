use Rattle.std.proofs.Common.{false}
use Rattle.der_fields.specs.MarkerTags.{marker_tag}
use Rattle.der_fields.specs.DefaultLaws.{number_default}
use Rattle.der_fields.proofs.default.DefaultNumberDefaultOfImplicitInU8.is_default.Goals as goal

pub returns : goal.returns
returns g c = number_default (marker_tag g.row.CLASS false g.row.NUMBER) g.row.DEFAULT c.args.value.now.value
