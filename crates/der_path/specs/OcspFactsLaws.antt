-- Extensions with the same encoding are critical alike.
use Rattle.std.specs.Prelude.{◌≡◌}
use Rattle.der_pkix.specs.declared.certificate.extension.Extension.{Extension}
use Rattle.der_verify.specs.EqualEncodings.{same_extension}
use Rattle.der_path.specs.contracts.meanings.MeaningsMeantExtension.TheImpl as form
use Rattle.der_path.specs.OcspFacts.{is_critical}

pub alike_critical : (v w : Extension) → form.ghosts.FORM.encoding v ≡ form.ghosts.FORM.encoding w → is_critical v ≡ is_critical w
alike_critical v w e = (same_extension v w e).critical
