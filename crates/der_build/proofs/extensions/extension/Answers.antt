use Rattle.std.proofs.Common.{ap, ◌∙◌}
use Rattle.der_opaque.specs.ObjectIdentifierRef as identifiers
use Rattle.der_opaque.specs.OctetStringRef as strings
use Rattle.der_build.proofs.Built.{same_extension}
use Rattle.der_build.proofs.extensions.extension.Goals as goal

pub returns-in-Ok-new-clause-octets : goal.returns-in-Ok-new-clause-octets
returns-in-Ok-new-clause-octets c =
    same_extension
    (ap identifiers.octets_of c.new-in-Ok-new.ensures.extn_id ∙ c.in-Ok.ensures.value)
    c.new-in-Ok-new.ensures.critical
    (ap strings.octets_of c.new-in-Ok-new.ensures.extn_value ∙ c.in-Ok-new.ensures.0)
