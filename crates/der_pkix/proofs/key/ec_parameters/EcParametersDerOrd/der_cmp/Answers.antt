-- The order of ECParameters, of two values of one alternative.
-- Made by tools/asn1 from key.asn1.
use Rattle.der_pkix.proofs.key.ec_parameters.EcParametersDerOrd.der_cmp.Goals as goal

pub returns-in-SpecifiedCurve-SpecifiedCurve : goal.returns-in-SpecifiedCurve-SpecifiedCurve
returns-in-SpecifiedCurve-SpecifiedCurve c = rw c.in-SpecifiedCurve-SpecifiedCurve.is-0 (rw c.in-SpecifiedCurve-SpecifiedCurve.is-1 c.der_cmp-in-SpecifiedCurve-SpecifiedCurve.ensures)
