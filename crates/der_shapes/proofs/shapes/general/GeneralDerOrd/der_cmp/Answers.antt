-- The order of General, of two values of one alternative.
-- Made by tools/asn1 from shapes.asn1.
use Rattle.der_shapes.proofs.shapes.general.GeneralDerOrd.der_cmp.Goals as goal

pub returns-in-Status-Status : goal.returns-in-Status-Status
returns-in-Status-Status c = rw c.in-Status-Status.is-0 (rw c.in-Status-Status.is-1 c.der_cmp-in-Status-Status.ensures)
