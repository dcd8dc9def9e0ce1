use Rattle.std.proofs.Common.{arith}
use Rattle.der_simple.specs.ArcLaws.{arcs_of_recognised, recognised_arcs}
use Rattle.der_simple.proofs.laws.octets_of_arcs.Goals as goal

pub returns : goal.returns
returns c =
    (λ e. arcs_of_recognised c.args.octets.now (λ i h. omega (arith, c.type_inv.octets i)) e, λ h. recognised_arcs c.args.octets.now h)
