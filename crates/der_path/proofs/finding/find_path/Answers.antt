-- The certificates and the end certificate were read.
use Rattle.std.proofs.Common.{subst, sym}
use Rattle.der_path.specs.Finding.{AreLinks}
use Rattle.der_path.proofs.Links.{finds}
use Rattle.der_path.proofs.finding.find_path.Goals as goal

pub returns : goal.returns
returns c =
    finds c.args.search c.args.inputs c.deref.result.now c.in-Ok.end c.find_among.result
    (subst (AreLinks c.args.search.certificates.now) (sym c.deref.ensures.value) c.in-Ok-links_of.ensures) c.in-Ok.ensures
    (c.find_among.ensures c.in-Ok.end c.in-Ok-chain_of.ensures.octets c.in-Ok-chain_of.ensures.first)
