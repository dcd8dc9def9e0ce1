use Rattle.std.proofs.Common.{◌∷◌, ◌∙◌, sym}
use Rattle.der_bits.specs.EqualBitsLaws.{same_tests, same_bits-decides, contents_decided}
use Rattle.der_bits.proofs.laws.equal_bits.Goals as goal

pub returns-clause-same_bits : goal.returns-clause-same_bits
returns-clause-same_bits c =
    let one = c.args.one in
    let other = c.args.other in
    same_bits-decides (one.unused ∷ one.octets.now) (other.unused ∷ other.octets.now) c.eq.result c.eq.ensures

pub returns-clause-same_contents : goal.returns-clause-same_contents
returns-clause-same_contents c =
    let one = c.args.one in
    let other = c.args.other in
    let same = same_tests one.unused other.unused one.octets.now other.octets.now one.possible one.zero other.possible other.zero one.octet other.octet in
    let decided = contents_decided (one.unused ∷ one.octets.now) (other.unused ∷ other.octets.now) same in
    (λ h. decided.0 (sym c.eq.ensures ∙ h), λ s. c.eq.ensures ∙ decided.1 s)
