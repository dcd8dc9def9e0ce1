use Rattle.std.proofs.Common.{◌∙◌}
use Rattle.der_bits.specs.NamedBitsLaws.{past_end}
use Rattle.der_bits.proofs.named_bits.NamedBitsRef.has.Goals as goal

pub returns-clause-absent : goal.returns-clause-absent
returns-clause-absent c past =
    let string = c.args.self.string in
    c.is_set.ensures ∙ past_end string.unused string.octets.now string.possible string.zero c.args.place past
