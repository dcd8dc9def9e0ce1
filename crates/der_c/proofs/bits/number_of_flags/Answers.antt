use Rattle.std.proofs.Common.{refl}
use Rattle.der_c.proofs.Flags.{flag_taken}
use Rattle.der_c.proofs.bits.number_of_flags.Goals as goal

pub each-preserved : goal.each-preserved
each-preserved c = flag_taken c.args.flags.now c.each.left.now c.each.bits c.with_flag-bits.result _ _ _ c.each.invariant c.in-len1-up.len_at_least refl refl c.with_flag-bits.ensures
