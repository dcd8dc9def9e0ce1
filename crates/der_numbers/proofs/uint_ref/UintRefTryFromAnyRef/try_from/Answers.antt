use Rattle.std.proofs.Common.{◌≡◌, sym, ap, ◌∙◌, Err, arith}
use Rattle.std.proofs.lemmas.Grind.{common_steps}
use Rattle.der_numbers.specs.AnyLength.{natural_or_fault}
use Rattle.der_numbers.specs.UnsignedLaws.{no_natural}
use Rattle.der_numbers.proofs.uint_ref.UintRefTryFromAnyRef.try_from.Goals as goal

pub returns-in-Err : goal.returns-in-Err
returns-in-Err c =
    let fault : natural_or_fault c.args.any.value.now ≡ Err c.in-Err.kind = ap natural_or_fault (sym c.value.ensures) ∙ c.in-Err.ensures in
    record { fault = grind (arith, common_steps); nothing = λ allowed w a. no_natural _ w.octets.now fault w.fewest a.0 }
