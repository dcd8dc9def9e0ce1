use Rattle.std.proofs.Common.{◌≡◌, sym, ap, ◌∙◌, Err, arith}
use Rattle.std.proofs.lemmas.Grind.{common_steps}
use Rattle.der_numbers.specs.AnyLength.{integer_or_fault}
use Rattle.der_numbers.specs.AnyLengthLaws.{no_integer}
use Rattle.der_numbers.proofs.int_ref.IntRefTryFromAnyRef.try_from.Goals as goal

pub returns-in-Err : goal.returns-in-Err
returns-in-Err c =
    let fault : integer_or_fault c.args.any.value.now ≡ Err c.in-Err.kind = ap integer_or_fault (sym c.value.ensures) ∙ c.in-Err.ensures in
    record { fault = grind (arith, common_steps); nothing = λ allowed w a. no_integer _ w.octets.now fault w.fewest a.0 }
