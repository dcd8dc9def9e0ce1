use Rattle.std.proofs.Common.{◌≡◌, ◌∷◌, ◌++◌, [], rules}
use Rattle.der_simple.specs.FractionalTimeLaws.{refused_second}
use Rattle.der_simple.proofs.fractional_time.second_of.Goals as goal

pub returns-in-Err : goal.returns-in-Err
returns-in-Err c =
    let same : c.in-Ok.any.value.now ≡ c.args.digits.now ++ 90 ∷ [] = search rules in
    refused_second c.in-Ok.any.tag c.in-Ok.any.value.now c.args.digits.now _ c.in-Ok.ensures.0 same c.in-Err.ensures.fault
