use Rattle.std.proofs.Common.{◌≡◌, ◌∙◌, sym, refl, true, false, inl, rules}
use Rattle.der_simple.specs.FractionalTimes.{is_fractional_time}
use Rattle.der_simple.specs.FractionalTimeLaws.{recognised_time, time_of_recognised}
use Rattle.der_simple.proofs.fractional_time.FractionalTimeRef.from_bytes.Goals as goal

pub returns-then-not-is_fractional_time : goal.returns-then-not-is_fractional_time
returns-then-not-is_fractional_time c =
    let found : is_fractional_time c.args.octets.now ≡ false = sym c.is_fractional_time.ensures.value ∙ c.if-not-is_fractional_time.true in
    (search rules, inl (λ h. let no : true ≡ false = sym (recognised_time c.args.octets.now h) ∙ found in cc))

pub returns-in-Ok : goal.returns-in-Ok
returns-in-Ok c =
    let found : is_fractional_time c.args.octets.now ≡ true = sym c.is_fractional_time.ensures.value ∙ c.if-not-is_fractional_time.false in
    (refl, time_of_recognised c.args.octets.now found (c.is_fractional_time.ensures.second c.if-not-is_fractional_time.false), search rules)
