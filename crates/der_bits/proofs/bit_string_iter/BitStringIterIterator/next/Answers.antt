use Rattle.std.proofs.Common.{◌≡◌, ◌∷◌, ◌<◌, ◌+◌, ◌-◌, ◌*◌, length, sym, ap, ◌∙◌, arith, inl, inr}
use Rattle.std.proofs.lemmas.Bool.{cases_lt}
use Rattle.der_bits.specs.BitString.{bit_at_place, bits_from}
use Rattle.der_bits.specs.BitPlaceLaws.{bits_from-next}
use Rattle.der_bits.proofs.bit_string_iter.BitStringIterIterator.next.Goals as goal

pub returns-in-Some-clause-steps : goal.returns-in-Some-clause-steps
returns-in-Some-clause-steps c =
    let string = c.self.inside.string in
    let octets = string.octets.now in
    let i = c.self.inside.position in
    let count = 8 * length octets - string.unused in
    let below : i < count = elim (cases_lt i count) [
      | inl h ↦ h
      | inr h ↦ absurd (let k = sym c.in-Some.is ∙ c.get.ensures.outside h in cc)
    ] in
    let same = sym (c.get.ensures.inside below) ∙ c.in-Some.is in
    let found : bit_at_place octets i ≡ c.in-Some.bit = cc in
    sym c.self.view_is ∙ bits_from-next octets i count below ∙ ap (λ b. b ∷ bits_from octets (i + 1) (count - (i + 1))) found

pub returns-in-Some-clause-goes : goal.returns-in-Some-clause-goes
returns-in-Some-clause-goes c =
    let e = returns-in-Some-clause-steps c in
    record { on = λ _. (tt, tt, omega (arith, ap length e)); keeps = tt; rests = λ _. tt }
