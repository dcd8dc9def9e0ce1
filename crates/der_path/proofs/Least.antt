-- The lesser of a number and one whose octets are read from the first.
use Rattle.std.proofs.Common.{◌≡◌, ℕ, ◌+◌, ◌*◌, ◌/◌, ◌<◌, ◌≤◌, List, ◌∷◌, arith}
use Rattle.std.specs.Prelude.{min}
use Rattle.std.specs.Int.Digits.{number_from_digits_after}
use Rattle.std.proofs.lemmas.Int.Digits.{number_after_ge}

-- a number that the octets exceed is the lesser
pub exceeded : (number found octet : ℕ) (others : List ℕ) → number / 256 < found → number ≡ min number (number_from_digits_after 256 found (octet ∷ others))
exceeded number found octet others more =
    let all = number_after_ge 256 (found * 256 + octet) others (omega arith) in
    let above : number ≤ found * 256 = omega arith in
    omega arith
