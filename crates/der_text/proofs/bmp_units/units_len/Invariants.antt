use Rattle.std.proofs.Common.{◌≡◌, ◌<◌, ◌≤◌, ◌^◌, List, ℕ, length}
use Rattle.std.specs.Str.Iter.{chars_rest}
use Rattle.der_text.proofs.FromText.{Taken}
use Rattle.der_text.proofs.bmp_units.units_len.Given as goal

-- the number of octets of the characters so far, or a number too great for a length
abbrev pub invariant-characters : goal.invariant-characters
invariant-characters l =
    (goal.iterator-characters).can_next l.rest × (goal.iterator-characters).is_finite l.rest
    × ((octets : List ℕ) × (Taken l.text octets (chars_rest l.rest) × (l.len ≤ length octets) × (l.len < 2 ^ 32 → l.len ≡ length octets)))
