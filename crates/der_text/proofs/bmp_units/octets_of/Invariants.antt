use Rattle.std.specs.Str.Iter.{chars_rest}
use Rattle.der_text.proofs.FromText.{Taken}
use Rattle.der_text.proofs.bmp_units.octets_of.Given as goal

-- the octets are those of the characters so far
abbrev pub invariant-characters : goal.invariant-characters
invariant-characters l =
    (goal.iterator-characters).can_next l.rest × (goal.iterator-characters).is_finite l.rest × Taken l.text l.octets.items (chars_rest l.rest)
