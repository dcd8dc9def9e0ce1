use Rattle.std.proofs.Common.{◌≡◌}
use Rattle.std.specs.Str.{all_scalars}
use Rattle.der_text.specs.BmpUnits.{units}
use Rattle.der_text.proofs.bmp_units.are_bmp_characters.Given as goal

-- the units so far are characters
abbrev pub invariant-units : goal.invariant-units
invariant-units l =
    (goal.iterator-units).can_next l.rest × (goal.iterator-units).is_finite l.rest × (all_scalars l.rest ≡ all_scalars (units l.octets))
