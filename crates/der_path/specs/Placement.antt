-- The placement of a name in the subtree of a name constraint.
use Rattle.std.specs.Prelude.{Bool, true, false}
use Rattle.der_path.specs.declared.placement.Placement.{Placement}
use Rattle.der_path.specs.declared.placement.Placement.TheVariants.{Inside, Outside, Undefined}

-- inside if a test holds, and outside if it does not
abbrev pub inside_if : Bool → Placement
inside_if true = Inside
inside_if false = Outside

abbrev pub is_inside : Placement → Bool
is_inside Inside = true
is_inside _ = false

abbrev pub is_outside : Placement → Bool
is_outside Outside = true
is_outside _ = false

abbrev pub is_undefined : Placement → Bool
is_undefined Undefined = true
is_undefined _ = false
