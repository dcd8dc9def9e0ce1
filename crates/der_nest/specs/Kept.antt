-- The value of a Kept that a caller sees.
use Rattle.std.specs.Prelude.{ℕ, List}
use Rattle.der_opaque.specs.OctetStringRef as string
use Rattle.der_nest.specs.declared.kept.Kept.{Kept}

-- its contents octets
abbrev pub octets_of : {T : Type 0} → Kept T → List ℕ
octets_of kept = string.octets_of kept.octets
