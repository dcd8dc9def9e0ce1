-- The value of a SetRef that a caller sees.
use Rattle.std.specs.Prelude.{ℕ, List}
use Rattle.der_lists.specs.declared.set_ref.SetRef.{SetRef}

-- its contents octets
abbrev pub octets_of : {T : Type 0} → SetRef T → List ℕ
octets_of kept = kept.octets.octets.now
