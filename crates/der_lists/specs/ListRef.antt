-- The value of a ListRef that a caller sees.
use Rattle.std.specs.Prelude.{ℕ, List}
use Rattle.der_lists.specs.declared.list_ref.ListRef.{ListRef}

-- its contents octets
abbrev pub octets_of : {T : Type 0} → ListRef T → List ℕ
octets_of kept = kept.octets.octets.now
