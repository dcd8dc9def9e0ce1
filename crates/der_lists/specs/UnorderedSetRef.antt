-- The value of an UnorderedSetRef that a caller sees.
use Rattle.std.specs.Prelude.{ℕ, List}
use Rattle.der_lists.specs.declared.unordered_set_ref.UnorderedSetRef.{UnorderedSetRef}

-- its contents octets
abbrev pub octets_of : {T : Type 0} → UnorderedSetRef T → List ℕ
octets_of kept = kept.octets.octets.now
