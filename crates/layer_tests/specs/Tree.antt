-- What a Tree holds.
use Rattle.std.specs.Prelude.{ℕ, List, [], ◌∷◌}
use Rattle.der_nest.specs.SequenceRef.{octets_of}
use Rattle.layer_tests.specs.declared.tree.Tree.{Tree}

-- the octets of its two components
abbrev pub held_of : Tree → List (List ℕ)
held_of v = octets_of v.fields.list.first.value ∷ octets_of v.fields.list.rest.first.value ∷ []
