-- The value of a SequenceRef that a caller sees.
use Rattle.std.specs.Prelude.{ℕ, List}
use Rattle.der_nest.specs.declared.sequence_ref.SequenceRef.{SequenceRef}

-- its contents octets
abbrev pub octets_of : SequenceRef → List ℕ
octets_of sequence = sequence.octets.now
