-- The octets of a FractionalTimeRef.
use Rattle.std.specs.Prelude.{ℕ, List}
use Rattle.der_simple.specs.declared.fractional_time.FractionalTimeRef.{FractionalTimeRef}

-- the contents octets
abbrev pub octets_of : FractionalTimeRef → List ℕ
octets_of time = time.octets.now
