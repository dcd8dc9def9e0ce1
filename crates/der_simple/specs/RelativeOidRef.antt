-- The octets of a RelativeOidRef.
use Rattle.std.specs.Prelude.{ℕ, List}
use Rattle.der_simple.specs.declared.relative_oid.RelativeOidRef.{RelativeOidRef}

-- the octets of the arcs
abbrev pub octets_of : RelativeOidRef → List ℕ
octets_of identifier = identifier.octets.now
