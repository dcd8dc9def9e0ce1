-- The octets that a write adds to a sink.
use Rattle.std.specs.Prelude.{◌≡◌, ℕ, List, ◌++◌, Option}
use Rattle.std.specs.Io.KnownBytes.{Appends}

-- a beginning of the octets was written
abbrev pub AppendsFront : Option (List ℕ) → Option (List ℕ) → List ℕ → Type 0
AppendsFront before after octets = (front back : List ℕ) × (octets ≡ front ++ back) × Appends before after front

-- the octets were written except for a rest
abbrev pub AppendsUpTo : Option (List ℕ) → Option (List ℕ) → List ℕ → List ℕ → Type 0
AppendsUpTo before after octets rest = (front : List ℕ) × (octets ≡ front ++ rest) × Appends before after front
