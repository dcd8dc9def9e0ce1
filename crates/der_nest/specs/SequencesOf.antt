-- Sequences up to a capacity: the contents octets are the encodings of the items (X.690 8.10).
use Rattle.std.specs.Prelude.{ℕ, ◌<◌, ◌≤◌, List, length}
use Rattle.std.specs.List.{All}
use Rattle.der_elem.specs.Parsing.{Parse, ContentsParse}
use Rattle.der_nest.specs.Lists.{AcceptsEach, join_encodings, parse_each}

-- the octets are read as the items, one after another, up to a capacity
abbrev pub AcceptsUpTo : {T : Type 0} → ℕ → (T → List ℕ → Type 0) → List T → List ℕ → Type 0
AcceptsUpTo capacity accepts vs octets = (length vs ≤ capacity) × AcceptsEach accepts vs octets

-- readable items up to a capacity, whose encodings have octets
abbrev pub ReadableUpTo : {T : Type 0} → ℕ → (T → Type 0) → (T → List ℕ) → List T → Type 0
ReadableUpTo capacity readable encoding vs = (length vs ≤ capacity) × All (λ v. readable v × (0 < length (encoding v))) vs

-- item after item until nothing is left, up to a capacity; the first error from the left
abbrev pub parse_sequence_of : ℕ → Parse → ContentsParse
parse_sequence_of capacity parse rules p octets = join_encodings (parse_each capacity parse rules p octets)
