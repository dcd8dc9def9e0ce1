-- The number of components of a SEQUENCE OF or a SET OF, by its contents octets, and the numbers that SIZE allows (X.680 51.5).
use Rattle.std.specs.Prelude.{ℕ, List, length, Bool}
use Rattle.der_opaque.specs.AnyForm.{parse_any}
use Rattle.der_nest.specs.BorrowedSequences.{item_encodings}
use Rattle.der_constrained.specs.Sizes.{in_sizes}

-- the number of encodings in the octets, one after another, of any types (X.690 8.10, 8.12); 0 if the octets are no encodings
abbrev pub component_count : List ℕ → ℕ
component_count octets = length (item_encodings parse_any octets)

-- `SIZE` of a SEQUENCE OF and of a SET OF: the number of components
abbrev pub size_in_components : ℕ → ℕ → List ℕ → Bool
size_in_components least greatest octets = in_sizes least greatest (component_count octets)
