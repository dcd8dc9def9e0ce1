-- The word of the grammar of a module for the additions that the module does not have.
use Rattle.std.specs.Prelude.{ℕ, List, [], ◌∷◌, ◌++◌}
use Rattle.der_elem.specs.Parsing.{ContentsParse}
use Rattle.der_additions.specs.Elements.{parse_elements}

-- `...` after the fields that are known (X.680 25): whole encodings with any tags, which are kept as they came (X.680 7)
abbrev pub ADDITIONS : ContentsParse
ADDITIONS = parse_elements

-- the octets of the fields, one after another, and then these octets
abbrev pub joined_before : List ℕ → List (List ℕ) → List ℕ
joined_before last [] = last
joined_before last (first ∷ others) = first ++ joined_before last others
