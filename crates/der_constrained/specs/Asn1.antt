-- The words of constraints, for the page of the grammar (X.680 49 to 51).
use Rattle.std.specs.Prelude.{ℕ, List, Bool, ◌||◌, ◌&&◌, not}
use Rattle.der_modules.specs.Asn1.{Grammar, one, only, any_of}
use Rattle.der_constrained.specs.Allowed.{parse_allowed}

-- a type with only some of its values allowed: the others are refused (13)
abbrev pub ALLOWED : (List ℕ → Bool) → Grammar → Grammar
ALLOWED allows (one t contents) = one t (parse_allowed t allows contents)
ALLOWED allows (only t contents) = only t (parse_allowed t allows contents)
ALLOWED allows (any_of tags parse) = any_of tags parse

-- `A | B`, `A ^ B` and `ALL EXCEPT A` (X.680 50)
abbrev pub union : (List ℕ → Bool) → (List ℕ → Bool) → List ℕ → Bool
union first other octets = first octets || other octets

abbrev pub intersection : (List ℕ → Bool) → (List ℕ → Bool) → List ℕ → Bool
intersection first other octets = first octets && other octets

abbrev pub all_except : (List ℕ → Bool) → List ℕ → Bool
all_except excluded octets = not (excluded octets)
