-- Sets: the contents octets are the encodings of the items in non-decreasing order (X.690 8.12, 11.6).
use Rattle.std.specs.Prelude.{ℕ, ◌<◌, ◌≤◌, List, length, Result, Ok, Err}
use Rattle.std.specs.List.{All, concat}
use Rattle.std.specs.List.Sorted.{IsPermutation}
use Rattle.der_tlv.specs.declared.error.ErrorKind.{ErrorKind}
use Rattle.der_elem.specs.Parsing.{Parse, ContentsParse}
use Rattle.der_nest.specs.Places.{IsInOrder, sort_encodings}
use Rattle.der_nest.specs.Lists.{AcceptsEach, parse_each}

-- The octets are read as items one after another, and the set has these items in the order of their encodings.
pub record AcceptsSet {T : Type 0} (encoding : T → List ℕ) (accepts : T → List ℕ → Type 0) (vs : List T) (octets : List ℕ) : Type 0 where
  pub items : List T
  pub accepted : AcceptsEach accepts items octets
  pub same_items : IsPermutation items vs
  pub in_order : IsInOrder encoding vs

-- readable items, whose encodings have octets and are in order
abbrev pub ReadableSet : {T : Type 0} → (T → Type 0) → (T → List ℕ) → List T → Type 0
ReadableSet readable encoding vs = All (λ v. readable v × (0 < length (encoding v))) vs × IsInOrder encoding vs

-- the encodings, sorted and joined
abbrev pub joined_in_order : Result (List (List ℕ)) ErrorKind → Result (List ℕ) ErrorKind
joined_in_order (Ok encodings) = Ok (concat (sort_encodings encodings))
joined_in_order (Err k) = Err k

-- item after item until nothing is left, up to a capacity; the first error from the left
abbrev pub parse_set_up_to : ℕ → Parse → ContentsParse
parse_set_up_to capacity parse rules p octets = joined_in_order (parse_each capacity parse rules p octets)

-- any number of items; the number of items is at most that of the octets
abbrev pub parse_set : Parse → ContentsParse
parse_set parse rules p octets = parse_set_up_to (length octets) parse rules p octets

-- sets up to a capacity
abbrev pub AcceptsSetUpTo : {T : Type 0} → ℕ → (T → List ℕ) → (T → List ℕ → Type 0) → List T → List ℕ → Type 0
AcceptsSetUpTo capacity encoding accepts vs octets = (length vs ≤ capacity) × AcceptsSet encoding accepts vs octets

abbrev pub ReadableSetUpTo : {T : Type 0} → ℕ → (T → Type 0) → (T → List ℕ) → List T → Type 0
ReadableSetUpTo capacity readable encoding vs = (length vs ≤ capacity) × ReadableSet readable encoding vs
