-- Lists of items: the contents octets are the encodings of the items, one after another (X.690 8.10).
use Rattle.std.specs.Prelude.{◌≡◌, ℕ, zero, suc, ◌+◌, List, [], ◌∷◌, ◌++◌, length, drop, Result, Ok, Err}
use Rattle.der_tlv.specs.declared.error.ErrorKind.{ErrorKind}
use Rattle.der_elem.specs.Parsing.{Parse, ContentsParse}

-- each item is accepted from its part of the octets
abbrev pub AcceptsItems : {T : Type 0} → (T → List ℕ → Type 0) → List T → List ℕ → Type 0
AcceptsItems accepts [] octets = octets ≡ []
AcceptsItems accepts (v ∷ vs) octets = (first : List ℕ) × (others : List ℕ) × (octets ≡ first ++ others) × accepts v first × AcceptsItems accepts vs others

-- whether each item has the property
abbrev pub EachItem : {T : Type 0} → (T → Type 0) → List T → Type 0
EachItem p [] = Unit {0}
EachItem p (v ∷ vs) = p v × EachItem p vs

-- the result for the other items, after these octets
abbrev pub join_items : List ℕ → Result (List ℕ) ErrorKind → Result (List ℕ) ErrorKind
join_items octets (Ok others) = Ok (octets ++ others)
join_items octets (Err k) = Err k

-- a first item and then the others; an item that takes no octets ends the list
abbrev pub then_items : Result (ℕ × List ℕ) ErrorKind → (ℕ → Result (List ℕ) ErrorKind) → Result (List ℕ) ErrorKind
then_items (Err k) others = Err k
then_items (Ok (zero, octets)) others = Ok []
then_items (Ok (suc n, octets)) others = join_items octets (others (suc n))

-- at most a number of items
abbrev pub parse_items_up_to : ℕ → (ℕ → List ℕ → Result (ℕ × List ℕ) ErrorKind) → ℕ → List ℕ → Result (List ℕ) ErrorKind
parse_items_up_to zero parse p octets = Ok []
parse_items_up_to (suc count) parse p [] = Ok []
parse_items_up_to (suc count) parse p (x ∷ xs) = then_items (parse p (x ∷ xs)) (λ n. parse_items_up_to count parse (p + n) (drop n (x ∷ xs)))

-- item after item until no octet is left, or the first error from the left
unfoldable pub parse_items : Parse → ContentsParse
parse_items parse rules p octets = parse_items_up_to (length octets) (parse rules) p octets

-- whether each pair of two lists is comparable
abbrev pub AllComparable : {T : Type 0} → (T → T → Type 0) → List T → List T → Type 0
AllComparable comparable [] ws = Unit {0}
AllComparable comparable (v ∷ vs) [] = Unit {0}
AllComparable comparable (v ∷ vs) (w ∷ ws) = comparable v w × AllComparable comparable vs ws

-- each item of a list is a copy of the item at its index in the other list
abbrev pub AreCopies : {T : Type 0} → (T → T → Type 0) → List T → List T → Type 0
AreCopies is_copy [] ws = ws ≡ []
AreCopies is_copy (v ∷ vs) [] = ⊥
AreCopies is_copy (v ∷ vs) (w ∷ ws) = is_copy v w × AreCopies is_copy vs ws
