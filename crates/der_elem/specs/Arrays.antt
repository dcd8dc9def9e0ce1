-- Lists of a fixed number of items (X.690 8.10).
use Rattle.std.specs.Prelude.{◌≡◌, ℕ, zero, suc, ◌+◌, ◌<◌, List, [], ◌∷◌, length, drop, Result, Ok, Err}
use Rattle.der_tlv.specs.declared.error.ErrorKind.{ErrorKind}
use Rattle.der_tlv.specs.declared.error.ErrorKind.TheVariants.{Length, Overlength}
use Rattle.der_tlv.specs.declared.tag.Tag.TheVariants.{Sequence}
use Rattle.der_elem.specs.Parsing.{Parse, ContentsParse}
use Rattle.der_elem.specs.Items.{AcceptsItems, EachItem, join_items}

-- each item is accepted from its part of the octets, which is not empty, and there are `count` items
abbrev pub AcceptsArray : {T : Type 0} → (T → List ℕ → Type 0) → ℕ → List T → List ℕ → Type 0
AcceptsArray accepts count vs octets = (length vs ≡ count) × AcceptsItems (λ v part. accepts v part × (0 < length part)) vs octets

-- `count` readable items, whose encodings have octets
abbrev pub ReadableArray : {T : Type 0} → (T → Type 0) → (T → List ℕ) → ℕ → List T → Type 0
ReadableArray readable encoding count vs = (length vs ≡ count) × EachItem (λ v. readable v × (0 < length (encoding v))) vs

abbrev pub then_item : Result (ℕ × List ℕ) ErrorKind → (ℕ → Result (List ℕ) ErrorKind) → Result (List ℕ) ErrorKind
then_item (Err k) others = Err k
then_item (Ok (n, octets)) others = join_items octets (others n)

-- an item too many is read, and then refused (10)
abbrev pub too_many : Result (ℕ × List ℕ) ErrorKind → Result (List ℕ) ErrorKind
too_many (Err k) = Err k
too_many (Ok item) = Err Overlength

abbrev pub parse_so_many : ℕ → (ℕ → List ℕ → Result (ℕ × List ℕ) ErrorKind) → ℕ → List ℕ → Result (List ℕ) ErrorKind
parse_so_many zero parse p [] = Ok []
parse_so_many zero parse p (x ∷ xs) = too_many (parse p (x ∷ xs))
parse_so_many (suc count) parse p [] = Err (Length Sequence)
parse_so_many (suc count) parse p (x ∷ xs) = then_item (parse p (x ∷ xs)) (λ n. parse_so_many count parse (p + n) (drop n (x ∷ xs)))

-- A number of items, or the first error from the left, which may be an item that is missing (7) or too many (10).
unfoldable pub parse_array : ℕ → Parse → ContentsParse
parse_array count parse rules p octets = parse_so_many count (parse rules) p octets
