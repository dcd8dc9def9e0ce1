-- Sets that borrow a slice of items, or the contents octets that the items were read from (X.690 8.12, 11.6).
use Rattle.std.specs.Prelude.{◌≡◌, ℕ, zero, suc, ◌+◌, ◌<◌, List, [], ◌∷◌, ◌++◌, length, map, drop, Bool, Some, Result, Ok, Err, if◌then◌else◌, slice_get}
use Rattle.std.specs.List.{All, concat, list_any}
use Rattle.std.specs.Ordering.{is_le}
use Rattle.der_tlv.specs.declared.error.ErrorKind.{ErrorKind}
use Rattle.der_tlv.specs.declared.error.ErrorKind.TheVariants.{SetOrdering}
use Rattle.der_tlv.specs.declared.error.Error.{Error}
use Rattle.der_tlv.specs.declared.encoding_rules.EncodingRules.TheVariants.{Der}
use Rattle.der_tlv.specs.Octets.{lex}
use Rattle.der_elem.specs.declared.form.Form as form
use Rattle.der_elem.specs.Parsing.{Parse, ContentsParse}
use Rattle.der_nest.specs.Places.{IsInOrder, IsOutOfOrder}
use Rattle.der_nest.specs.Lists.{AcceptsEach, before_others, join_encodings}

-- What a caller sees of such a set: the items of a slice, or the encodings of the items that octets are read as.
pub data Borrowed (T : Type 0) : Type 0 where
  OfItems : List T → Borrowed T
  OfOctets : List (List ℕ) → Borrowed T

-- the encodings of the items
abbrev pub encodings_of : {T : Type 0} → (T → List ℕ) → Borrowed T → List (List ℕ)
encodings_of encoding (OfItems vs) = map encoding vs
encodings_of encoding (OfOctets es) = es

-- the contents octets: the encodings of the items, and never the octets that were read
abbrev pub borrowed_contents : {T : Type 0} → (T → List ℕ) → Borrowed T → List ℕ
borrowed_contents encoding v = concat (encodings_of encoding v)

-- whether writing or comparing the set reads items again and takes memory
abbrev pub re_reads_borrowed : {T : Type 0} → form.Ghosts T → Borrowed T → Bool
re_reads_borrowed F (OfItems vs) = list_any F.re_reads vs
re_reads_borrowed F (OfOctets es) = F.TAKES_MEMORY

-- The item at an index: of a slice the item at that index, of octets a readable value that has the encoding at that index.
abbrev pub StandsAt : {T : Type 0} → form.Ghosts T → Borrowed T → ℕ → T → Type 0
StandsAt F (OfItems vs) i x = slice_get vs i ≡ Some x
StandsAt F (OfOctets es) i x = F.readable x × (slice_get es i ≡ Some (F.encoding x))

-- whether each pair of items at one index is comparable
abbrev pub ComparableBorrowed : {T : Type 0} → form.Ghosts T → Borrowed T → Borrowed T → Type 0
ComparableBorrowed {T} F v w = (i : ℕ) (x y : T) → StandsAt F v i x → StandsAt F w i y → F.comparable x y

-- The octets are read as items one after another, and the encodings of the items do not decrease.
-- The items are read under DER, whatever the rules of the octets around them.
pub record AcceptsBorrowed {T : Type 0} (F : form.Ghosts T) (v : Borrowed T) (octets : List ℕ) : Type 0 where
  pub items : List T
  pub accepted : AcceptsEach (F.accepts Der) items octets
  pub in_order : IsInOrder F.encoding items
  pub set_is : v ≡ OfOctets (map F.encoding items)

-- readable items, whose encodings have octets and are in order
pub record ReadableBorrowed {T : Type 0} (F : form.Ghosts T) (v : Borrowed T) : Type 0 where
  pub items : List T
  pub readable : All (λ x. F.readable x × (0 < length (F.encoding x))) items
  pub in_order : IsInOrder F.encoding items
  pub set_is : v ≡ OfOctets (map F.encoding items)

-- an item that is smaller than the one before is refused (11); otherwise the others follow
abbrev pub then_in_order : List ℕ → Result (ℕ × List ℕ) ErrorKind → (ℕ → List ℕ → Result (List (List ℕ)) ErrorKind) → Result (List (List ℕ)) ErrorKind
then_in_order last (Err k) others = Err k
then_in_order last (Ok (n, encoding)) others =
    if is_le (lex last encoding) then before_others encoding (others n encoding) else Err SetOrdering

abbrev pub parse_in_order_up_to : ℕ → (ℕ → List ℕ → Result (ℕ × List ℕ) ErrorKind) → List ℕ → ℕ → List ℕ → Result (List (List ℕ)) ErrorKind
parse_in_order_up_to zero parse last p octets = Ok []
parse_in_order_up_to (suc more) parse last p [] = Ok []
parse_in_order_up_to (suc more) parse last p (x ∷ xs) =
    then_in_order last (parse p (x ∷ xs)) (λ n encoding. parse_in_order_up_to more parse encoding (p + n) (drop n (x ∷ xs)))

-- Item after item, after this last one, until nothing is left: their encodings, or the first error from the left.
unfoldable pub parse_in_order : ℕ → Parse → List ℕ → ℕ → List ℕ → Result (List (List ℕ)) ErrorKind
parse_in_order more parse last p octets = parse_in_order_up_to more (parse Der) last p octets

-- The octets alone, from position 0 and under DER. Empty octets are less than every encoding.
abbrev pub parse_borrowed_items : Parse → List ℕ → Result (List (List ℕ)) ErrorKind
parse_borrowed_items parse octets = parse_in_order (length octets) parse [] 0 octets

abbrev pub parse_borrowed : Parse → ContentsParse
parse_borrowed parse rules p octets = join_encodings (parse_borrowed_items parse octets)

-- the result of borrowing a slice of items: a set of them, or (11) if one cannot come after those before it
abbrev pub Borrows : {T : Type 0} → form.Ghosts T → List T → Result (Borrowed T) Error → Type 0
Borrows F items (Ok v) = (v ≡ OfItems items) × IsInOrder F.encoding items
Borrows {T} F items (Err e) =
    (e.kind ≡ SetOrdering) × ((before : List T) × (x : T) × (after : List T) × (why : ErrorKind) × (items ≡ before ++ x ∷ after) × IsOutOfOrder F before x why)
