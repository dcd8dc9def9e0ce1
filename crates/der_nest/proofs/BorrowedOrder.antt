-- The order of borrowed sets, pair by pair.
use Rattle.std.proofs.Common.{◌≡◌, ◌≢◌, ℕ, zero, suc, ◌≤◌, List, [], ◌∷◌, ◌++◌, length, drop, map, Bool, true, false, ◌||◌, Some, inl, inr, refl, sym, ap, ◌∙◌, arith, subst, Ordering}
use Rattle.std.specs.List.{concat, list_any, slice_get}
use Rattle.std.specs.declared.cmp.Ordering.TheVariants.{Less, Equal, Greater}
use Rattle.std.specs.Ordering.{ordering_then}
use Rattle.std.proofs.lemmas.List.{length-append}
use Rattle.der_tlv.specs.declared.error.ErrorKind.{ErrorKind}
use Rattle.der_tlv.specs.declared.error.ErrorKind.TheVariants.{Overflow, Memory, Value}
use Rattle.der_tlv.specs.declared.tag.Tag.{Tag}
use Rattle.der_tlv.specs.HeaderOctets.{tlv}
use Rattle.der_tlv.specs.Octets.{lex}
use Rattle.der_tlv.specs.OrderingLaws.{then_decided}
use Rattle.der_tlv.specs.OctetLaws.{lex-append}
use Rattle.der_elem.specs.declared.form.Form as form
use Rattle.der_elem.specs.Comparing.{Incomparable}
use Rattle.der_elem.specs.OrderLaws.{lex-none-some, lex-some-none, encoding-some, encoding-beginning}
use Rattle.der_nest.specs.Found.{found_item}
use Rattle.der_nest.specs.declared.set_of_ref.found.Found.{Found}
use Rattle.der_nest.specs.declared.set_of_ref.found.Found.TheVariants.{Read, Lent}
use Rattle.der_nest.specs.BorrowedSets.{Borrowed, OfItems, OfOctets, encodings_of, borrowed_contents, re_reads_borrowed, StandsAt, ComparableBorrowed}
use Rattle.der_nest.specs.BorrowedItems.{giving_takes_memory}
use Rattle.der_nest.specs.FindingNext.{Finds}
use Rattle.der_nest.specs.ComparingBorrowed.{IncomparableBorrowed}

-- the items from an index on
abbrev pub items_from : {T : Type 0} → ℕ → Borrowed T → Borrowed T
items_from i (OfItems vs) = OfItems (drop i vs)
items_from i (OfOctets es) = OfOctets (drop i es)

items_from-none : {T : Type 0} (v : Borrowed T) → items_from 0 v ≡ v
items_from-none (OfItems vs) = refl
items_from-none (OfOctets es) = refl

-- the first of the items left from an index is the item at that index
pub next_at : {A : Type 0} (xs : List A) (i : ℕ) (x : A) (others : List A) → drop i xs ≡ x ∷ others → (others ≡ drop (suc i) xs) × (slice_get xs i ≡ Some x)
next_at [] zero x others e = cc
next_at [] (suc i) x others e = cc
next_at (y ∷ ys) zero x others e = (cc, cc)
next_at (y ∷ ys) (suc i) x others e = next_at ys i x others e

length-concat-drop : (es : List (List ℕ)) (i : ℕ) → length (concat (drop i es)) ≤ length (concat es)
length-concat-drop es zero = omega arith
length-concat-drop [] (suc i) = omega arith
length-concat-drop (e ∷ es) (suc i) = let h = length-concat-drop es i in omega (arith, length-append e (concat es))

map-drop : {A B : Type 0} (f : A → B) (xs : List A) (i : ℕ) → map f (drop i xs) ≡ drop i (map f xs)
map-drop f xs zero = refl
map-drop f [] (suc i) = refl
map-drop f (x ∷ xs) (suc i) = map-drop f xs i

any_at : {A : Type 0} (f : A → Bool) (xs : List A) (i : ℕ) (x : A) → slice_get xs i ≡ Some x → f x ≡ true → list_any f xs ≡ true
any_at f [] i x e h = cc
any_at f (y ∷ ys) zero x e h = let same : f y ≡ true = (let s : y ≡ x = cc in ap f s ∙ h) in rw same refl
any_at f (y ∷ ys) (suc i) x e h = ap (λ b. f y || b) (any_at f ys i x e h) ∙ or_true (f y)
  where
    or_true : (b : Bool) → (b || true) ≡ true
    or_true true = refl
    or_true false = refl

module _ {T : Type 0} (F : form.Ghosts T) where
  -- an item of a set at an index, and the items after it
  pub record ItemAt (v : Borrowed T) (i : ℕ) (x : T) (left : Borrowed T) : Type 0 where
    pub stands : StandsAt F v i x
    pub left_is : left ≡ items_from (suc i) v
    pub parts : borrowed_contents F.encoding (items_from i v) ≡ F.encoding x ++ borrowed_contents F.encoding left
    pub memory : F.re_reads x ≡ true → re_reads_borrowed F v ≡ true

  item_at_place : (v : Borrowed T) (i : ℕ) (found : Found T) (left : Borrowed T) → Finds F (items_from i v) found left → ItemAt v i (found_item found) left
  item_at_place (OfItems vs) i (Lent x) left (others, is, left_is) =
      let at = next_at vs i x.now others is in
      record {
        stands = at.1;
        left_is = left_is ∙ ap (λ xs. OfItems xs) at.0;
        parts = ap (λ xs. borrowed_contents F.encoding (OfItems xs)) is ∙ ap (λ s. F.encoding x.now ++ borrowed_contents F.encoding s) (sym left_is);
        memory = any_at F.re_reads vs i x.now at.1;
      }
  item_at_place (OfItems vs) i (Read x) left found = absurd found
  item_at_place (OfOctets es) i (Lent x) left found = absurd found
  item_at_place (OfOctets es) i (Read x) left (others, readable, is, left_is) =
      let at = next_at es i (F.encoding x) others is in
      record {
        stands = (readable, at.1);
        left_is = left_is ∙ ap (λ xs. OfOctets xs) at.0;
        parts = ap (λ xs. borrowed_contents F.encoding (OfOctets xs)) is ∙ ap (λ s. F.encoding x ++ borrowed_contents F.encoding s) (sym left_is);
        memory = F.re_reads_memory x;
      }

  length_from : (v : Borrowed T) (i : ℕ) → length (borrowed_contents F.encoding (items_from i v)) ≤ length (borrowed_contents F.encoding v)
  length_from (OfItems vs) i = let h = length-concat-drop (map F.encoding vs) i in omega (arith, ap (λ es. length (concat es)) (map-drop F.encoding vs i))
  length_from (OfOctets es) i = length-concat-drop es i

  -- an item is no longer than its set
  length_item : {v : Borrowed T} {i : ℕ} {x : T} {left : Borrowed T} → ItemAt v i x left → length (F.encoding x) ≤ length (borrowed_contents F.encoding v)
  length_item {v} {i} {x} {left} at =
      let h = length_from v i in
      omega (arith, ap length at.parts, length-append (F.encoding x) (borrowed_contents F.encoding left))

  incomparable_items : {v w : Borrowed T} {i : ℕ} {x y : T} {left right : Borrowed T} → ItemAt v i x left → ItemAt w i y right → (kind : ErrorKind) → Incomparable F x y kind → IncomparableBorrowed F v w kind
  incomparable_items a b Overflow why = elim why [
    | inl h ↦ inl (let l = length_item a in omega arith)
    | inr h ↦ inr (let l = length_item b in omega arith)
  ]
  incomparable_items {v} {w} {i} {x} {y} a b (Value tag) why = λ (one : ComparableBorrowed F v w). why.0 (one i x y a.stands b.stands)
  incomparable_items a b Memory why = elim why [
    | inl h ↦ inl (a.memory h)
    | inr h ↦ inr (b.memory h)
  ]
  incomparable_items a b _ why = absurd why

  memory_from : (v : Borrowed T) (i : ℕ) → giving_takes_memory F false (items_from i v) ≡ true → re_reads_borrowed F v ≡ true
  memory_from (OfItems vs) i e = cc
  memory_from (OfOctets es) i e = e

  -- no item is left
  no_contents : (v : Borrowed T) → encodings_of F.encoding v ≡ [] → borrowed_contents F.encoding v ≡ []
  no_contents v none = ap concat none

-- the pairs of items before these are equal
pub record ComparedSoFar {T : Type 0} (F : form.Ghosts T) (v w left right : Borrowed T) : Type 0 where
  pub place : ℕ
  pub left_is : left ≡ items_from place v
  pub right_is : right ≡ items_from place w
  pub order : lex (borrowed_contents F.encoding v) (borrowed_contents F.encoding w) ≡ lex (borrowed_contents F.encoding left) (borrowed_contents F.encoding right)

pub none_compared : {T : Type 0} (F : form.Ghosts T) (v w : Borrowed T) → ComparedSoFar F v w v w
none_compared F v w = record { place = 0; left_is = sym (items_from-none v); right_is = sym (items_from-none w); order = refl }

module _ {T : Type 0} {F : form.Ghosts T} {v w left right : Borrowed T} (s : ComparedSoFar F v w left right) where
  left_item : (found : Found T) (new : Borrowed T) → Finds F left found new → ItemAt F v s.place (found_item found) new
  left_item found new finds = item_at_place F v s.place found new (subst (λ l. Finds F l found new) s.left_is finds)

  right_item : (found : Found T) (new : Borrowed T) → Finds F right found new → ItemAt F w s.place (found_item found) new
  right_item found new finds = item_at_place F w s.place found new (subst (λ l. Finds F l found new) s.right_is finds)

  left_parts : (found : Found T) (new : Borrowed T) → Finds F left found new → borrowed_contents F.encoding left ≡ F.encoding (found_item found) ++ borrowed_contents F.encoding new
  left_parts found new finds = ap (borrowed_contents F.encoding) s.left_is ∙ (left_item found new finds).parts

  right_parts : (found : Found T) (new : Borrowed T) → Finds F right found new → borrowed_contents F.encoding right ≡ F.encoding (found_item found) ++ borrowed_contents F.encoding new
  right_parts found new finds = ap (borrowed_contents F.encoding) s.right_is ∙ (right_item found new finds).parts

  -- memory ran out for an item
  pub left_memory : (kind : ErrorKind) → kind ≡ Memory → giving_takes_memory F false left ≡ true → IncomparableBorrowed F v w kind
  left_memory kind is memory = subst (IncomparableBorrowed F v w) (sym is) (inl (memory_from F v s.place (ap (giving_takes_memory F false) (sym s.left_is) ∙ memory)))

  pub right_memory : (kind : ErrorKind) → kind ≡ Memory → giving_takes_memory F false right ≡ true → IncomparableBorrowed F v w kind
  right_memory kind is memory = subst (IncomparableBorrowed F v w) (sym is) (inr (memory_from F w s.place (ap (giving_takes_memory F false) (sym s.right_is) ∙ memory)))

  -- two items have no comparison
  pub incomparable_found : (found other : Found T) (new new' : Borrowed T) → Finds F left found new → Finds F right other new' → (kind : ErrorKind) → Incomparable F (found_item found) (found_item other) kind → IncomparableBorrowed F v w kind
  incomparable_found found other new new' a b kind why = incomparable_items F (left_item found new a) (right_item other new' b) kind why

  -- nothing is left
  pub both_end : encodings_of F.encoding left ≡ [] → encodings_of F.encoding right ≡ [] → Equal ≡ lex (borrowed_contents F.encoding v) (borrowed_contents F.encoding w)
  both_end a b = sym (s.order ∙ ap (λ c. lex c (borrowed_contents F.encoding right)) (no_contents F left a) ∙ ap (lex []) (no_contents F right b))

  module _ (tag_of : T → Tag) (contents : T → List ℕ) (encoding_is : (x : T) → F.encoding x ≡ tlv (tag_of x) (contents x)) where
    pub right_ends : (found : Found T) (new : Borrowed T) → Finds F left found new → encodings_of F.encoding right ≡ [] → Greater ≡ lex (borrowed_contents F.encoding v) (borrowed_contents F.encoding w)
    right_ends found new finds none =
        sym (s.order ∙ ap (lex (borrowed_contents F.encoding left)) (no_contents F right none) ∙ ap (λ c. lex c []) (left_parts found new finds) ∙ lex-some-none (F.encoding (found_item found)) (borrowed_contents F.encoding new) (encoding-some tag_of contents F.encoding encoding_is (found_item found)))

    pub left_ends : (found : Found T) (new : Borrowed T) → encodings_of F.encoding left ≡ [] → Finds F right found new → Less ≡ lex (borrowed_contents F.encoding v) (borrowed_contents F.encoding w)
    left_ends found new none finds =
        sym (s.order ∙ ap (λ c. lex c (borrowed_contents F.encoding right)) (no_contents F left none) ∙ ap (lex []) (right_parts found new finds) ∙ lex-none-some (F.encoding (found_item found)) (borrowed_contents F.encoding new) (encoding-some tag_of contents F.encoding encoding_is (found_item found)))

    pair_order : (found other : Found T) (new new' : Borrowed T) → Finds F left found new → Finds F right other new' → lex (borrowed_contents F.encoding v) (borrowed_contents F.encoding w) ≡ ordering_then (lex (F.encoding (found_item found)) (F.encoding (found_item other))) (lex (borrowed_contents F.encoding new) (borrowed_contents F.encoding new'))
    pair_order found other new new' a b =
        s.order ∙ ap (λ c. lex c (borrowed_contents F.encoding right)) (left_parts found new a) ∙ ap (lex (F.encoding (found_item found) ++ borrowed_contents F.encoding new)) (right_parts other new' b)
        ∙ lex-append (F.encoding (found_item found)) (F.encoding (found_item other)) (borrowed_contents F.encoding new) (borrowed_contents F.encoding new') (encoding-beginning tag_of contents F.encoding encoding_is (found_item found) (found_item other))

    -- a pair that differs decides
    pub pair_decides : (found other : Found T) (new new' : Borrowed T) → Finds F left found new → Finds F right other new' → (order : Ordering) → order ≡ lex (F.encoding (found_item found)) (F.encoding (found_item other)) → order ≢ Equal → order ≡ lex (borrowed_contents F.encoding v) (borrowed_contents F.encoding w)
    pair_decides found other new new' a b order is ne =
        sym (pair_order found other new new' a b ∙ ap (λ o. ordering_then o (lex (borrowed_contents F.encoding new) (borrowed_contents F.encoding new'))) (sym is) ∙ then_decided order (lex (borrowed_contents F.encoding new) (borrowed_contents F.encoding new')) ne)

    -- one more pair is equal
    pub one_more_pair : (found other : Found T) (new new' : Borrowed T) → Finds F left found new → Finds F right other new' → Equal ≡ lex (F.encoding (found_item found)) (F.encoding (found_item other)) → ComparedSoFar F v w new new'
    one_more_pair found other new new' a b is = record {
      place = suc s.place;
      left_is = (left_item found new a).left_is;
      right_is = (right_item other new' b).left_is;
      order = pair_order found other new new' a b ∙ ap (λ o. ordering_then o (lex (borrowed_contents F.encoding new) (borrowed_contents F.encoding new'))) (sym is);
    }
