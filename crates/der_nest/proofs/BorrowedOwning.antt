-- Items of a borrowed set that are put into a set on the heap, one after another.
use Rattle.std.proofs.Common.{◌≡◌, ℕ, List, [], ◌∷◌, ◌++◌, map, refl, sym, ap, ◌∙◌, subst, append_assoc}
use Rattle.std.specs.List.{All}
use Rattle.std.specs.List.Sorted.{IsSorted}
use Rattle.std.proofs.lemmas.List.{append-nil, map_push}
use Rattle.std.proofs.lemmas.List.Elements.{All-nil, All-push}
use Rattle.der_tlv.specs.Octets.{lex}
use Rattle.der_elem.specs.declared.form.Form as form
use Rattle.der_elem.specs.Items.{AreCopies}
use Rattle.der_nest.specs.Places.{IsInOrder}
use Rattle.der_nest.specs.BorrowedSets.{Borrowed, OfItems, OfOctets, encodings_of}
use Rattle.der_nest.specs.BorrowedItems.{GivesItem, AreItemsOf}
use Rattle.der_nest.proofs.Copying.{copies_in_order}

-- the items of the set are these, and then those that are left
abbrev pub OwnedSoFar : {T : Type 0} → form.Ghosts T → (T → T → Type 0) → Borrowed T → List T → Borrowed T → Type 0
OwnedSoFar {T} F is_copy (OfItems vs) items left =
    (before : List T) × (others : List T) × (vs ≡ before ++ others) × AreCopies is_copy before items × (left ≡ OfItems others)
OwnedSoFar F is_copy (OfOctets es) items left =
    (others : List (List ℕ)) × (es ≡ map F.encoding items ++ others) × All F.readable items × (left ≡ OfOctets others)

push_copies : {T : Type 0} (is_copy : T → T → Type 0) (vs ws : List T) (v w : T) → AreCopies is_copy vs ws → is_copy v w → AreCopies is_copy (vs ++ v ∷ []) (ws ++ w ∷ [])
push_copies is_copy [] ws v w c d = subst (λ ws. AreCopies is_copy (v ∷ []) (ws ++ w ∷ [])) (sym c) (d, refl)
push_copies is_copy (x ∷ vs) [] v w c d = absurd c
push_copies is_copy (x ∷ vs) (y ∷ ws) v w (c, cs) d = (c, push_copies is_copy vs ws v w cs d)

module _ {T : Type 0} (F : form.Ghosts T) (is_copy : T → T → Type 0) where
  pub none_owned : (v : Borrowed T) → OwnedSoFar F is_copy v [] v
  none_owned (OfItems vs) = ([], vs, refl, refl, refl)
  none_owned (OfOctets es) = (es, refl, All-nil F.readable, refl)

  same_items : (vs ws : List T) → OfItems vs ≡ OfItems ws → vs ≡ ws
  same_items vs ws e = ap (λ (s : Borrowed T). items_or_none s) e
    where
      items_or_none : Borrowed T → List T
      items_or_none (OfItems vs) = vs
      items_or_none (OfOctets es) = []

  -- one more item is owned
  pub one_more_owned : (v : Borrowed T) (items : List T) (left : Borrowed T) (x : T) (new : Borrowed T) → OwnedSoFar F is_copy v items left → GivesItem F is_copy left x new → OwnedSoFar F is_copy v (items ++ x ∷ []) new
  one_more_owned (OfItems vs) items left x new (before, others, is, copies, left_is) gives =
      let told : GivesItem F is_copy (OfItems others) x new = subst (λ l. GivesItem F is_copy l x new) left_is gives in
      (before ++ told.0 ∷ [], told.1, is ∙ ap (λ s. before ++ s) told.2 ∙ sym (append_assoc before (told.0 ∷ []) told.1), push_copies is_copy before items told.0 x copies told.3, told.4)
  one_more_owned (OfOctets es) items left x new (others, is, readable, left_is) gives =
      let told : GivesItem F is_copy (OfOctets others) x new = subst (λ l. GivesItem F is_copy l x new) left_is gives in
      (told.0, is ∙ ap (λ s. map F.encoding items ++ s) told.2 ∙ sym (append_assoc (map F.encoding items) (F.encoding x ∷ []) told.0) ∙ ap (λ s. s ++ told.0) (sym (map_push F.encoding items x)), All-push F.readable items x readable told.1, told.3)

  no_items : (vs : List T) → map F.encoding vs ≡ [] → vs ≡ []
  no_items [] e = refl
  no_items (v ∷ vs) e = cc

  -- if none is left, these are the items
  pub all_owned : (v : Borrowed T) (items : List T) (left : Borrowed T) → OwnedSoFar F is_copy v items left → encodings_of F.encoding left ≡ [] → AreItemsOf F is_copy v items
  all_owned (OfItems vs) items left (before, others, is, copies, left_is) none =
      let end : others ≡ [] = no_items others (ap (encodings_of F.encoding) (sym left_is) ∙ none) in
      subst (λ vs. AreCopies is_copy vs items) (sym (is ∙ ap (λ s. before ++ s) end ∙ append-nil before)) copies
  all_owned (OfOctets es) items left (others, is, readable, left_is) none =
      let end : others ≡ [] = ap (encodings_of F.encoding) (sym left_is) ∙ none in
      (readable, sym (is ∙ ap (λ s. map F.encoding items ++ s) end ∙ append-nil (map F.encoding items)))

  -- the items of a set are in order
  pub owned_in_order : (copy_encoding : (v w : T) → is_copy v w → F.encoding w ≡ F.encoding v) (v : Borrowed T) (items : List T) → AreItemsOf F is_copy v items → IsSorted lex (encodings_of F.encoding v) → IsInOrder F.encoding items
  owned_in_order same (OfItems vs) items copies up = copies_in_order F.encoding is_copy same vs items copies up
  owned_in_order same (OfOctets es) items (readable, is) up = subst (IsSorted lex) (sym is) up
