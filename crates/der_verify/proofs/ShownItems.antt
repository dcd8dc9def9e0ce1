-- Items that are read again, one after another, and the value that each shows.
use Rattle.std.proofs.Common.{◌≡◌, ℕ, List, [], ◌∷◌, Bool, true, false, ◌||◌, ◌&&◌, Some, None, Result, Ok, Err, refl, sym, ap, ◌∙◌, subst}
use Rattle.std.specs.Cmp.Lexicographic.{pointwise}
use Rattle.std.specs.List.{list_all, list_any}
use Rattle.der_tlv.specs.declared.error.Error.{Error}
use Rattle.der_tlv.specs.declared.encoding_rules.EncodingRules.TheVariants.{Der}
use Rattle.der_tlv.specs.ReaderState.{ReaderState, new_reader}
use Rattle.der_elem.specs.Accepting.{Fits}
use Rattle.der_elem.specs.declared.form.Form as form
use Rattle.der_lists.specs.ReadingOn.{ReadsOn}
use Rattle.der_lists.specs.Items.{AreItems, AreToCome}
use Rattle.der_lists.proofs.TestedItems.{all_to_come, next_of, none_to_come, never_refused}
use Rattle.der_verify.specs.Shown.{show_themselves, AreShown, Encodes, ShowEach, ShownToCome}

-- the items that are left show themselves
pub themselves : {T : Type 0} (F : form.Ghosts T) (items : List T) (now : ReaderState) → AreToCome F now items → ShownToCome F (Encodes F) now items
themselves F items now are = record { items = items; are = are; show = show_themselves F items }

pub all_themselves : {T : Type 0} (F : form.Ghosts T) (octets : List ℕ) (items : List T) (now : ReaderState) → Fits octets → now ≡ new_reader octets Der → AreItems F octets items → ShownToCome F (Encodes F) now items
all_themselves F octets items now fits is a = themselves F items now (all_to_come F octets items now fits is a)

module _ {T X : Type 0} (F : form.Ghosts T) (shows : T → X → Type 0) where
  -- a new reader has all items of its octets left
  pub all_shown : (octets : List ℕ) (shown : List X) (now : ReaderState) → Fits octets → now ≡ new_reader octets Der → AreShown F shows octets shown → ShownToCome F shows now shown
  all_shown octets shown now fits is a = record { items = a.items; are = all_to_come F octets a.items now fits is a.are; show = a.show }

  nothing_shown : (shown : List X) → ShowEach shows [] shown → shown ≡ []
  nothing_shown [] s = refl
  nothing_shown (x ∷ xs) s = absurd s

  pub none_shown : (now new : ReaderState) (shown : List X) → ShownToCome F shows now shown → ReadsOn F now new None → shown ≡ []
  none_shown now new shown left on =
      nothing_shown shown (subst (λ l. ShowEach shows l shown) (none_to_come F now new left.items left.are on) left.show)

  pub never_shown : F.TAKES_MEMORY ≡ false → (now new : ReaderState) (shown : List X) (e : Error) → ShownToCome F shows now shown → ReadsOn F now new (Some (Err e)) → ⊥
  never_shown free now new shown e left on = never_refused F free now new left.items e left.are on

  module _ (respects : (v w : T) (x : X) → F.encoding v ≡ F.encoding w → shows v x → shows w x) where
    -- the first value is that of the item that was read, and the others are left
    pub record NextShown (new : ReaderState) (shown : List X) (v : T) : Type 0 where
      pub first : X
      pub others : List X
      pub are : shown ≡ first ∷ others
      pub shows_it : shows v first
      pub left : ShownToCome F shows new others

    split : (new : ReaderState) (first v : T) (others : List T) (shown : List X) → F.encoding first ≡ F.encoding v → AreToCome F new others → ShowEach shows (first ∷ others) shown → NextShown new shown v
    split new first v others [] same left s = absurd s
    split new first v others (x ∷ xs) same left s =
        record { first = x; others = xs; are = refl; shows_it = respects first v x same s.0; left = record { items = others; are = left; show = s.1 } }

    pub next_shown : (now new : ReaderState) (shown : List X) (v : T) → ShownToCome F shows now shown → ReadsOn F now new (Some (Ok v)) → NextShown new shown v
    next_shown now new shown v left on =
        let next = next_of F now new left.items v left.are on in
        split new next.first v next.others shown next.same next.left (subst (λ l. ShowEach shows l shown) next.are left.show)

  module _ (test : X → Bool) (start : ReaderState) where
    -- one of all passes if and only if one of those that are left does
    abbrev pub SomeLeft : ReaderState → Type 0
    SomeLeft now = (all : List X) → ShownToCome F shows start all → (left : List X) × ShownToCome F shows now left × (list_any test left ≡ list_any test all)

    -- all pass if and only if all of those that are left do
    abbrev pub AllLeft : ReaderState → Type 0
    AllLeft now = (all : List X) → ShownToCome F shows start all → (left : List X) × ShownToCome F shows now left × (list_all test left ≡ list_all test all)

    module _ (respects : (v w : T) (x : X) → F.encoding v ≡ F.encoding w → shows v x → shows w x) where
      pub some_go : (now new : ReaderState) (v : T) (b : Bool) → SomeLeft now → ReadsOn F now new (Some (Ok v)) → ((x : X) → shows v x → b ≡ test x) → (all : List X) → ShownToCome F shows start all → (left : List X) × ShownToCome F shows new left × (b || list_any test left ≡ list_any test all)
      some_go now new v b left on tells all a =
          let so = left all a in
          let next = next_shown respects now new so.0 v so.1 on in
          (next.others, next.left, ap (λ c. c || list_any test next.others) (tells next.first next.shows_it) ∙ sym (ap (list_any test) next.are) ∙ so.2)

      pub all_go : (now new : ReaderState) (v : T) (b : Bool) → AllLeft now → ReadsOn F now new (Some (Ok v)) → ((x : X) → shows v x → b ≡ test x) → (all : List X) → ShownToCome F shows start all → (left : List X) × ShownToCome F shows new left × (b && list_all test left ≡ list_all test all)
      all_go now new v b left on tells all a =
          let so = left all a in
          let next = next_shown respects now new so.0 v so.1 on in
          (next.others, next.left, ap (λ c. c && list_all test next.others) (tells next.first next.shows_it) ∙ sym (ap (list_all test) next.are) ∙ so.2)

    pub some_end : (now new : ReaderState) → SomeLeft now → ReadsOn F now new None → (all : List X) → ShownToCome F shows start all → false ≡ list_any test all
    some_end now new left on all a =
        let so = left all a in
        sym (ap (list_any test) (none_shown now new so.0 so.1 on)) ∙ so.2

    pub all_end : (now new : ReaderState) → AllLeft now → ReadsOn F now new None → (all : List X) → ShownToCome F shows start all → true ≡ list_all test all
    all_end now new left on all a =
        let so = left all a in
        sym (ap (list_all test) (none_shown now new so.0 so.1 on)) ∙ so.2

  module _ (test : X → X → Bool) (start other : ReaderState) where
    -- all pairs pass if and only if those that are left do
    abbrev pub PairsLeft : ReaderState → ReaderState → Type 0
    PairsLeft left right = (xs ys : List X) → ShownToCome F shows start xs → ShownToCome F shows other ys
        → (vs ws : List X) × ShownToCome F shows left vs × ShownToCome F shows right ws × (pointwise test vs ws ≡ pointwise test xs ys)

    pub pairs_begin : PairsLeft start other
    pairs_begin = λ xs ys a b. (xs, ys, a, b, refl)

    module _ (respects : (v w : T) (x : X) → F.encoding v ≡ F.encoding w → shows v x → shows w x) where
      pub pairs_go : (left next_left right next_right : ReaderState) (v w : T) (b : Bool) → PairsLeft left right → ReadsOn F left next_left (Some (Ok v)) → ReadsOn F right next_right (Some (Ok w)) → ((x y : X) → shows v x → shows w y → b ≡ test x y)
          → (xs ys : List X) → ShownToCome F shows start xs → ShownToCome F shows other ys
          → (vs ws : List X) × ShownToCome F shows next_left vs × ShownToCome F shows next_right ws × ((b && pointwise test vs ws) ≡ pointwise test xs ys)
      pairs_go left next_left right next_right v w b pairs on_left on_right tells xs ys a c =
          let so = pairs xs ys a c in
          let first = next_shown respects left next_left so.0 v so.2 on_left in
          let second = next_shown respects right next_right so.1 w so.3 on_right in (
            first.others,
            second.others,
            first.left,
            second.left,
            ap (λ d. d && pointwise test first.others second.others) (tells first.first second.first first.shows_it second.shows_it)
                ∙ sym (ap (λ l. pointwise test l (second.first ∷ second.others)) first.are)
                ∙ sym (ap (λ l. pointwise test so.0 l) second.are) ∙ so.4,
          )

      pub pairs_fewer : (left next_left right next_right : ReaderState) (v : T) → PairsLeft left right → ReadsOn F left next_left (Some (Ok v)) → ReadsOn F right next_right None
          → (xs ys : List X) → ShownToCome F shows start xs → ShownToCome F shows other ys → false ≡ pointwise test xs ys
      pairs_fewer left next_left right next_right v pairs on_left on_right xs ys a c =
          let so = pairs xs ys a c in
          let first = next_shown respects left next_left so.0 v so.2 on_left in
          sym (ap (λ l. pointwise test l []) first.are) ∙ sym (ap (λ l. pointwise test so.0 l) (none_shown right next_right so.1 so.3 on_right)) ∙ so.4

      pub pairs_more : F.TAKES_MEMORY ≡ false → (left next_left right next_right : ReaderState) (item : Result T Error) → PairsLeft left right → ReadsOn F left next_left None → ReadsOn F right next_right (Some item)
          → (xs ys : List X) → ShownToCome F shows start xs → ShownToCome F shows other ys → false ≡ pointwise test xs ys
      pairs_more free left next_left right next_right (Ok w) pairs on_left on_right xs ys a c =
          let so = pairs xs ys a c in
          let second = next_shown respects right next_right so.1 w so.3 on_right in
          sym (ap (λ l. pointwise test [] l) second.are) ∙ sym (ap (λ l. pointwise test l so.1) (none_shown left next_left so.0 so.2 on_left)) ∙ so.4
      pairs_more free left next_left right next_right (Err e) pairs on_left on_right xs ys a c =
          let so = pairs xs ys a c in
          absurd (never_shown free right next_right so.1 e so.3 on_right)

    pub pairs_end : (left next_left right next_right : ReaderState) → PairsLeft left right → ReadsOn F left next_left None → ReadsOn F right next_right None
        → (xs ys : List X) → ShownToCome F shows start xs → ShownToCome F shows other ys → true ≡ pointwise test xs ys
    pairs_end left next_left right next_right pairs on_left on_right xs ys a c =
        let so = pairs xs ys a c in
        sym (ap (λ l. pointwise test l []) (none_shown left next_left so.0 so.2 on_left)) ∙ sym (ap (λ l. pointwise test so.0 l) (none_shown right next_right so.1 so.3 on_right)) ∙ so.4
