-- Items that are read again, one after another, until one passes a test.
use Rattle.std.proofs.Common.{◌≡◌, ℕ, List, [], ◌∷◌, map, Bool, true, false, ◌||◌, ◌&&◌, Some, None, Ok, Err, refl, sym, ap, ◌∙◌, subst}
use Rattle.std.specs.List.{list_all, list_any}
use Rattle.der_tlv.specs.declared.error.Error.{Error}
use Rattle.der_tlv.specs.declared.encoding_rules.EncodingRules.TheVariants.{Der}
use Rattle.der_tlv.specs.ReaderState.{ReaderState, new_reader}
use Rattle.der_elem.specs.declared.form.Form as form
use Rattle.der_elem.specs.Accepting.{Fits}
use Rattle.der_nest.specs.BorrowedSequences.{encodings_of_items}
use Rattle.der_lists.specs.ReadingOn.{ReadsOn, encodings_to_come}
use Rattle.der_lists.specs.Items.{AreItems, AreToCome}
use Rattle.der_lists.proofs.ReadingOnItems.{encodings_of_new, items_of_new}

module _ {T : Type 0} (F : form.Ghosts T) where
  -- a new reader has all items of its octets left
  pub all_to_come : (octets : List ℕ) (items : List T) (now : ReaderState) → Fits octets → now ≡ new_reader octets Der → AreItems F octets items → AreToCome F now items
  all_to_come octets items now fits is a = subst (λ s. AreToCome F s items) (sym is) (record {
    encodings = sym (encodings_of_new F octets ∙ encodings_of_items F items octets a fits);
    has = items_of_new F octets (record { value = items; accepted = a });
  })

  -- the first item left has the encoding of the item that was read, and the others are left
  pub record Next (new : ReaderState) (items : List T) (v : T) : Type 0 where
    pub first : T
    pub others : List T
    pub are : items ≡ first ∷ others
    pub same : F.encoding first ≡ F.encoding v
    pub left : AreToCome F new others

  pub next_of : (now new : ReaderState) (items : List T) (v : T) → AreToCome F now items → ReadsOn F now new (Some (Ok v)) → Next new items v
  next_of now new [] v left on =
      let told = on.items left.has in
      absurd (let e = left.encodings ∙ told.0.1 in cc)
  next_of now new (x ∷ xs) v left on =
      let told = on.items left.has in
      let e : F.encoding x ∷ map F.encoding xs ≡ F.encoding v ∷ encodings_to_come F.parse new = left.encodings ∙ told.0.1 in
      record { first = x; others = xs; are = refl; same = cc; left = record { encodings = cc; has = told.1 } }

  pub none_to_come : (now new : ReaderState) (items : List T) → AreToCome F now items → ReadsOn F now new None → items ≡ []
  none_to_come now new [] left on = refl
  none_to_come now new (x ∷ xs) left on =
      let told = on.items left.has in
      absurd (let e = left.encodings ∙ told.0.0 in cc)

  -- reading items that take no memory never fails
  pub never_refused : F.TAKES_MEMORY ≡ false → (now new : ReaderState) (items : List T) (e : Error) → AreToCome F now items → ReadsOn F now new (Some (Err e)) → ⊥
  never_refused free now new items e left on = let told = (on.items left.has).0 in let t = told.1 in absurd (cc)

  module _ (test : T → Bool) (start : ReaderState) where
    -- some item passes if and only if some item that is left passes
    abbrev pub SomeLeft : ReaderState → Type 0
    SomeLeft now = (all : List T) → AreToCome F start all → (items : List T) × AreToCome F now items × (list_any test items ≡ list_any test all)

    pub some_begins : SomeLeft start
    some_begins = λ all a. (all, a, refl)

    module _ (respects : (v w : T) → F.encoding v ≡ F.encoding w → test v ≡ test w) where
      pub some_found : (now new : ReaderState) (v : T) → SomeLeft now → ReadsOn F now new (Some (Ok v)) → test v ≡ true → (all : List T) → AreToCome F start all → true ≡ list_any test all
      some_found now new v left on passes all a =
          let so = left all a in
          let next = next_of now new so.0 v so.1 on in
          let first : test next.first ≡ true = respects next.first v next.same ∙ passes in
          sym (ap (λ b. b || list_any test next.others) first) ∙ sym (ap (list_any test) next.are) ∙ so.2

      pub some_goes : (now new : ReaderState) (v : T) → SomeLeft now → ReadsOn F now new (Some (Ok v)) → test v ≡ false → SomeLeft new
      some_goes now new v left on fails = λ all a.
          let so = left all a in
          let next = next_of now new so.0 v so.1 on in
          let first : test next.first ≡ false = respects next.first v next.same ∙ fails in
          (next.others, next.left, sym (ap (λ b. b || list_any test next.others) first) ∙ sym (ap (list_any test) next.are) ∙ so.2)

    pub some_ends : (now new : ReaderState) → SomeLeft now → ReadsOn F now new None → (all : List T) → AreToCome F start all → false ≡ list_any test all
    some_ends now new left on all a =
        let so = left all a in
        sym (ap (list_any test) (none_to_come now new so.0 so.1 on)) ∙ so.2

    pub some_refused : F.TAKES_MEMORY ≡ false → (now new : ReaderState) (e : Error) → SomeLeft now → ReadsOn F now new (Some (Err e)) → (all : List T) → AreToCome F start all → false ≡ list_any test all
    some_refused free now new e left on all a =
        let so = left all a in
        absurd (never_refused free now new so.0 e so.1 on)

    -- all items pass if and only if all items that are left pass
    abbrev pub AllLeft : ReaderState → Type 0
    AllLeft now = (all : List T) → AreToCome F start all → (items : List T) × AreToCome F now items × (list_all test items ≡ list_all test all)

    pub all_begin : AllLeft start
    all_begin = λ all a. (all, a, refl)

    module _ (respects : (v w : T) → F.encoding v ≡ F.encoding w → test v ≡ test w) where
      pub one_fails : (now new : ReaderState) (v : T) → AllLeft now → ReadsOn F now new (Some (Ok v)) → test v ≡ false → (all : List T) → AreToCome F start all → false ≡ list_all test all
      one_fails now new v left on fails all a =
          let so = left all a in
          let next = next_of now new so.0 v so.1 on in
          let first : test next.first ≡ false = respects next.first v next.same ∙ fails in
          sym (ap (λ b. b && list_all test next.others) first) ∙ sym (ap (list_all test) next.are) ∙ so.2

      pub all_go : (now new : ReaderState) (v : T) → AllLeft now → ReadsOn F now new (Some (Ok v)) → test v ≡ true → AllLeft new
      all_go now new v left on passes = λ all a.
          let so = left all a in
          let next = next_of now new so.0 v so.1 on in
          let first : test next.first ≡ true = respects next.first v next.same ∙ passes in
          (next.others, next.left, sym (ap (λ b. b && list_all test next.others) first) ∙ sym (ap (list_all test) next.are) ∙ so.2)

    pub all_end : (now new : ReaderState) → AllLeft now → ReadsOn F now new None → (all : List T) → AreToCome F start all → true ≡ list_all test all
    all_end now new left on all a =
        let so = left all a in
        sym (ap (list_all test) (none_to_come now new so.0 so.1 on)) ∙ so.2

    pub all_refused : F.TAKES_MEMORY ≡ false → (now new : ReaderState) (e : Error) → AllLeft now → ReadsOn F now new (Some (Err e)) → (all : List T) → AreToCome F start all → false ≡ list_all test all
    all_refused free now new e left on all a =
        let so = left all a in
        absurd (never_refused free now new so.0 e so.1 on)
