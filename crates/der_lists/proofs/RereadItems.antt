-- Items that are read again until none is left, and the state of a loop over them.
use Rattle.std.proofs.Common.{◌≡◌, ℕ, suc, ◌+◌, ◌<◌, ◌≤◌, ◌^◌, List, [], ◌∷◌, ◌++◌, length, drop, map, Some, None, Ok, Err, Option, Result, refl, sym, ap, ◌∙◌, arith, append_assoc}
use Rattle.std.specs.List.{All}
use Rattle.std.proofs.lemmas.List.{length-drop, map_push}
use Rattle.std.proofs.lemmas.List.Elements.{All-nil, All-push}
use Rattle.der_tlv.specs.declared.error.Error.{Error}
use Rattle.der_tlv.specs.ReaderState.{ReaderState}
use Rattle.der_elem.specs.declared.form.Form as form
use Rattle.der_nest.proofs.BorrowedOrder.{next_at}
use Rattle.der_lists.specs.ReadingOn.{octets_to_come, encodings_to_come, ComesAt, HasItems, ReadsOn}

module _ {T : Type 0} (F : form.Ghosts T) (start : ReaderState) where
  -- the encodings of the items at the beginning
  abbrev pub all : List (List ℕ)
  all = encodings_to_come F.parse start

  -- `count` items were read, and the others are left
  pub record CountedOn (now : ReaderState) (count : ℕ) : Type 0 where
    pub fits : length (octets_to_come start) < 2 ^ 32
    pub few : count + length (octets_to_come now) ≤ length (octets_to_come start)
    pub items : HasItems F start → (length all ≡ count + length (encodings_to_come F.parse now)) × HasItems F now

  -- these items were read, and the others are left
  pub record ListedOn (now : ReaderState) (vs : List T) : Type 0 where
    pub items : HasItems F start → All F.readable vs × (all ≡ map F.encoding vs ++ encodings_to_come F.parse now) × HasItems F now

  -- `place` items were read, and the others are left
  pub record SkippedOn (now : ReaderState) (place : ℕ) : Type 0 where
    pub items : HasItems F start → (encodings_to_come F.parse now ≡ drop place all) × HasItems F now

  pub none_counted_on : length (octets_to_come start) < 2 ^ 32 → CountedOn start 0
  none_counted_on fits = record { fits = fits; few = omega arith; items = λ has. (omega arith, has) }

  pub none_listed_on : ListedOn start []
  none_listed_on = record { items = λ has. (All-nil F.readable, refl, has) }

  pub none_skipped_on : SkippedOn start 0
  none_skipped_on = record { items = λ has. (refl, has) }

  module _ {now new : ReaderState} where
    pub one_more_counted_on : {count : ℕ} {v : T} → CountedOn now count → ReadsOn F now new (Some (Ok v)) → length (octets_to_come new) < length (octets_to_come now) → CountedOn new (count + 1)
    one_more_counted_on {count} {v} so_far on less =
        let few = so_far.few in
        record {
          fits = so_far.fits;
          few = omega arith;
          items = λ has.
              let before = so_far.items has in
              let told = on.items before.1 in
              let n = before.0 in
              (omega (arith, ap length told.0.1), told.1);
        }

    pub one_more_listed_on : {vs : List T} {v : T} → ListedOn now vs → ReadsOn F now new (Some (Ok v)) → ListedOn new (vs ++ v ∷ [])
    one_more_listed_on {vs} {v} so_far on = record {
      items = λ has.
          let before = so_far.items has in
          let told = on.items before.2 in
          (All-push F.readable vs v before.0 told.0.0, before.1 ∙ ap (λ s. map F.encoding vs ++ s) told.0.1 ∙ sym (append_assoc (map F.encoding vs) (F.encoding v ∷ []) (encodings_to_come F.parse new)) ∙ ap (λ s. s ++ encodings_to_come F.parse new) (sym (map_push F.encoding vs v)), told.1);
    }

    pub one_more_skipped_on : {place : ℕ} {v : T} → SkippedOn now place → ReadsOn F now new (Some (Ok v)) → SkippedOn new (suc place)
    one_more_skipped_on {place} {v} so_far on = record {
      items = λ has.
          let before = so_far.items has in
          let told = on.items before.1 in
          ((next_at all place (F.encoding v) (encodings_to_come F.parse new) (sym before.0 ∙ told.0.1)).0, told.1);
    }

    -- the next item is the one at the index
    pub next_there : {place : ℕ} (r : Option (Result T Error)) → SkippedOn now place → ReadsOn F now new r → HasItems F start → ComesAt F all place r
    next_there {place} None so_far on has =
        let before = so_far.items has in
        let told = (on.items before.1).0 in
        let l = length-drop place all in
        omega (arith, ap length (sym before.0 ∙ told.0))
    next_there {place} (Some (Ok v)) so_far on has =
        let before = so_far.items has in
        let told = (on.items before.1).0 in
        (told.0, (next_at all place (F.encoding v) (encodings_to_come F.parse new) (sym before.0 ∙ told.1)).1)
    next_there {place} (Some (Err e)) so_far on has =
        let before = so_far.items has in
        let told = (on.items before.1).0 in
        (told.0, told.1)
