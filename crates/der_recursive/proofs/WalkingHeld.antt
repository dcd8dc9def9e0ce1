-- The octets that a value holds are checked one after another.
use Rattle.std.proofs.Common.{◌≡◌, ℕ, ◌+◌, ◌<◌, ◌^◌, List, ◌∷◌, ◌++◌, length, take, drop, get_or, Some, None, Ok, sym, ap, ◌∙◌, arith, subst, inr}
use Rattle.std.specs.List.{All}
use Rattle.std.specs.Borrow.{Bor}
use Rattle.std.proofs.lemmas.List.{take-append-drop, take_all, drop_more}
use Rattle.std.proofs.lemmas.List.Elements.{All-nil, All-more}
use Rattle.std.proofs.lemmas.Option.{slice_get_within, get_or_from_slice_get}
use Rattle.der_tlv.specs.declared.error.ErrorKind.{ErrorKind}
use Rattle.der_tlv.specs.declared.encoding_rules.EncodingRules.TheVariants.{Der}
use Rattle.der_tlv.specs.ReaderState.{ReaderState, rest, after_read, after_rewind}
use Rattle.der_elem.specs.declared.form.Form as form
use Rattle.der_elem.specs.Decoding.{Decoded}
use Rattle.der_recursive.specs.Depth.{AreValuesTo}
use Rattle.der_recursive.specs.Held.{HeldRead}
use Rattle.der_recursive.specs.Checking.{NextFault, AreNot}
use Rattle.der_recursive.specs.CheckingNext.{NextChecked}
use Rattle.der_recursive.proofs.SameValues.{same_result}

-- the first octets that the next value holds are values to a depth, and the reader is at the start of the value
pub record HeldSoFar {T : Type 0} (F : form.Ghosts T) (held : T → List (List ℕ)) (n : ℕ) (old now : ReaderState) (index : ℕ) : Type 0 where
  pub same : now ≡ old
  pub few : index < 2 ^ 32
  pub checked : (v : T) (taken : ℕ) → F.parse old.rules old.position (rest old) ≡ Ok (taken, F.encoding v) → All (AreValuesTo F held n) (take index (held v))

pub none_held : {T : Type 0} (F : form.Ghosts T) (held : T → List (List ℕ)) (n : ℕ) (old now : ReaderState) → now ≡ old → HeldSoFar F held n old now 0
none_held F held n old now same = record { same = same; few = omega arith; checked = λ v taken parsed. All-nil (AreValuesTo F held n) }

-- a reader that goes back to the start of a value is as it was
pub rewound : (old now new after : ReaderState) (start taken : ℕ) → now ≡ old → start ≡ old.position → new ≡ after_read now taken → after ≡ after_rewind new start → after ≡ now
rewound old now new after start taken same at_old read back =
    let at_now : start ≡ now.position = at_old ∙ sym (ap (λ s. s.position) same) in
    back ∙ ap (λ s. after_rewind s start) read ∙ ap (after_rewind (after_read now taken)) at_now

module _ {T : Type 0} {F : form.Ghosts T} {held : T → List (List ℕ)} {n : ℕ} {old now new : ReaderState} {index : ℕ} (s : HeldSoFar F held n old now index) where
  decoded_from_old : {v : T} → Decoded F now new v → Decoded F old new v
  decoded_from_old {v} = subst (λ s. Decoded F s new v) s.same

  -- the octets that the value holds are checked so far
  first_checked : {v : T} → Decoded F now new v → All (AreValuesTo F held n) (take index (held v))
  first_checked {v} told = let from_old = decoded_from_old told in s.checked v from_old.taken from_old.parsed

  -- the value holds no more octets
  pub all_held : HeldRead F held index now new None → NextChecked F held n old new
  all_held h =
      let all : take index (held h.value) ≡ held h.value = take_all index (held h.value) h.lends in
      record {
        value = h.value;
        decoded = decoded_from_old h.decoded;
        within = subst (All (AreValuesTo F held n)) all (first_checked h.decoded);
      }

  module _ (octets : Bor (List ℕ)) (h : HeldRead F held index now new (Some octets)) where
    index_inside : index < length (held h.value)
    index_inside = slice_get_within (held h.value) index octets.now h.lends

    octets_are : get_or (held h.value) index octets.now ≡ octets.now
    octets_are = get_or_from_slice_get (held h.value) index octets.now octets.now h.lends

    pub few_more : index + 1 < 2 ^ 32
    few_more = let inside = index_inside in let few = h.few in omega arith

    -- the next octets that it holds are checked, too
    pub one_more_held : (by_encoding : (v w : T) → F.encoding v ≡ F.encoding w → held v ≡ held w) (after : ReaderState) → after ≡ now → AreValuesTo F held n octets.now → HeldSoFar F held n old after (index + 1)
    one_more_held by_encoding after back are = record {
      same = back ∙ s.same;
      few = few_more;
      checked = λ v taken parsed.
          let from_old = decoded_from_old h.decoded in
          let same = same_result (from_old.taken, F.encoding h.value) (taken, F.encoding v) (F.parse old.rules old.position (rest old)) from_old.parsed parsed in
          let holds : held h.value ≡ held v = by_encoding h.value v (ap (λ (q : ℕ × List ℕ). q.1) same) in
          let more = All-more (AreValuesTo F held n) (held h.value) index octets.now index_inside (first_checked h.decoded) (subst (AreValuesTo F held n) (sym octets_are) are) in
          subst (λ all. All (AreValuesTo F held n) (take (index + 1) all)) holds more;
    }

    -- the next octets that it holds have an error
    pub held_fault : (kind : ErrorKind) → old.rules ≡ Der → AreNot F held n octets.now kind → NextFault F held (AreValuesTo F held n) (AreNot F held n) old.position (rest old) kind
    held_fault kind der are_not =
        let from_old = decoded_from_old h.decoded in
        let parts : held h.value ≡ take index (held h.value) ++ octets.now ∷ drop (index + 1) (held h.value) = sym (take-append-drop index (held h.value)) ∙ ap (λ c. take index (held h.value) ++ c) (drop_more (held h.value) index octets.now index_inside ∙ ap (λ x. x ∷ drop (index + 1) (held h.value)) octets_are) in
        inr (record {
          value = h.value;
          part = take from_old.taken (rest old);
          others = drop from_old.taken (rest old);
          octets_are = sym (take-append-drop from_old.taken (rest old));
          accepted = subst (λ r. F.accepts r h.value (take from_old.taken (rest old))) der from_old.accepted;
          holds = record {
            before = take index (held h.value);
            octets = octets.now;
            after = drop (index + 1) (held h.value);
            all_are = parts;
            wanted = first_checked h.decoded;
            faulty = are_not;
          };
        })
