-- Values that are read one after another, and the octets that each holds.
use Rattle.std.proofs.Common.{◌≡◌, ℕ, suc, ◌<◌, List, [], ◌∷◌, ◌++◌, length, take, drop, false, refl, sym, ap, ◌∙◌, arith, subst}
use Rattle.std.specs.List.{All}
use Rattle.std.proofs.Math.Seq.{take-length}
use Rattle.std.proofs.lemmas.List.{length-take, length-drop, take-append-drop}
use Rattle.std.proofs.lemmas.List.Elements.{All-nil, All-push}
use Rattle.der_tlv.specs.declared.error.ErrorKind.{ErrorKind}
use Rattle.der_tlv.specs.declared.encoding_rules.EncodingRules.TheVariants.{Der}
use Rattle.der_tlv.specs.ReaderState.{ReaderState, IsReaderState, rest, new_reader}
use Rattle.der_tlv.proofs.ReaderStates.{rest-after_read}
use Rattle.der_elem.specs.declared.form.Form as form
use Rattle.der_elem.specs.Accepting.{Fits}
use Rattle.der_elem.specs.Items.{AcceptsItems}
use Rattle.der_elem.proofs.ItemReading.{ItemsSoFar, no_items, items_more, items_smaller, items_accepted, all_taken, still_ready, same_rules}
use Rattle.der_recursive.specs.Depth.{AreValuesTo}
use Rattle.der_recursive.specs.Checking.{NextFault, AreNot}
use Rattle.der_recursive.specs.CheckingNext.{NextChecked}
use Rattle.der_recursive.proofs.Faults.{fault_behind}

-- the values so far, and the octets that they hold are values to a depth
pub record WalkedSoFar {T : Type 0} (F : form.Ghosts T) (held : T → List (List ℕ)) (n : ℕ) (octets : List ℕ) (now : ReaderState) : Type 0 where
  pub values : List T
  pub so_far : ItemsSoFar F (new_reader octets Der) now values
  pub within : All (λ v. All (AreValuesTo F held n) (held v)) values

new_is_sound : (octets : List ℕ) → Fits octets → IsReaderState (new_reader octets Der)
new_is_sound octets fits = record { ordered = omega arith; inside = omega arith; short = fits }

pub none_walked : {T : Type 0} (F : form.Ghosts T) (held : T → List (List ℕ)) (n : ℕ) (octets : List ℕ) (now : ReaderState) → now ≡ new_reader octets Der → WalkedSoFar F held n octets now
none_walked F held n octets now e = subst (WalkedSoFar F held n octets) (sym e) (record {
  values = [];
  so_far = no_items F (new_reader octets Der);
  within = All-nil (λ v. All (AreValuesTo F held n) (held v));
})

module _ {T : Type 0} {F : form.Ghosts T} {held : T → List (List ℕ)} {n : ℕ} {octets : List ℕ} {now : ReaderState} (s : WalkedSoFar F held n octets now) where
  pub walk_is_ready : now.failed ≡ false
  walk_is_ready = still_ready s.so_far refl

  pub walk_has_rules : now.rules ≡ Der
  walk_has_rules = same_rules s.so_far

  old_rest : rest (new_reader octets Der) ≡ octets
  old_rest = take-length octets

  rest_is : rest now ≡ drop s.so_far.taken octets
  rest_is = ap rest s.so_far.after ∙ rest-after_read (new_reader octets Der) s.so_far.taken ∙ ap (drop s.so_far.taken) old_rest

  module _ (sound : IsReaderState now) where
    octets_fit : Fits octets
    octets_fit = let e = ap (λ s. length s.input) s.so_far.after in let h = sound.short in omega arith

    -- no octets are left
    pub all_walked : rest now ≡ [] → AreValuesTo F held (suc n) octets
    unfolding AreValuesTo
    all_walked none = record {
      values = s.values;
      fits = octets_fit;
      accepted = subst (AcceptsItems (F.accepts Der) s.values) old_rest (items_accepted s.so_far (all_taken (new_reader octets Der) now s.so_far.taken (new_is_sound octets octets_fit) sound s.so_far.after none));
      within = s.within;
    }

  module _ (nonempty : (v : T) (b : List ℕ) → F.accepts Der v b → 0 < length b) (some : 0 < length (rest now)) where
    nonempty_now : (v : T) (b : List ℕ) → F.accepts now.rules v b → 0 < length b
    nonempty_now = subst (λ r. (v : T) (b : List ℕ) → F.accepts r v b → 0 < length b) (sym walk_has_rules) nonempty

    -- the values so far and the next value
    pub one_more_walked : {new : ReaderState} → NextChecked F held n now new → WalkedSoFar F held n octets new
    one_more_walked {new} next = record {
      values = s.values ++ next.value ∷ [];
      so_far = items_more s.so_far nonempty_now some next.decoded;
      within = All-push (λ v. All (AreValuesTo F held n) (held v)) s.values next.value s.within next.within;
    }

    pub less_to_walk : {new : ReaderState} → NextChecked F held n now new → length (rest new) < length (rest now)
    less_to_walk {new} next = items_smaller s.so_far nonempty_now some next.decoded

    -- an error of the next value is an error of the octets
    pub fault_of_next : (sound : IsReaderState now) (by_encoding : (v w : T) → F.encoding v ≡ F.encoding w → held v ≡ held w) (kind : ErrorKind) → NextFault F held (AreValuesTo F held n) (AreNot F held n) now.position (rest now) kind → AreNot F held (suc n) octets kind
    fault_of_next sound by_encoding kind next =
        let taken = s.so_far.taken in
        let left : 0 < length (drop taken octets) = subst (λ c. 0 < length c) rest_is some in
        let position : now.position ≡ length (take taken octets) = let p = ap (λ s. s.position) s.so_far.after in omega (arith, length-take taken octets, length-drop taken octets) in
        fault_behind F held nonempty by_encoding n octets kind (record {
          values = s.values;
          front = take taken octets;
          left = drop taken octets;
          octets_are = sym (take-append-drop taken octets);
          fits = octets_fit sound;
          some = left;
          accepted = subst (λ c. AcceptsItems (F.accepts Der) s.values (take taken c)) old_rest s.so_far.accepted;
          within = s.within;
          next = subst (λ p. NextFault F held (AreValuesTo F held n) (AreNot F held n) p (drop taken octets) kind) position (subst (λ c. NextFault F held (AreValuesTo F held n) (AreNot F held n) now.position c kind) rest_is next);
        })
