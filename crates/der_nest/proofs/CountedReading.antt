-- Octets that are read item by item, with a count of the items.
use Rattle.std.proofs.Common.{◌≡◌, ℕ, ◌+◌, ◌<◌, ◌≤◌, ◌^◌, List, [], ◌∷◌, ◌++◌, length, take, drop, map, false, refl, sym, ap, ◌∙◌, arith, subst, zero-add}
use Rattle.std.proofs.Math.Seq.{take-length}
use Rattle.std.proofs.lemmas.List.{length-append, length-take, length-drop, length-map}
use Rattle.der_tlv.specs.declared.error.ErrorKind.{ErrorKind}
use Rattle.der_tlv.specs.declared.encoding_rules.EncodingRules.TheVariants.{Der}
use Rattle.der_tlv.specs.ReaderState.{ReaderState, IsReaderState, rest, unless_failed, new_reader}
use Rattle.der_elem.specs.declared.form.Form as form
use Rattle.der_elem.specs.Decoding.{Faults, Decoded}
use Rattle.der_nest.specs.Lists.{AcceptsEach}
use Rattle.der_nest.specs.ListLaws.{parse_of_each, length-each}
use Rattle.der_nest.specs.ReReading.{encodings_or_none, encodings_read}
use Rattle.der_nest.specs.BorrowedSequences.{parse_all_items, item_encodings, encodings_of_items}
use Rattle.der_nest.proofs.EachReading.{EachSoFar, none_so_far, one_more, room, rest_now, item_fault}
use Rattle.der_nest.proofs.SequenceReading.{sequence_fault}

-- `count` items were read
pub record CountedSoFar {T : Type 0} (F : form.Ghosts T) (octets : List ℕ) (now : ReaderState) (count : ℕ) : Type 0 where
  pub items : List T
  pub so_far : EachSoFar F (length octets) (new_reader octets Der) now items
  pub counted : length items ≡ count

abbrev pub none_counted : {T : Type 0} (F : form.Ghosts T) (octets : List ℕ) (now : ReaderState) → now ≡ new_reader octets Der → CountedSoFar F octets now 0
none_counted F octets now e = record { items = []; so_far = none_so_far F (length octets) (new_reader octets Der) now e; counted = refl }

module _ {T : Type 0} {F : form.Ghosts T} {octets : List ℕ} {now : ReaderState} {count : ℕ} (s : CountedSoFar F octets now count) where
  -- one more item is read
  abbrev pub one_more_counted : {new : ReaderState} {v : T} (nonempty : (v : T) (b : List ℕ) → F.accepts Der v b → 0 < length b) → 0 < length (rest now) → Decoded F now new v → CountedSoFar F octets new (count + 1)
  one_more_counted {new} {v} nonempty some told = record {
    items = s.items ++ v ∷ [];
    so_far = one_more s.so_far nonempty (room s.so_far (omega (arith, ap length (take-length octets))) some) some told;
    counted = let n = s.counted in omega (arith, length-append s.items (v ∷ []));
  }

  -- an error of the next item is an error of the octets
  pub counted_fault : (kind : ErrorKind) → 0 < length (rest now) → Faults F.TAKES_MEMORY F.FAULTS_FIRST (unless_failed (F.parse now.rules) now) kind → Faults F.TAKES_MEMORY false (parse_all_items F.parse Der 0 octets) kind
  counted_fault kind some faults =
      let of_items = item_fault s.so_far F.TAKES_MEMORY F.FAULTS_FIRST kind refl some faults in
      rw (take-length octets) at (sequence_fault F (length octets) (new_reader octets Der) F.TAKES_MEMORY kind refl of_items)

  pub rest_is : rest now ≡ drop s.so_far.taken octets
  rest_is = rest_now s.so_far ∙ ap (drop s.so_far.taken) (take-length octets)

  pub accepted_front : AcceptsEach (F.accepts Der) s.items (take s.so_far.taken octets)
  accepted_front = subst (λ c. AcceptsEach (F.accepts Der) s.items (take s.so_far.taken c)) (take-length octets) s.so_far.accepted

  pub position_is : now.position ≡ s.so_far.taken
  position_is = ap (λ s. s.position) s.so_far.after ∙ zero-add s.so_far.taken

  module _ (sound : IsReaderState now) where
    pub octets_fit : length octets < 2 ^ 32
    octets_fit = let e = ap (λ s. length s.input) s.so_far.after in let h = sound.short in omega arith

    pub taken_inside : s.so_far.taken ≤ length octets
    taken_inside = let o = sound.ordered in let e = ap (λ s. s.end) s.so_far.after in let p = position_is in omega arith

    -- there are no more items than octets
    pub few_items : count < 2 ^ 32
    few_items =
        let n = length-each (F.accepts Der) s.items (take s.so_far.taken octets) accepted_front in
        let c = s.counted in
        let h = octets_fit in
        omega (arith, length-take s.so_far.taken octets)

    -- if nothing is left, the octets are the items
    pub all_octets : rest now ≡ [] → AcceptsEach (F.accepts Der) s.items octets
    all_octets none =
        let n : take s.so_far.taken octets ≡ octets = let d = ap length (sym rest_is ∙ none) in let t : s.so_far.taken ≡ length octets = let h = taken_inside in omega (arith, length-drop s.so_far.taken octets) in ap (λ n. take n octets) t ∙ take-length octets in
        subst (AcceptsEach (F.accepts Der) s.items) n accepted_front

    pub encodings_are : rest now ≡ [] → encodings_read count F.parse Der 0 octets ≡ map F.encoding s.items
    encodings_are none =
        let c = s.counted in
        ap encodings_or_none (parse_of_each F Der s.items count 0 octets (omega arith) (all_octets none) octets_fit)

    pub all_encodings_are : rest now ≡ [] → item_encodings F.parse octets ≡ map F.encoding s.items
    all_encodings_are none = encodings_of_items F s.items octets (all_octets none) octets_fit

    pub all_counted : rest now ≡ [] → length (item_encodings F.parse octets) ≡ count
    all_counted none = ap length (all_encodings_are none) ∙ length-map s.items F.encoding ∙ s.counted
