-- Items that are read one after another until nothing is left.
use Rattle.std.proofs.Common.{◌≡◌, ℕ, suc, ◌<◌, ◌^◌, List, [], ◌∷◌, ◌++◌, length, drop, take, map, Bool, true, false, Some, None, Result, Ok, Err, refl, sym, ap, ◌∙◌, arith, subst, inl, inr, if◌then◌else◌}
use Rattle.std.specs.List.{All, concat}
use Rattle.std.proofs.lemmas.List.{length-drop, length-take}
use Rattle.std.proofs.lemmas.List.Elements.{All-head, All-tail}
use Rattle.std.proofs.Math.Seq.{take-length, drop-append_seam}
use Rattle.der_tlv.specs.declared.error.Error.{Error}
use Rattle.der_tlv.specs.declared.error.ErrorKind.{ErrorKind}
use Rattle.der_tlv.specs.declared.error.ErrorKind.TheVariants.{Memory}
use Rattle.der_tlv.specs.declared.encoding_rules.EncodingRules.TheVariants.{Der}
use Rattle.der_tlv.specs.ReaderState.{ReaderState, rest, new_reader}
use Rattle.der_tlv.proofs.ReaderStates.{rest-after_read}
use Rattle.der_elem.specs.declared.form.Form as form
use Rattle.der_elem.specs.Decoding.{Decoded, NotDecoded, Decodes}
use Rattle.der_elem.specs.ItemLaws.{first_fits}
use Rattle.der_nest.specs.Lists.{AcceptsEach}
use Rattle.der_nest.specs.ListLaws.{parse_of_each, length-each, parse_each-end}
use Rattle.der_nest.specs.KeptFormat.{AreContentsOf}
use Rattle.der_nest.specs.BorrowedSequences.{items_format, item_encodings}
use Rattle.der_lists.specs.SetsInOrder.{IsItem}
use Rattle.der_lists.specs.SetFormat.{set_format}
use Rattle.der_nest.specs.ReReading.{ReReads, encodings_or_none, encodings_read, encodings_left}
use Rattle.der_lists.specs.ReadingOn.{octets_to_come, encodings_to_come, HasItems, ReadsOn}

-- a new reader has the items that its octets are
pub items_of_new : {T : Type 0} (F : form.Ghosts T) (octets : List ℕ) → AreContentsOf (items_format F) octets → HasItems F (new_reader octets Der)
items_of_new F octets a = λ ready. (a.value, subst (AcceptsEach (F.accepts Der) a.value) (sym (take-length octets)) a.accepted)

pub encodings_of_new : {T : Type 0} (F : form.Ghosts T) (octets : List ℕ) → encodings_to_come F.parse (new_reader octets Der) ≡ item_encodings F.parse octets
encodings_of_new F octets = ap (λ c. encodings_read (length c) F.parse Der 0 c) (take-length octets)

items_of_parts : {T : Type 0} (F : form.Ghosts T) (parts : List (List ℕ)) → All (IsItem F) parts → (vs : List T) × AcceptsEach (F.accepts Der) vs (concat parts)
items_of_parts F [] each = ([], refl)
items_of_parts F (part ∷ parts) each =
    let one = All-head (IsItem F) part parts each in
    let others = items_of_parts F parts (All-tail (IsItem F) part parts each) in
    (one.item ∷ others.0, (part, concat parts, refl, (one.accepted, one.some), others.1))

-- a new reader has the items that the octets of a set are
pub items_of_new_set : {T : Type 0} (F : form.Ghosts T) (octets : List ℕ) → AreContentsOf (set_format F) octets → HasItems F (new_reader octets Der)
items_of_new_set F octets a = λ ready.
    let are = items_of_parts F a.value a.accepted.items.each in
    (are.0, subst (AcceptsEach (F.accepts Der) are.0) (sym (take-length octets ∙ a.accepted.all)) are.1)

same_item : (x y : ℕ × List ℕ) (r : Result (ℕ × List ℕ) ErrorKind) → r ≡ Ok x → r ≡ Ok y → x ≡ y
same_item x y r e f = cc

module _ {T : Type 0} (F : form.Ghosts T) where
  -- the items that are left have the encodings that are to come
  come : (s : ReaderState) → s.failed ≡ false → length (rest s) < 2 ^ 32 → (vs : List T) → AcceptsEach (F.accepts s.rules) vs (rest s) → encodings_to_come F.parse s ≡ map F.encoding vs
  come s ready fits vs a =
      rw ready (ap encodings_or_none (parse_of_each F s.rules vs (length (rest s)) s.position (rest s) (length-each (F.accepts s.rules) vs (rest s) a) a fits))

  none_come : (s : ReaderState) → octets_to_come s ≡ [] → encodings_to_come F.parse s ≡ []
  none_come s none = go s.failed none
    where
      go : (failed : Bool) → (if failed then [] else rest s) ≡ [] → (if failed then [] else encodings_left (length (rest s)) F.parse s) ≡ []
      go true none = refl
      go false none = ap (λ c. encodings_read (length c) F.parse s.rules s.position c) none ∙ ap encodings_or_none (parse_each-end 0 F.parse s.rules s.position)

  pub over_failed : (s : ReaderState) → s.failed ≡ true → octets_to_come s ≡ []
  over_failed s failed = rw failed refl

  pub over_finished : (s : ReaderState) → rest s ≡ [] → octets_to_come s ≡ []
  over_finished s none = go s.failed
    where
      go : (failed : Bool) → (if failed then [] else rest s) ≡ []
      go true = refl
      go false = none

  -- nothing is left
  pub ends : (s : ReaderState) → octets_to_come s ≡ [] → ReadsOn F s s None
  ends s none = record { next = (none, refl); items = λ has. ((none_come s none, none_come s none), has) }

  pub still_some : (s : ReaderState) → s.failed ≡ false → 0 < length (rest s) → 0 < length (octets_to_come s)
  still_some s ready some = rw ready some

  module _ (old new : ReaderState) (ready : old.failed ≡ false) (some : 0 < length (rest old)) (fits : length (rest old) < 2 ^ 32) where
    -- the first of the items that are left
    record First (vs : List T) : Type 0 where
      item : T
      others : List T
      part : List ℕ
      left : List ℕ
      is : vs ≡ item ∷ others
      parts : rest old ≡ part ++ left
      accepted : AcceptsEach (F.accepts old.rules) others left
      parsed : F.parse old.rules old.position (rest old) ≡ Ok (length part, F.encoding item)
      behind : drop (length part) (rest old) ≡ left

    first : (vs : List T) → AcceptsEach (F.accepts old.rules) vs (rest old) → First vs
    first [] e = absurd (let n = ap length e in omega arith)
    first (w ∷ ws) ([], d, e, a, others) = let h = a.1 in absurd (omega arith)
    first (w ∷ ws) (y ∷ b, d, e, a, others) = record {
      item = w;
      others = ws;
      part = y ∷ b;
      left = d;
      is = refl;
      parts = e;
      accepted = others;
      parsed = ap (F.parse old.rules old.position) e ∙ F.parse_of_accepted old.rules w old.position (y ∷ b) d a.0 (first_fits (rest old) (y ∷ b) d e fits) tt;
      behind = ap (drop (suc (length b))) e ∙ drop-append_seam b d;
    }

    -- an item
    pub comes : (v : T) → Decoded F old new v → ReadsOn F old new (Some (Ok v))
    comes v told = record { next = (still_some old ready some, told); items = λ has. go (has ready).0 (has ready).1 }
      where
        go : (vs : List T) → AcceptsEach (F.accepts old.rules) vs (rest old) → ReReads F (encodings_to_come F.parse old) (encodings_to_come F.parse new) (Some (Ok v)) × HasItems F new
        go vs a =
            let one = first vs a in
            let same = same_item (length one.part, F.encoding one.item) (told.taken, F.encoding v) (F.parse old.rules old.position (rest old)) one.parsed told.parsed in
            let taken : length one.part ≡ told.taken = ap (λ (q : ℕ × List ℕ). q.0) same in
            let encoding : F.encoding one.item ≡ F.encoding v = ap (λ (q : ℕ × List ℕ). q.1) same in
            let behind : rest new ≡ drop told.taken (rest old) = ap rest told.after ∙ rest-after_read old told.taken in
            let left : rest new ≡ one.left = behind ∙ ap (λ n. drop n (rest old)) (sym taken) ∙ one.behind in
            let rules : new.rules ≡ old.rules = ap (λ s. s.rules) told.after in
            let still : new.failed ≡ false = ap (λ s. s.failed) told.after ∙ ready in
            let others : AcceptsEach (F.accepts new.rules) one.others (rest new) = subst (λ r. AcceptsEach (F.accepts r) one.others (rest new)) (sym rules) (subst (AcceptsEach (F.accepts old.rules) one.others) (sym left) one.accepted) in
            let fits_new : length (rest new) < 2 ^ 32 = omega (arith, ap length behind, length-drop told.taken (rest old)) in
            ((F.only_readable old.rules v (take told.taken (rest old)) told.accepted, come old ready fits vs a ∙ ap (map F.encoding) one.is ∙ ap (λ e. e ∷ map F.encoding one.others) encoding ∙ ap (λ es. F.encoding v ∷ es) (sym (come new still fits_new one.others others))), λ ready. (one.others, others))

    -- an error
    pub refuses : (e : Error) → NotDecoded F old new e.kind → ReadsOn F old new (Some (Err e))
    refuses e told = record { next = (still_some old ready some, told); items = λ has. go (has ready).0 (has ready).1 }
      where
        gone : encodings_to_come F.parse new ≡ []
        gone = rw (told.reader.failed) refl

        go : (vs : List T) → AcceptsEach (F.accepts old.rules) vs (rest old) → ReReads F (encodings_to_come F.parse old) (encodings_to_come F.parse new) (Some (Err e)) × HasItems F new
        go vs a =
            let one = first vs a in
            let come_old : encodings_to_come F.parse old ≡ F.encoding one.item ∷ map F.encoding one.others = come old ready fits vs a ∙ ap (map F.encoding) one.is in
            let why : (e.kind ≡ Memory) × (F.TAKES_MEMORY ≡ true) = elim told.reason [
              | inl m ↦ (m.kind_is, m.takes)
              | inr f ↦ let fault : F.parse old.rules old.position (rest old) ≡ Err e.kind = rw ready at f in absurd (let same = sym one.parsed ∙ fault in cc)
            ] in
            ((why.0, why.1, omega (arith, ap length come_old), gone), λ still. absurd (let failed = told.reader.failed in cc))

    -- the result of reading an item
    pub reads : (r : Result T Error) → Decodes F old new r → ReadsOn F old new (Some r)
    reads (Ok v) told = comes v told
    reads (Err e) told = refuses e told

    -- fewer octets are left after it
    pub less_to_come : (nonempty : (v : T) (b : List ℕ) → F.accepts old.rules v b → 0 < length b) (r : Result T Error) → Decodes F old new r → length (octets_to_come new) < length (octets_to_come old)
    less_to_come nonempty (Ok v) told =
        let long = nonempty v (take told.taken (rest old)) told.accepted in
        let before : octets_to_come old ≡ rest old = rw ready refl in
        let still : new.failed ≡ false = ap (λ s. s.failed) told.after ∙ ready in
        let after : octets_to_come new ≡ rest new = rw still refl in
        omega (arith, ap length before, ap length after, length-take told.taken (rest old), ap (λ s. length (rest s)) told.after, ap length (rest-after_read old told.taken), length-drop told.taken (rest old))
    less_to_come nonempty (Err e) told =
        let after : octets_to_come new ≡ [] = rw (told.reader.failed) refl in
        let before = still_some old ready some in
        omega (arith, ap length after)
