-- Octets that are read item by item; the octets of an item are not less than those of the one before.
use Rattle.std.proofs.Common.{◌≡◌, ℕ, suc, ◌+◌, ◌-◌, ◌<◌, ◌≤◌, ◌^◌, List, [], ◌∷◌, ◌++◌, length, take, drop, get_or, true, false, Ok, Err, refl, sym, ap, ◌∙◌, arith, inl, inr, subst, zero-add, add_assoc}
use Rattle.std.specs.List.{concat}
use Rattle.std.specs.List.Sorted.{IsSorted}
use Rattle.std.specs.Ordering.{is_le, is_lt, is_gt}
use Rattle.std.specs.declared.cmp.Ordering.{Ordering}
use Rattle.std.specs.declared.cmp.Ordering.TheVariants.{Less, Equal, Greater}
use Rattle.std.proofs.Math.Seq.{take-add, take-length}
use Rattle.std.proofs.lemmas.List.{length-append, length-take, length-drop, take-append-drop, append-nil}
use Rattle.std.proofs.lemmas.List.Elements.{All-nil, All-cons, All-append}
use Rattle.std.proofs.lemmas.List.Folds.{concat-append}
use Rattle.std.proofs.lemmas.List.Kept.{IsSortedBy-push}
use Rattle.der_tlv.specs.declared.error.ErrorKind.{ErrorKind}
use Rattle.der_tlv.specs.declared.error.ErrorKind.TheVariants.{SetOrdering}
use Rattle.der_tlv.specs.declared.encoding_rules.EncodingRules.TheVariants.{Der}
use Rattle.der_tlv.specs.Octets.{lex}
use Rattle.der_tlv.specs.ReaderState.{ReaderState, IsReaderState, rest, after_read, unless_failed, new_reader}
use Rattle.der_tlv.proofs.ReaderStates.{rest-after_read}
use Rattle.der_elem.specs.declared.form.Form as form
use Rattle.der_elem.specs.Decoding.{Faults, Decoded}
use Rattle.der_nest.specs.Lists.{join_encodings}
use Rattle.der_nest.specs.LexLaws.{not_lt_from_le, le_of}
use Rattle.der_nest.specs.PlacingLaws.{in_order_none}
use Rattle.der_nest.specs.BorrowedSets.{then_in_order, parse_in_order, parse_borrowed_items, parse_borrowed}
use Rattle.der_nest.specs.BorrowedLaws.{last_of, before_all, follow_in_order, parse_in_order-step}
use Rattle.der_lists.specs.SetsInOrder.{IsItem, InOrder, AcceptsInOrder, as_it_stands, parse_standing}
use Rattle.der_lists.specs.SetsInOrderLaws.{few_parts, parts_parsed}

-- empty octets are not greater than others
none_above : (e : List ℕ) → is_gt (lex [] e) ≡ false
none_above [] = refl
none_above (x ∷ e) = refl

pub none_before : (octets : List ℕ) (before start : ℕ) (e : List ℕ) → before ≡ start → is_gt (lex (take (start - before) (drop before octets)) e) ≡ false
none_before octets before start e same =
    let n : start - before ≡ 0 = omega arith in
    ap (λ k. is_gt (lex (take k (drop before octets)) e)) n ∙ none_above e

-- the octets of the items that were read, in order, and those of the last item
pub record InOrderSoFar {T : Type 0} (F : form.Ghosts T) (octets : List ℕ) (now : ReaderState) (last : List ℕ) : Type 0 where
  pub parts : List (List ℕ)
  pub taken : ℕ
  pub after : now ≡ after_read (new_reader octets Der) taken
  pub front : concat parts ≡ take taken octets
  pub items : InOrder F parts
  pub last_is : last_of [] parts ≡ last

pub none_in_order : {T : Type 0} (F : form.Ghosts T) (octets : List ℕ) (now : ReaderState) (last : List ℕ) → now ≡ new_reader octets Der → last ≡ [] → InOrderSoFar F octets now last
none_in_order F octets now last e none = record {
  parts = [];
  taken = 0;
  after = e ∙ ap (λ p. record (new_reader octets Der) { position = p }) (omega arith);
  front = refl;
  items = record { each = All-nil (IsItem F); in_order = in_order_none };
  last_is = sym none;
}

last_of-push : (last : List ℕ) (es : List (List ℕ)) (e : List ℕ) → last_of last (es ++ e ∷ []) ≡ e
last_of-push last [] e = refl
last_of-push last (f ∷ es) e = last_of-push f es e

-- the last of a non-empty list is the one at the last index
last_is_at : (first d : List ℕ) (es : List (List ℕ)) → get_or (first ∷ es) (length es) d ≡ last_of first es
last_is_at first d [] = refl
last_is_at first d (e ∷ es) = last_is_at e d es

push_sorted : (es : List (List ℕ)) (e : List ℕ) → IsSorted lex es → is_le (lex (last_of [] es) e) ≡ true → IsSorted lex (es ++ e ∷ [])
push_sorted es e up le = IsSortedBy-push (λ x y. is_lt (lex x y)) es e up (far es le)
  where
    far : (es : List (List ℕ)) → is_le (lex (last_of [] es) e) ≡ true → (d : List ℕ) → 0 < length es → is_lt (lex e (get_or es (length es - 1) d)) ≡ false
    far [] le d l = absurd (omega arith)
    far (f ∷ es) le d l =
        let n : length (f ∷ es) - 1 ≡ length es = omega arith in
        ap (λ k. is_lt (lex e (get_or (f ∷ es) k d))) n ∙ ap (λ x. is_lt (lex e x)) (last_is_at f d es) ∙ not_lt_from_le (last_of f es) e le

not_le : (o : Ordering) → is_gt o ≡ true → is_le o ≡ false
not_le Less e = cc
not_le Equal e = cc
not_le Greater e = refl

module _ {T : Type 0} {F : form.Ghosts T} {octets : List ℕ} {now : ReaderState} {last : List ℕ} (s : InOrderSoFar F octets now last) where
  pub in_order_rest : rest now ≡ drop s.taken octets
  in_order_rest = ap rest s.after ∙ rest-after_read (new_reader octets Der) s.taken ∙ ap (drop s.taken) (take-length octets)

  pub in_order_position : now.position ≡ s.taken
  in_order_position = ap (λ s. s.position) s.after ∙ zero-add s.taken

  ready : now.failed ≡ false
  ready = ap (λ s. s.failed) s.after

  under_der : now.rules ≡ Der
  under_der = ap (λ s. s.rules) s.after

  whole : octets ≡ concat s.parts ++ rest now
  whole = sym (take-append-drop s.taken octets) ∙ ap (λ c. c ++ drop s.taken octets) (sym s.front) ∙ ap (λ c. concat s.parts ++ c) (sym in_order_rest)

  abbrev more : ℕ
  more = length octets - length s.parts

  seen : (now : ReaderState) → now.failed ≡ false → now.rules ≡ Der → unless_failed (F.parse now.rules) now ≡ F.parse Der now.position (rest now)
  seen now ready rules = rw (ready, rules) refl

  item_read : {new : ReaderState} {v : T} (nonempty : (v : T) (b : List ℕ) → F.accepts Der v b → 0 < length b) → (told : Decoded F now new v) → IsItem F (take told.taken (rest now))
  item_read {new} {v} nonempty told =
      let item : F.accepts Der v (take told.taken (rest now)) = subst (λ r. F.accepts r v (take told.taken (rest now))) under_der told.accepted in
      record { item = v; accepted = item; some = nonempty v (take told.taken (rest now)) item }

  -- the octets between the old and the new position of the reader are the octets of the item
  pub part_is : {new : ReaderState} {v : T} (told : Decoded F now new v) (bytes : List ℕ) (start end : ℕ) → bytes ≡ octets → start ≡ now.position → end ≡ new.position → take (end - start) (drop start bytes) ≡ take told.taken (rest now)
  part_is told bytes start end same from to =
      let n : end - start ≡ told.taken = omega (arith, ap (λ s. s.position) told.after) in
      ap (λ k. take k (drop start bytes)) n ∙ ap (λ b. take told.taken (drop start b)) same ∙ ap (λ k. take told.taken (drop k octets)) (from ∙ in_order_position) ∙ ap (take told.taken) (sym in_order_rest)

  -- fewer octets are left after one more item
  pub smaller_in_order : {new : ReaderState} {v : T} (nonempty : (v : T) (b : List ℕ) → F.accepts Der v b → 0 < length b) → 0 < length (rest now) → Decoded F now new v → length (rest new) < length (rest now)
  smaller_in_order {new} {v} nonempty some told =
      let long = (item_read nonempty told).some in
      omega (arith, length-take told.taken (rest now), ap (λ s. length (rest s)) told.after, ap length (rest-after_read now told.taken), length-drop told.taken (rest now))

  -- one more item is read
  pub one_more_in_order : {new : ReaderState} {v : T} (nonempty : (v : T) (b : List ℕ) → F.accepts Der v b → 0 < length b) → (told : Decoded F now new v) → (part : List ℕ) → part ≡ take told.taken (rest now) → is_gt (lex last part) ≡ false → InOrderSoFar F octets new part
  one_more_in_order {new} {v} nonempty told part is not_above =
      let n = told.taken in
      record {
        parts = s.parts ++ part ∷ [];
        taken = s.taken + n;
        after = told.after ∙ ap (λ s. after_read s n) s.after ∙ ap (λ p. record (new_reader octets Der) { position = p }) (add_assoc 0 s.taken n);
        front = concat-append s.parts (part ∷ []) ∙ ap (λ c. concat s.parts ++ c) (append-nil part ∙ is ∙ ap (take n) in_order_rest) ∙ ap (λ c. c ++ take n (drop s.taken octets)) s.front ∙ sym (take-add s.taken n octets);
        items = record {
          each = All-append (IsItem F) s.parts (part ∷ []) s.items.each (All-cons (IsItem F) part [] (subst (IsItem F) (sym is) (item_read nonempty told)) (All-nil (IsItem F)));
          in_order = push_sorted s.parts part s.items.in_order (ap (λ l. is_le (lex l part)) s.last_is ∙ le_of (lex last part) not_above);
        };
        last_is = last_of-push [] s.parts part;
      }

  module _ (sound : IsReaderState now) where
    fit : length octets < 2 ^ 32
    fit = let e = ap (λ s. length s.input) s.after in let h = sound.short in omega arith

    inside : s.taken ≤ length octets
    inside = let o = sound.ordered in let e = ap (λ s. s.end) s.after in let p = in_order_position in omega arith

    -- the octets are parsed as the items so far and what is left
    all_items : parse_borrowed_items (parse_standing F.parse) octets ≡ before_all s.parts (parse_in_order more (parse_standing F.parse) (last_of [] s.parts) now.position (rest now))
    all_items =
        let few = few_parts F s.parts s.items.each in
        let both = ap length whole ∙ length-append (concat s.parts) (rest now) in
        let count : length octets ≡ length s.parts + more = omega arith in
        let len : 0 + length (concat s.parts) ≡ now.position = let h = inside in let p = in_order_position in omega (arith, ap length s.front, length-take s.taken octets) in
        ap (λ n. parse_in_order n (parse_standing F.parse) [] 0 octets) count
        ∙ ap (parse_in_order (length s.parts + more) (parse_standing F.parse) [] 0) whole
        ∙ parts_parsed F s.parts more [] 0 (rest now) s.items.each (follow_in_order s.parts s.items.in_order) (let h = fit in omega arith)
        ∙ ap (λ p. before_all s.parts (parse_in_order more (parse_standing F.parse) (last_of [] s.parts) p (rest now))) len

    one_left : 0 < length (rest now) → more ≡ suc (more - 1)
    one_left some =
        let few = few_parts F s.parts s.items.each in
        let both = ap length whole ∙ length-append (concat s.parts) (rest now) in
        omega arith

    next_is : 0 < length (rest now) → parse_borrowed_items (parse_standing F.parse) octets ≡ before_all s.parts (then_in_order last (parse_standing F.parse Der now.position (rest now)) (λ n e. parse_in_order (more - 1) (parse_standing F.parse) e (now.position + n) (drop n (rest now))))
    next_is some =
        all_items ∙ ap (before_all s.parts) (ap (λ n. parse_in_order n (parse_standing F.parse) (last_of [] s.parts) now.position (rest now)) (one_left some) ∙ parse_in_order-step (more - 1) (parse_standing F.parse) (last_of [] s.parts) now.position (rest now) some ∙ ap (λ l. then_in_order l (parse_standing F.parse Der now.position (rest now)) (λ n e. parse_in_order (more - 1) (parse_standing F.parse) e (now.position + n) (drop n (rest now)))) s.last_is)

    -- an error of the next item is an error of the octets
    pub in_order_fault : (kind : ErrorKind) → 0 < length (rest now) → Faults F.TAKES_MEMORY F.FAULTS_FIRST (unless_failed (F.parse now.rules) now) kind → Faults F.TAKES_MEMORY false (parse_borrowed (parse_standing F.parse) Der 0 octets) kind
    in_order_fault kind some faults =
        elim faults [
          | inl m ↦ inl (record { kind_is = m.kind_is; takes = m.takes; faultless = λ h. absurd (cc) })
          | inr e ↦
              let first : parse_standing F.parse Der now.position (rest now) ≡ Err kind = ap (as_it_stands (rest now)) (sym (seen now ready under_der) ∙ e) in
              inr (ap join_encodings (next_is some ∙ ap (λ r. before_all s.parts (then_in_order last r (λ n e. parse_in_order (more - 1) (parse_standing F.parse) e (now.position + n) (drop n (rest now))))) first))
        ]

    less_item : {new : ReaderState} {v : T} → 0 < length (rest now) → (told : Decoded F now new v) → (part : List ℕ) → part ≡ take told.taken (rest now) → is_le (lex last part) ≡ false → parse_borrowed_items (parse_standing F.parse) octets ≡ Err SetOrdering
    less_item {new} {v} some told part is less =
        let parsed : parse_standing F.parse Der now.position (rest now) ≡ Ok (told.taken, part) = ap (λ r. as_it_stands (rest now) (F.parse r now.position (rest now))) (sym under_der) ∙ ap (as_it_stands (rest now)) told.parsed ∙ ap (λ b. Ok (told.taken, b)) (sym is) in
        next_is some ∙ ap (λ r. before_all s.parts (then_in_order last r (λ n e. parse_in_order (more - 1) (parse_standing F.parse) e (now.position + n) (drop n (rest now))))) parsed ∙ rw less refl

    -- an item that is less is an error of the octets
    pub order_fault : {new : ReaderState} {v : T} → 0 < length (rest now) → (told : Decoded F now new v) → (part : List ℕ) → part ≡ take told.taken (rest now) → is_gt (lex last part) ≡ true → parse_borrowed (parse_standing F.parse) Der 0 octets ≡ Err SetOrdering
    order_fault {new} {v} some told part is above = ap join_encodings (less_item some told part is (not_le (lex last part) above))

    -- if nothing is left, the octets are those of the items
    pub in_order_accepted : rest now ≡ [] → AcceptsInOrder F s.parts octets
    in_order_accepted none = record { all = whole ∙ ap (λ c. concat s.parts ++ c) none ∙ append-nil (concat s.parts); items = s.items }

-- the items that were read, the last of which begins at an offset
pub record InOrderFrom {T : Type 0} (F : form.Ghosts T) (octets : List ℕ) (now : ReaderState) (before : ℕ) : Type 0 where
  pub read : InOrderSoFar F octets now (take (now.position - before) (drop before octets))
  pub behind : before ≤ now.position

pub none_from : {T : Type 0} (F : form.Ghosts T) (octets : List ℕ) (now : ReaderState) → now ≡ new_reader octets Der → InOrderFrom F octets now 0
none_from F octets now e =
    let n : now.position - 0 ≡ 0 = omega (arith, ap (λ s. s.position) e) in
    record { read = none_in_order F octets now (take (now.position - 0) (drop 0 octets)) e (ap (λ k. take k (drop 0 octets)) n); behind = omega arith }

module _ {T : Type 0} {F : form.Ghosts T} {octets : List ℕ} {now : ReaderState} {before : ℕ} (s : InOrderFrom F octets now before) where
  -- the octets before an offset are those of the last item
  pub last_at : (bytes : List ℕ) (start : ℕ) → bytes ≡ octets → start ≡ now.position → take (start - before) (drop before bytes) ≡ take (now.position - before) (drop before octets)
  last_at bytes start same from = ap (λ k. take (k - before) (drop before bytes)) from ∙ ap (λ b. take (now.position - before) (drop before b)) same

  pub one_more_from : {new : ReaderState} {v : T} (nonempty : (v : T) (b : List ℕ) → F.accepts Der v b → 0 < length b) → (told : Decoded F now new v) → (bytes : List ℕ) (start end : ℕ) → bytes ≡ octets → start ≡ now.position → end ≡ new.position → is_gt (lex (take (start - before) (drop before bytes)) (take (end - start) (drop start bytes))) ≡ false → InOrderFrom F octets new start
  one_more_from {new} {v} nonempty told bytes start end same from to not_above =
      let part = take (end - start) (drop start bytes) in
      let is = part_is s.read told bytes start end same from to in
      let more : InOrderSoFar F octets new part = one_more_in_order s.read nonempty told part is (ap (λ l. is_gt (lex l part)) (sym (last_at bytes start same from)) ∙ not_above) in
      let is_at : part ≡ take (new.position - start) (drop start octets) = ap (λ k. take (k - start) (drop start bytes)) to ∙ ap (λ b. take (new.position - start) (drop start b)) same in
      record { read = subst (InOrderSoFar F octets new) is_at more; behind = omega (arith, ap (λ s. s.position) told.after) }
