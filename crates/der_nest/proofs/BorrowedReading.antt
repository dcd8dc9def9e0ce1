-- Octets that are read item by item, each not smaller than the one before.
use Rattle.std.proofs.Common.{◌≡◌, ℕ, suc, ◌+◌, ◌-◌, ◌<◌, ◌^◌, List, [], ◌∷◌, ◌++◌, length, take, drop, map, get_or, true, false, Option, Some, None, Ok, Err, refl, sym, ap, ◌∙◌, arith, inl, inr, subst}
use Rattle.std.specs.Ordering.{is_le}
use Rattle.std.proofs.Math.Seq.{take-length}
use Rattle.std.proofs.lemmas.List.{length-append, length-take, length-drop, take-append-drop, get_or_push, map_push}
use Rattle.der_tlv.specs.declared.error.ErrorKind.{ErrorKind}
use Rattle.der_tlv.specs.declared.error.ErrorKind.TheVariants.{Memory, SetOrdering}
use Rattle.der_tlv.specs.declared.encoding_rules.EncodingRules.TheVariants.{Der}
use Rattle.der_tlv.specs.Octets.{lex}
use Rattle.der_tlv.specs.ReaderState.{ReaderState, IsReaderState, rest, unless_failed, new_reader}
use Rattle.der_elem.specs.declared.form.Form as form
use Rattle.der_elem.specs.Decoding.{RanOut, Faults, Decoded}
use Rattle.der_nest.specs.Places.{IsInOrder, not_above}
use Rattle.der_nest.specs.PlacingLaws.{in_order_push, in_order_none}
use Rattle.der_nest.specs.BorrowedSets.{OfOctets, AcceptsBorrowed, then_in_order, parse_in_order, parse_borrowed_items}
use Rattle.der_nest.specs.BorrowedLaws.{last_of, before_all, follow_in_order, parse_in_order-items, parse_in_order-step}
use Rattle.der_nest.specs.ReReading.{CannotFollow, CanFollow, encodings_read}
use Rattle.der_nest.proofs.EachReading.{room, same_rules, still_ready}
use Rattle.der_nest.proofs.CountedReading.{CountedSoFar, none_counted, one_more_counted, octets_fit, position_is, taken_inside, rest_is, accepted_front, all_octets, encodings_are}
use Rattle.der_nest.proofs.SetReading.{incomparable_accepted}

-- the last of the items, which was read from octets that fit
abbrev pub EndsIn : {T : Type 0} → form.Ghosts T → List T → Option T → Type 0
EndsIn F items None = items ≡ []
EndsIn {T} F items (Some w) =
    (before : List T) × (b : List ℕ) × (items ≡ before ++ w ∷ []) × F.accepts Der w b × (length b < 2 ^ 32)

-- `count` items were read, in order
pub record BorrowedSoFar {T : Type 0} (F : form.Ghosts T) (octets : List ℕ) (now : ReaderState) (count : ℕ) (last : Option T) : Type 0 where
  pub read : CountedSoFar F octets now count
  pub in_order : IsInOrder F.encoding read.items
  pub ends : EndsIn F read.items last

pub none_borrowed : {T : Type 0} (F : form.Ghosts T) (octets : List ℕ) (now : ReaderState) → now ≡ new_reader octets Der → BorrowedSoFar F octets now 0 None
none_borrowed F octets now e = record { read = none_counted F octets now e; in_order = in_order_none; ends = refl }

last_of-push : (last : List ℕ) (es : List (List ℕ)) (e : List ℕ) → last_of last (es ++ e ∷ []) ≡ e
last_of-push last [] e = refl
last_of-push last (f ∷ es) e = last_of-push f es e

push_in_order : {T : Type 0} (F : form.Ghosts T) (items : List T) (last : Option T) (v : T) → IsInOrder F.encoding items → EndsIn F items last → CanFollow F.encoding last v → IsInOrder F.encoding (items ++ v ∷ [])
push_in_order F items None v up ends can =
    in_order_push F.encoding items v up (λ last some is. absurd (let n = ap length ends in omega arith))
push_in_order F items (Some w) v up ends can =
    in_order_push F.encoding items v up (λ last some is. let n = ap length ends.2 ∙ length-append ends.0 (w ∷ []) in let at : get_or items (length items - 1) last ≡ w = ap (λ xs. get_or xs (length items - 1) last) ends.2 ∙ get_or_push ends.0 w last (length items - 1) (omega arith) in subst (λ x. not_above F.encoding v x ≡ true) (sym (is ∙ at)) can)

module _ {T : Type 0} {F : form.Ghosts T} {octets : List ℕ} {now : ReaderState} {count : ℕ} {last : Option T} (s : BorrowedSoFar F octets now count last) (sound : IsReaderState now) where
  -- the octets are parsed as the items so far and what is left
  all_items : parse_borrowed_items F.parse octets ≡ before_all (map F.encoding s.read.items) (parse_in_order s.read.so_far.more F.parse (last_of [] (map F.encoding s.read.items)) now.position (rest now))
  all_items =
      let l = length-take s.read.so_far.taken octets in
      let h = taken_inside s.read sound in
      let len : 0 + length (take s.read.so_far.taken octets) ≡ now.position = let p = position_is s.read in omega arith in
      ap (λ n. parse_in_order n F.parse [] 0 octets) (sym s.read.so_far.counted)
      ∙ ap (parse_in_order (length s.read.items + s.read.so_far.more) F.parse [] 0) (sym (take-append-drop s.read.so_far.taken octets))
      ∙ parse_in_order-items F s.read.items s.read.so_far.more [] 0 (take s.read.so_far.taken octets) (drop s.read.so_far.taken octets) (accepted_front s.read) (follow_in_order (map F.encoding s.read.items) s.in_order) (let h = octets_fit s.read sound in omega arith)
      ∙ ap (λ p. before_all (map F.encoding s.read.items) (parse_in_order s.read.so_far.more F.parse (last_of [] (map F.encoding s.read.items)) p (drop s.read.so_far.taken octets))) len
      ∙ ap (λ c. before_all (map F.encoding s.read.items) (parse_in_order s.read.so_far.more F.parse (last_of [] (map F.encoding s.read.items)) now.position c)) (sym (rest_is s.read))

  one_left : 0 < length (rest now) → s.read.so_far.more ≡ suc (s.read.so_far.more - 1)
  one_left some =
      let r = room s.read.so_far (omega (arith, ap length (take-length octets))) some in
      let n = s.read.so_far.counted in
      omega arith

  next_is : 0 < length (rest now) → parse_borrowed_items F.parse octets ≡ before_all (map F.encoding s.read.items) (then_in_order (last_of [] (map F.encoding s.read.items)) (F.parse Der now.position (rest now)) (λ n e. parse_in_order (s.read.so_far.more - 1) F.parse e (now.position + n) (drop n (rest now))))
  next_is some =
      all_items ∙ ap (before_all (map F.encoding s.read.items)) (ap (λ n. parse_in_order n F.parse (last_of [] (map F.encoding s.read.items)) now.position (rest now)) (one_left some) ∙ parse_in_order-step (s.read.so_far.more - 1) F.parse (last_of [] (map F.encoding s.read.items)) now.position (rest now) some)

  -- an error of the next item is an error of the set
  pub borrowed_item_fault : (kind : ErrorKind) → 0 < length (rest now) → Faults F.TAKES_MEMORY F.FAULTS_FIRST (unless_failed (F.parse now.rules) now) kind → Faults F.TAKES_MEMORY false (parse_borrowed_items F.parse octets) kind
  borrowed_item_fault kind some faults =
      let there : unless_failed (F.parse now.rules) now ≡ F.parse Der now.position (rest now) = rw (still_ready s.read.so_far refl, same_rules s.read.so_far) refl in
      elim faults [
        | inl m ↦ inl (record { kind_is = m.kind_is; takes = m.takes; faultless = λ h. absurd (cc) })
        | inr e ↦ inr (next_is some ∙ ap (λ r. before_all (map F.encoding s.read.items) (then_in_order (last_of [] (map F.encoding s.read.items)) r (λ n e. parse_in_order (s.read.so_far.more - 1) F.parse e (now.position + n) (drop n (rest now))))) (sym there ∙ e))
      ]

  item_accepted : {new : ReaderState} {v : T} → (told : Decoded F now new v) → F.accepts Der v (take told.taken (rest now))
  item_accepted {new} {v} told = subst (λ r. F.accepts r v (take told.taken (rest now))) (same_rules s.read.so_far) told.accepted

  item_fits : (n : ℕ) → length (take n (rest now)) < 2 ^ 32
  item_fits n = let h = octets_fit s.read sound in omega (arith, length-take n (rest now), ap length (rest_is s.read), length-drop s.read.so_far.taken octets)

  smaller_item : {new : ReaderState} {v : T} → 0 < length (rest now) → (told : Decoded F now new v) → is_le (lex (last_of [] (map F.encoding s.read.items)) (F.encoding v)) ≡ false → parse_borrowed_items F.parse octets ≡ Err SetOrdering
  smaller_item {new} {v} some told less =
      let parsed : F.parse Der now.position (rest now) ≡ Ok (told.taken, F.encoding v) = ap (λ r. F.parse r now.position (rest now)) (sym (same_rules s.read.so_far)) ∙ told.parsed in
      next_is some ∙ ap (λ r. before_all (map F.encoding s.read.items) (then_in_order (last_of [] (map F.encoding s.read.items)) r (λ n e. parse_in_order (s.read.so_far.more - 1) F.parse e (now.position + n) (drop n (rest now))))) parsed ∙ rw less refl

  -- memory ran out
  ran_out : {kind : ErrorKind} → (kind ≡ Memory) × (F.TAKES_MEMORY ≡ true) → RanOut F.TAKES_MEMORY false (parse_borrowed_items F.parse octets) kind
  ran_out m = record { kind_is = m.0; takes = m.1; faultless = λ h. absurd (cc) }

  -- an item that cannot follow is an error of the set
  pub order_fault : {new : ReaderState} {v : T} (kind : ErrorKind) → 0 < length (rest now) → Decoded F now new v → CannotFollow F last v kind → Faults F.TAKES_MEMORY false (parse_borrowed_items F.parse octets) kind
  order_fault {new} {v} kind some told cannot = go last s.ends cannot
    where
      go : (last : Option T) → EndsIn F s.read.items last → CannotFollow F last v kind → Faults F.TAKES_MEMORY false (parse_borrowed_items F.parse octets) kind
      go None ends cannot = absurd cannot
      go (Some w) ends cannot =
          elim cannot [
            | inl why ↦ inl (ran_out (incomparable_accepted F Der w v ends.1 (take told.taken (rest now)) ends.3 (item_accepted told) ends.4 (item_fits told.taken) kind why))
            | inr less ↦
                let last_is : last_of [] (map F.encoding s.read.items) ≡ F.encoding w = ap (λ xs. last_of [] (map F.encoding xs)) ends.2 ∙ ap (last_of []) (map_push F.encoding ends.0 w) ∙ last_of-push [] (map F.encoding ends.0) (F.encoding w) in
                inr (smaller_item some told (ap (λ e. is_le (lex e (F.encoding v))) last_is ∙ less.1) ∙ ap Err (sym less.0))
          ]

  -- one more item is read
  pub one_more_borrowed : {new : ReaderState} {v : T} (nonempty : (v : T) (b : List ℕ) → F.accepts Der v b → 0 < length b) → 0 < length (rest now) → Decoded F now new v → CanFollow F.encoding last v → BorrowedSoFar F octets new (count + 1) (Some v)
  one_more_borrowed {new} {v} nonempty some told can = record {
    read = one_more_counted s.read nonempty some told;
    in_order = push_in_order F s.read.items last v s.in_order s.ends can;
    ends = (s.read.items, take told.taken (rest now), refl, item_accepted told, item_fits told.taken);
  }

  pub borrowed_accepted : rest now ≡ [] → AcceptsBorrowed F (OfOctets (encodings_read count F.parse Der 0 octets)) octets
  borrowed_accepted none = record {
    items = s.read.items;
    accepted = all_octets s.read sound none;
    in_order = s.in_order;
    set_is = ap (λ es. OfOctets es) (encodings_are s.read sound none);
  }
