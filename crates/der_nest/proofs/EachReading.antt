-- Items that are read one after another, up to a capacity.
use Rattle.std.proofs.Common.{◌≡◌, ℕ, zero, suc, ◌+◌, ◌-◌, ◌<◌, ◌≤◌, List, [], ◌∷◌, ◌++◌, length, take, drop, map, Bool, false, Result, Ok, Err, refl, sym, ap, ◌∙◌, arith, inl, inr, subst, append_assoc, add_assoc}
use Rattle.std.proofs.Math.Seq.{take-add, take-length}
use Rattle.std.proofs.lemmas.List.{length-append, length-take, length-drop, append-nil, map_push}
use Rattle.der_tlv.specs.declared.error.ErrorKind.{ErrorKind}
use Rattle.der_tlv.specs.declared.error.ErrorKind.TheVariants.{Overlength}
use Rattle.der_tlv.specs.ReaderState.{ReaderState, rest, after_read, unless_failed}
use Rattle.der_tlv.proofs.ReaderStates.{rest-after_read}
use Rattle.der_elem.specs.declared.form.Form as form
use Rattle.der_elem.specs.Decoding.{Faults, Decoded}
use Rattle.der_elem.proofs.ItemReading.{accepts_items-append}
use Rattle.der_nest.specs.Lists.{AcceptsEach, before_others, then_others, one_too_many, parse_each}
use Rattle.der_nest.specs.BorrowedLaws.{before_all, before_all-none}
use Rattle.der_nest.specs.ListLaws.{parse_each-end, parse_each-over, parse_each-step, length-each}

before_all-one : (es : List (List ℕ)) (e : List ℕ) (r : Result (List (List ℕ)) ErrorKind) → before_all es (before_others e r) ≡ before_all (es ++ e ∷ []) r
before_all-one es e (Ok others) = ap Ok (sym (append_assoc es (e ∷ []) others))
before_all-one es e (Err k) = refl

-- the items that were read since the reader was `old`, up to a capacity, and what is left
pub record EachSoFar {T : Type 0} (F : form.Ghosts T) (capacity : ℕ) (old now : ReaderState) (vs : List T) : Type 0 where
  pub more : ℕ
  pub counted : length vs + more ≡ capacity
  pub taken : ℕ
  pub after : now ≡ after_read old taken
  pub accepted : AcceptsEach (F.accepts old.rules) vs (take taken (rest old))
  pub left : parse_each capacity F.parse old.rules old.position (rest old) ≡ before_all (map F.encoding vs) (parse_each more F.parse old.rules now.position (rest now))

pub none_so_far : {T : Type 0} (F : form.Ghosts T) (capacity : ℕ) (s now : ReaderState) → now ≡ s → EachSoFar F capacity s now []
none_so_far F capacity s now e = subst (λ now. EachSoFar F capacity s now []) (sym e) (record {
  more = capacity;
  counted = omega arith;
  taken = 0;
  after = ap (λ p. record s { position = p }) (omega arith);
  accepted = refl;
  left = before_all-none (parse_each capacity F.parse s.rules s.position (rest s));
})

module _ {T : Type 0} {F : form.Ghosts T} {capacity : ℕ} {old now : ReaderState} {vs : List T} (so_far : EachSoFar F capacity old now vs) where
  pub still_ready : old.failed ≡ false → now.failed ≡ false
  still_ready ready = ap (λ s. s.failed) so_far.after ∙ ready

  pub same_rules : now.rules ≡ old.rules
  same_rules = ap (λ s. s.rules) so_far.after

  pub rest_now : rest now ≡ drop so_far.taken (rest old)
  rest_now = ap rest so_far.after ∙ rest-after_read old so_far.taken

  seen_item : old.failed ≡ false → unless_failed (F.parse now.rules) now ≡ F.parse old.rules now.position (rest now)
  seen_item ready = rw (still_ready ready, same_rules) refl

  fault : (kind : ErrorKind) → parse_each so_far.more F.parse old.rules now.position (rest now) ≡ Err kind → parse_each capacity F.parse old.rules old.position (rest old) ≡ Err kind
  fault kind e = so_far.left ∙ ap (before_all (map F.encoding vs)) e

  next_fault : (more : ℕ) (kind : ErrorKind) → 0 < length (rest now) → F.parse old.rules now.position (rest now) ≡ Err kind → parse_each more F.parse old.rules now.position (rest now) ≡ Err kind
  next_fault zero kind some e = parse_each-over F.parse old.rules now.position (rest now) some ∙ ap one_too_many e
  next_fault (suc more) kind some e =
      parse_each-step more F.parse old.rules now.position (rest now) some ∙ ap (λ r. then_others r (λ n. parse_each more F.parse old.rules (now.position + n) (drop n (rest now)))) e

  -- an error of the next item is an error of the list
  pub item_fault : (memory first : Bool) (kind : ErrorKind) → old.failed ≡ false → 0 < length (rest now) → Faults memory first (unless_failed (F.parse now.rules) now) kind → Faults memory false (parse_each capacity F.parse old.rules old.position (rest old)) kind
  item_fault memory first kind ready some faults = elim faults [
    | inl m ↦ inl (record { kind_is = m.kind_is; takes = m.takes; faultless = λ h. absurd (cc) })
    | inr e ↦ inr (fault kind (next_fault so_far.more kind some (sym (seen_item ready) ∙ e)))
  ]

  -- an item too many was read
  pub overlength : {new : ReaderState} {v : T} → length vs ≡ capacity → 0 < length (rest now) → Decoded F now new v → parse_each capacity F.parse old.rules old.position (rest old) ≡ Err Overlength
  overlength full some told =
      let none : so_far.more ≡ 0 = let c = so_far.counted in omega arith in
      let first : F.parse old.rules now.position (rest now) ≡ Ok (told.taken, F.encoding _) = ap (λ r. F.parse r now.position (rest now)) (sym same_rules) ∙ told.parsed in
      fault Overlength (ap (λ n. parse_each n F.parse old.rules now.position (rest now)) none ∙ parse_each-over F.parse old.rules now.position (rest now) some ∙ ap one_too_many first)

  -- the list has space for an item as long as octets are left, if the capacity is at least the number of octets
  pub room : length (rest old) ≤ capacity → 0 < length (rest now) → length vs < capacity
  room wide some =
      let n = length-each (F.accepts old.rules) vs (take so_far.taken (rest old)) so_far.accepted in
      omega (arith, length-take so_far.taken (rest old), length-drop so_far.taken (rest old), ap length rest_now)

  -- one more item is read
  pub one_more : {new : ReaderState} {v : T} (nonempty : (v : T) (b : List ℕ) → F.accepts old.rules v b → 0 < length b) → length vs < capacity → 0 < length (rest now) → Decoded F now new v → EachSoFar F capacity old new (vs ++ v ∷ [])
  one_more {new} {v} nonempty h some told =
      let m : ℕ = so_far.more - 1 in
      let one : so_far.more ≡ suc m = let c = so_far.counted in omega arith in
      let n = told.taken in
      let f = told.after in
      let rest_new : rest new ≡ drop n (rest now) = ap rest f ∙ rest-after_read now n in
      let taken : take (so_far.taken + n) (rest old) ≡ take so_far.taken (rest old) ++ take n (rest now) = take-add so_far.taken n (rest old) ∙ ap (λ c. take so_far.taken (rest old) ++ take n c) (sym rest_now) in
      let encoded : map F.encoding (vs ++ v ∷ []) ≡ map F.encoding vs ++ F.encoding v ∷ [] = map_push F.encoding vs v in
      let item : F.accepts old.rules v (take n (rest now)) = subst (λ r. F.accepts r v (take n (rest now))) same_rules told.accepted in
      let first : F.parse old.rules now.position (rest now) ≡ Ok (n, F.encoding v) = ap (λ r. F.parse r now.position (rest now)) (sym same_rules) ∙ told.parsed in
      record {
        more = m;
        counted = let c = so_far.counted in omega (arith, length-append vs (v ∷ []));
        taken = so_far.taken + n;
        after = f ∙ ap (λ s. after_read s n) so_far.after ∙ ap (λ p. record old { position = p }) (add_assoc old.position so_far.taken n);
        accepted = subst (AcceptsEach (F.accepts old.rules) (vs ++ v ∷ [])) (sym taken) (accepts_items-append (λ v part. F.accepts old.rules v part × (0 < length part)) vs (v ∷ []) (take so_far.taken (rest old)) (take n (rest now)) so_far.accepted (take n (rest now), [], sym (append-nil (take n (rest now))), (item, nonempty v (take n (rest now)) item), refl));
        left =
            so_far.left ∙ ap (before_all (map F.encoding vs)) (ap (λ k. parse_each k F.parse old.rules now.position (rest now)) one ∙ parse_each-step m F.parse old.rules now.position (rest now) some ∙ ap (λ r. then_others r (λ n. parse_each m F.parse old.rules (now.position + n) (drop n (rest now)))) first)
            ∙ before_all-one (map F.encoding vs) (F.encoding v) (parse_each m F.parse old.rules (now.position + n) (drop n (rest now))) ∙ rw (rest_new, f, encoded) refl;
      }

  -- fewer octets are left after one more item
  pub smaller : {new : ReaderState} {v : T} (nonempty : (v : T) (b : List ℕ) → F.accepts old.rules v b → 0 < length b) → 0 < length (rest now) → Decoded F now new v → length (rest new) < length (rest now)
  smaller {new} {v} nonempty some told =
      let n = told.taken in
      let item : F.accepts old.rules v (take n (rest now)) = subst (λ r. F.accepts r v (take n (rest now))) same_rules told.accepted in
      let long = nonempty v (take n (rest now)) item in
      omega (arith, length-take n (rest now), ap (λ s. length (rest s)) told.after, ap length (rest-after_read now n), length-drop n (rest now))

  -- nothing is left
  pub at_end : rest now ≡ [] → parse_each capacity F.parse old.rules old.position (rest old) ≡ Ok (map F.encoding vs)
  at_end none =
      so_far.left ∙ ap (λ c. before_all (map F.encoding vs) (parse_each so_far.more F.parse old.rules now.position c)) none ∙ ap (before_all (map F.encoding vs)) (parse_each-end so_far.more F.parse old.rules now.position) ∙ ap Ok (append-nil (map F.encoding vs))

  pub all_accepted : so_far.taken ≡ length (rest old) → AcceptsEach (F.accepts old.rules) vs (rest old)
  all_accepted e = subst (AcceptsEach (F.accepts old.rules) vs) (ap (λ n. take n (rest old)) e ∙ take-length (rest old)) so_far.accepted
