-- Items that are read one after another.
use Rattle.std.proofs.Common.{◌≡◌, ℕ, ◌+◌, ◌<◌, List, [], ◌∷◌, ◌++◌, length, take, drop, Bool, true, false, Result, Ok, Err, refl, sym, ap, ◌∙◌, arith, flat_map, inl, inr, subst, append_assoc, add_assoc, IsTrue, ◌↔◌}
use Rattle.std.proofs.Math.Seq.{take-add, take-length}
use Rattle.std.proofs.lemmas.List.{flat_map_more, length-take, length-drop, append-nil}
use Rattle.der_tlv.specs.declared.error.ErrorKind.{ErrorKind}
use Rattle.der_tlv.specs.ReaderState.{ReaderState, IsReaderState, rest, after_read, unless_failed}
use Rattle.der_tlv.proofs.ReaderStates.{rest-after_read, length-rest}
use Rattle.der_elem.specs.declared.form.Form as form
use Rattle.der_elem.specs.Decoding.{Faults, Decoded}
use Rattle.der_elem.specs.Items.{AcceptsItems, join_items, then_items, parse_items}
use Rattle.der_elem.specs.ItemLaws.{parse_items-end, parse_items-step, parse_items-more}

-- the items that were read since the state of the reader was `old`, and the octets that are left
pub record ItemsSoFar {T : Type 0} (F : form.Ghosts T) (old now : ReaderState) (vs : List T) : Type 0 where
  pub taken : ℕ
  pub after : now ≡ after_read old taken
  pub accepted : AcceptsItems (F.accepts old.rules) vs (take taken (rest old))
  pub left : parse_items F.parse old.rules old.position (rest old) ≡ join_items (flat_map F.encoding vs) (parse_items F.parse old.rules now.position (rest now))

pub accepts_items-append : {T : Type 0} (accepts : T → List ℕ → Type 0) (vs ws : List T) (a b : List ℕ) → AcceptsItems accepts vs a → AcceptsItems accepts ws b → AcceptsItems accepts (vs ++ ws) (a ++ b)
accepts_items-append accepts [] ws a b e r = subst (λ a. AcceptsItems accepts ws (a ++ b)) (sym e) r
accepts_items-append accepts (v ∷ vs) ws a b (x, y, e, r, others) s =
    (x, y ++ b, ap (λ a. a ++ b) e ∙ append_assoc x y b, r, accepts_items-append accepts vs ws y b others s)

pub join_items-join : (a b : List ℕ) (r : Result (List ℕ) ErrorKind) → join_items a (join_items b r) ≡ join_items (a ++ b) r
join_items-join a b (Ok c) = ap Ok (sym (append_assoc a b c))
join_items-join a b (Err k) = refl

pub join_items-none : (r : Result (List ℕ) ErrorKind) → r ≡ join_items [] r
join_items-none (Ok c) = refl
join_items-none (Err k) = refl

pub no_items : {T : Type 0} (F : form.Ghosts T) (s : ReaderState) → ItemsSoFar F s s []
no_items F s = record {
  taken = 0;
  after = ap (λ p. record s { position = p }) (omega arith);
  accepted = refl;
  left = join_items-none (parse_items F.parse s.rules s.position (rest s));
}

pub more_left : (c : List ℕ) (finished : Bool) → IsTrue finished ↔ (c ≡ []) → finished ≡ false → 0 < length c
more_left [] finished h e = let t = h.1 refl in absurd (cc)
more_left (x ∷ c) finished h e = omega arith

module _ {T : Type 0} {F : form.Ghosts T} {old now : ReaderState} {vs : List T} (so_far : ItemsSoFar F old now vs) where
  pub still_ready : old.failed ≡ false → now.failed ≡ false
  still_ready ready = ap (λ s. s.failed) so_far.after ∙ ready

  pub same_rules : now.rules ≡ old.rules
  same_rules = ap (λ s. s.rules) so_far.after

  rest_now : rest now ≡ drop so_far.taken (rest old)
  rest_now = ap rest so_far.after ∙ rest-after_read old so_far.taken

  -- an error in the next item is an error of the list
  pub items_fault : old.failed ≡ false → 0 < length (rest now) → (memory first : Bool) (kind : ErrorKind) → Faults memory first (unless_failed (F.parse now.rules) now) kind → Faults true false (unless_failed (parse_items F.parse old.rules) old) kind
  items_fault ready some memory first kind faults =
      let seen_items : unless_failed (parse_items F.parse old.rules) old ≡ parse_items F.parse old.rules old.position (rest old) = rw ready refl in
      let seen_item : unless_failed (F.parse now.rules) now ≡ F.parse old.rules now.position (rest now) = rw (still_ready ready, same_rules) refl in
      elim faults [
        | inl m ↦ inl (record { kind_is = m.kind_is; takes = refl; faultless = λ h. absurd (cc) })
        | inr e ↦ inr (seen_items ∙ so_far.left ∙ ap (join_items (flat_map F.encoding vs)) (parse_items-step F.parse old.rules now.position (rest now) some ∙ ap (λ r. then_items r (λ n. parse_items F.parse old.rules (now.position + n) (drop n (rest now)))) (sym seen_item ∙ e)))
      ]

  -- with one more item
  pub items_more : {new : ReaderState} {v : T} (nonempty : (v : T) (b : List ℕ) → F.accepts now.rules v b → 0 < length b) → 0 < length (rest now) → Decoded F now new v → ItemsSoFar F old new (vs ++ v ∷ [])
  items_more {new} {v} nonempty some told =
      let n = told.taken in
      let f = told.after in
      let rest_new : rest new ≡ drop n (rest now) = ap rest f ∙ rest-after_read now n in
      let long = nonempty v (take n (rest now)) told.accepted in
      let some_taken : 0 < n = omega (arith, length-take n (rest now)) in
      let taken : take (so_far.taken + n) (rest old) ≡ take so_far.taken (rest old) ++ take n (rest now) = take-add so_far.taken n (rest old) ∙ ap (λ c. take so_far.taken (rest old) ++ take n c) (sym rest_now) in
      let encoded : flat_map F.encoding (vs ++ v ∷ []) ≡ flat_map F.encoding vs ++ F.encoding v = sym (flat_map_more F.encoding [] vs v) in
      let item : F.accepts old.rules v (take n (rest now)) = subst (λ r. F.accepts r v (take n (rest now))) same_rules told.accepted in
      let first : F.parse old.rules now.position (rest now) ≡ Ok (n, F.encoding v) = ap (λ r. F.parse r now.position (rest now)) (sym same_rules) ∙ told.parsed in
      record {
        taken = so_far.taken + n;
        after = f ∙ ap (λ s. after_read s n) so_far.after ∙ ap (λ p. record old { position = p }) (add_assoc old.position so_far.taken n);
        accepted = subst (AcceptsItems (F.accepts old.rules) (vs ++ v ∷ [])) (sym taken) (accepts_items-append (F.accepts old.rules) vs (v ∷ []) (take so_far.taken (rest old)) (take n (rest now)) so_far.accepted (take n (rest now), [], sym (append-nil (take n (rest now))), item, refl));
        left =
            so_far.left ∙ ap (join_items (flat_map F.encoding vs)) (parse_items-more F.parse old.rules now.position n (rest now) (F.encoding v) some some_taken first)
            ∙ join_items-join (flat_map F.encoding vs) (F.encoding v) (parse_items F.parse old.rules (now.position + n) (drop n (rest now))) ∙ rw (rest_new, f, encoded) refl;
      }

  pub items_smaller : {new : ReaderState} {v : T} (nonempty : (v : T) (b : List ℕ) → F.accepts now.rules v b → 0 < length b) → 0 < length (rest now) → Decoded F now new v → length (rest new) < length (rest now)
  items_smaller {new} {v} nonempty some told =
      let n = told.taken in
      let long = nonempty v (take n (rest now)) told.accepted in
      omega (arith, length-take n (rest now), ap (λ s. length (rest s)) told.after, ap length (rest-after_read now n), length-drop n (rest now))

  -- no octet is left
  pub items_end : old.failed ≡ false → rest now ≡ [] → parse_items F.parse old.rules old.position (rest old) ≡ Ok (flat_map F.encoding vs)
  items_end ready none = so_far.left ∙ ap (λ c. join_items (flat_map F.encoding vs) (parse_items F.parse old.rules now.position c)) none ∙ ap (join_items (flat_map F.encoding vs)) (parse_items-end F.parse old.rules now.position) ∙ ap Ok (append-nil (flat_map F.encoding vs))

  pub items_accepted : so_far.taken ≡ length (rest old) → AcceptsItems (F.accepts old.rules) vs (rest old)
  items_accepted e = subst (AcceptsItems (F.accepts old.rules) vs) (ap (λ n. take n (rest old)) e ∙ take-length (rest old)) so_far.accepted

-- if no octet is left, all the octets were taken
pub all_taken : (old now : ReaderState) (n : ℕ) → IsReaderState old → IsReaderState now → now ≡ after_read old n → rest now ≡ [] → n ≡ length (rest old)
all_taken old now n sound sound' after none =
    let l = length-rest old sound in
    let m = length-rest now sound' in
    omega (arith, ap length none, ap (λ s. s.position) after, ap (λ s. s.end) after)
