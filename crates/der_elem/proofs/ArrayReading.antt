-- A fixed number of items that are read one after another.
use Rattle.std.proofs.Common.{◌≡◌, ℕ, zero, suc, ◌+◌, ◌-◌, ◌<◌, List, [], ◌∷◌, ◌++◌, length, take, drop, false, Ok, Err, refl, sym, ap, ◌∙◌, arith, flat_map, inl, inr, subst, add_assoc, add-one}
use Rattle.std.proofs.Math.Seq.{take-add, take-length, take-suc-set}
use Rattle.std.proofs.Math.ListN.{replicate, set}
use Rattle.std.proofs.lemmas.List.{flat_map_more, length-append, append-nil}
use Rattle.der_tlv.specs.declared.error.ErrorKind.{ErrorKind}
use Rattle.der_tlv.specs.ReaderState.{ReaderState, rest, after_read, unless_failed}
use Rattle.der_elem.specs.declared.form.Form as form
use Rattle.der_elem.specs.Decoding.{Faults}
use Rattle.der_elem.specs.Items.{AcceptsItems, join_items}
use Rattle.der_elem.specs.Arrays.{then_item, too_many, parse_array}
use Rattle.der_elem.specs.ArrayLaws.{parse_array-end, parse_array-short, parse_array-over, parse_array-step}
use Rattle.der_elem.specs.ReadingArrays.{ItemDecoded, NoItem, ItemTooMany}
use Rattle.der_tlv.proofs.ReaderStates.{rest-after_read}
use Rattle.der_elem.proofs.ItemReading.{accepts_items-append, join_items-join, join_items-none}

-- the items that were read since the state of the reader was `old`, out of `count` items, and the octets that are left
pub record ArraySoFar {T : Type 0} (F : form.Ghosts T) (count : ℕ) (old now : ReaderState) (vs : List T) : Type 0 where
  pub more : ℕ
  pub counted : length vs + more ≡ count
  pub taken : ℕ
  pub after : now ≡ after_read old taken
  pub accepted : AcceptsItems (λ v part. F.accepts old.rules v part × (0 < length part)) vs (take taken (rest old))
  pub left : parse_array count F.parse old.rules old.position (rest old) ≡ join_items (flat_map F.encoding vs) (parse_array more F.parse old.rules now.position (rest now))

pub no_items : {T : Type 0} (F : form.Ghosts T) (count : ℕ) (s now : ReaderState) → now ≡ s → ArraySoFar F count s now []
no_items F count s now e = subst (λ now. ArraySoFar F count s now []) (sym e) (record {
  more = count;
  counted = omega arith;
  taken = 0;
  after = ap (λ p. record s { position = p }) (omega arith);
  accepted = refl;
  left = join_items-none (parse_array count F.parse s.rules s.position (rest s));
})

module _ {T : Type 0} {F : form.Ghosts T} {count : ℕ} {old now : ReaderState} {vs : List T} (so_far : ArraySoFar F count old now vs) where
  one_more : length vs < count → so_far.more ≡ suc (so_far.more - 1)
  one_more h = let c = so_far.counted in omega arith

  none_more : length vs ≡ count → so_far.more ≡ 0
  none_more h = let c = so_far.counted in omega arith

  still_ready : old.failed ≡ false → now.failed ≡ false
  still_ready ready = ap (λ s. s.failed) so_far.after ∙ ready

  same_rules : now.rules ≡ old.rules
  same_rules = ap (λ s. s.rules) so_far.after

  rest_now : rest now ≡ drop so_far.taken (rest old)
  rest_now = ap rest so_far.after ∙ rest-after_read old so_far.taken

  seen_array : old.failed ≡ false → unless_failed (parse_array count F.parse old.rules) old ≡ parse_array count F.parse old.rules old.position (rest old)
  seen_array ready = rw ready refl

  seen_item : old.failed ≡ false → unless_failed (F.parse now.rules) now ≡ F.parse old.rules now.position (rest now)
  seen_item ready = rw (still_ready ready, same_rules) refl

  fault : (kind : ErrorKind) → old.failed ≡ false → parse_array so_far.more F.parse old.rules now.position (rest now) ≡ Err kind → unless_failed (parse_array count F.parse old.rules) old ≡ Err kind
  fault kind ready e = seen_array ready ∙ so_far.left ∙ ap (join_items (flat_map F.encoding vs)) e

  -- a missing item, or an error in an item, is an error of the array
  pub item_fault : (kind : ErrorKind) (new : ReaderState) → length vs < count → old.failed ≡ false → NoItem F now new kind → Faults F.TAKES_MEMORY false (unless_failed (parse_array count F.parse old.rules) old) kind
  item_fault kind new h ready none = let m : ℕ = so_far.more - 1 in let e = one_more h in elim none.reason [
    | inl short ↦ inr (fault kind ready (ap (λ n. parse_array n F.parse old.rules now.position (rest now)) e ∙ ap (parse_array (suc m) F.parse old.rules now.position) short.0 ∙ parse_array-short m F.parse old.rules now.position ∙ ap Err (sym short.1)))
    | inr some ↦ elim some.1 [
      | inl m ↦ inl (record { kind_is = m.kind_is; takes = m.takes; faultless = λ h. absurd (cc) })
      | inr f ↦ inr (fault kind ready (ap (λ n. parse_array n F.parse old.rules now.position (rest now)) e ∙ parse_array-step m F.parse old.rules now.position (rest now) some.0 ∙ ap (λ r. then_item r (λ n. parse_array m F.parse old.rules (now.position + n) (drop n (rest now)))) (sym (seen_item ready) ∙ f)))
    ]
  ]

  -- an item too many is an error of the array
  pub too_many_fault : (kind : ErrorKind) (new : ReaderState) → length vs ≡ count → old.failed ≡ false → ItemTooMany F now new kind → Faults F.TAKES_MEMORY false (unless_failed (parse_array count F.parse old.rules) old) kind
  too_many_fault kind new h ready over = let e = none_more h in elim over.reason [
    | inl m ↦ inl (record { kind_is = m.kind_is; takes = m.takes; faultless = λ h. absurd (cc) })
    | inr f ↦ inr (fault kind ready (ap (λ n. parse_array n F.parse old.rules now.position (rest now)) e ∙ parse_array-over F.parse old.rules now.position (rest now) over.some ∙ ap too_many (sym (seen_item ready)) ∙ f))
  ]

  -- with one more item
  pub array_more : {new : ReaderState} {v : T} (nonempty : (v : T) (b : List ℕ) → F.accepts old.rules v b → 0 < length b) → length vs < count → ItemDecoded F now new v → ArraySoFar F count old new (vs ++ v ∷ [])
  array_more {new} {v} nonempty h told =
      let m : ℕ = so_far.more - 1 in
      let one = one_more h in
      let n = told.item.taken in
      let f = told.item.after in
      let rest_new : rest new ≡ drop n (rest now) = ap rest f ∙ rest-after_read now n in
      let taken : take (so_far.taken + n) (rest old) ≡ take so_far.taken (rest old) ++ take n (rest now) = take-add so_far.taken n (rest old) ∙ ap (λ c. take so_far.taken (rest old) ++ take n c) (sym rest_now) in
      let encoded : flat_map F.encoding (vs ++ v ∷ []) ≡ flat_map F.encoding vs ++ F.encoding v = sym (flat_map_more F.encoding [] vs v) in
      let item : F.accepts old.rules v (take n (rest now)) = subst (λ r. F.accepts r v (take n (rest now))) same_rules told.item.accepted in
      let first : F.parse old.rules now.position (rest now) ≡ Ok (n, F.encoding v) = ap (λ r. F.parse r now.position (rest now)) (sym same_rules) ∙ told.item.parsed in
      record {
        more = m;
        counted = let c = so_far.counted in omega (arith, length-append vs (v ∷ []));
        taken = so_far.taken + n;
        after = f ∙ ap (λ s. after_read s n) so_far.after ∙ ap (λ p. record old { position = p }) (add_assoc old.position so_far.taken n);
        accepted = subst (AcceptsItems (λ v part. F.accepts old.rules v part × (0 < length part)) (vs ++ v ∷ [])) (sym taken) (accepts_items-append (λ v part. F.accepts old.rules v part × (0 < length part)) vs (v ∷ []) (take so_far.taken (rest old)) (take n (rest now)) so_far.accepted (take n (rest now), [], sym (append-nil (take n (rest now))), (item, nonempty v (take n (rest now)) item), refl));
        left =
            so_far.left ∙ ap (join_items (flat_map F.encoding vs)) (ap (λ k. parse_array k F.parse old.rules now.position (rest now)) one ∙ parse_array-step m F.parse old.rules now.position (rest now) told.some ∙ ap (λ r. then_item r (λ n. parse_array m F.parse old.rules (now.position + n) (drop n (rest now)))) first)
            ∙ join_items-join (flat_map F.encoding vs) (F.encoding v) (parse_array m F.parse old.rules (now.position + n) (drop n (rest now))) ∙ rw (rest_new, f, encoded) refl;
      }

  -- no octet is left
  pub array_end : length vs ≡ count → rest now ≡ [] → parse_array count F.parse old.rules old.position (rest old) ≡ Ok (flat_map F.encoding vs)
  array_end h none =
      let e = none_more h in
      so_far.left ∙ ap (λ k. join_items (flat_map F.encoding vs) (parse_array k F.parse old.rules now.position (rest now))) e ∙ ap (λ c. join_items (flat_map F.encoding vs) (parse_array 0 F.parse old.rules now.position c)) none ∙ ap (join_items (flat_map F.encoding vs)) (parse_array-end F.parse old.rules now.position) ∙ ap Ok (append-nil (flat_map F.encoding vs))

  pub array_accepted : so_far.taken ≡ length (rest old) → AcceptsItems (λ v part. F.accepts old.rules v part × (0 < length part)) vs (rest old)
  array_accepted e = subst (AcceptsItems (λ v part. F.accepts old.rules v part × (0 < length part)) vs) (ap (λ n. take n (rest old)) e ∙ take-length (rest old)) so_far.accepted

pub take_one : {T : Type 0} (n : ℕ) (v : T) → 0 < n → take 1 (replicate n v) ≡ v ∷ []
take_one zero v h = absurd (omega arith)
take_one (suc n) v h = refl

-- a write after the items so far
pub take_written : {T : Type 0} (xs : List T) (i : ℕ) (v : T) → i < length xs → take (i + 1) (set xs i v) ≡ take i xs ++ v ∷ []
take_written xs i v h = rw add-one (take-suc-set xs i v h)
