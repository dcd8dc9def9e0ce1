-- Items that are read again one after another.
use Rattle.std.proofs.Common.{◌≡◌, ℕ, suc, ◌+◌, List, [], ◌∷◌, length, take, drop, true, false, Result, Ok, Err, refl, sym, ap, ◌∙◌, arith, inl, inr}
use Rattle.der_tlv.specs.declared.error.ErrorKind.{ErrorKind}
use Rattle.der_tlv.specs.declared.error.ErrorKind.TheVariants.{Memory}
use Rattle.der_tlv.specs.declared.encoding_rules.EncodingRules.{EncodingRules}
use Rattle.der_tlv.specs.ReaderState.{ReaderState, rest}
use Rattle.der_tlv.proofs.ReaderStates.{rest-after_read}
use Rattle.der_elem.specs.declared.form.Form as form
use Rattle.der_elem.specs.Parsing.{Parse}
use Rattle.der_elem.specs.Decoding.{Decoded, NotDecoded}
use Rattle.der_nest.specs.Lists.{parse_each, then_others, before_others, one_too_many}
use Rattle.der_nest.specs.ListLaws.{parse_each-end, parse_each-over, parse_each-step}
use Rattle.der_nest.specs.ReReading.{encodings_or_none, encodings_read, encodings_left}

too_many_none : (r : Result (ℕ × List ℕ) ErrorKind) → encodings_or_none (one_too_many r) ≡ []
too_many_none (Ok item) = refl
too_many_none (Err k) = refl

-- no items have no encodings
pub none_read : (parse : Parse) (rules : EncodingRules) (p : ℕ) (c : List ℕ) → encodings_read 0 parse rules p c ≡ []
none_read parse rules p [] = ap encodings_or_none (parse_each-end 0 parse rules p)
none_read parse rules p (x ∷ xs) =
    ap encodings_or_none (parse_each-over parse rules p (x ∷ xs) (omega arith)) ∙ too_many_none (parse rules p (x ∷ xs))

-- the first of several items, and the others
record NextRead (k : ℕ) (parse : Parse) (rules : EncodingRules) (p : ℕ) (c : List ℕ) : Type 0 where
  taken : ℕ
  encoding : List ℕ
  parsed : parse rules p c ≡ Ok (taken, encoding)
  all : encodings_read (suc k) parse rules p c ≡ encoding ∷ encodings_read k parse rules (p + taken) (drop taken c)
  counted : length (encodings_read k parse rules (p + taken) (drop taken c)) ≡ k

with_others : (k : ℕ) (e : List ℕ) (r : Result (List (List ℕ)) ErrorKind) → length (encodings_or_none (before_others e r)) ≡ suc k → (encodings_or_none (before_others e r) ≡ e ∷ encodings_or_none r) × (length (encodings_or_none r) ≡ k)
with_others k e (Ok es) h = (refl, omega arith)
with_others k e (Err kind) h = absurd (omega arith)

next_read : (k : ℕ) (parse : Parse) (rules : EncodingRules) (p : ℕ) (c : List ℕ) → length (encodings_read (suc k) parse rules p c) ≡ suc k → NextRead k parse rules p c
next_read k parse rules p [] h = let n = ap (λ r. length (encodings_or_none r)) (parse_each-end (suc k) parse rules p) in absurd (omega arith)
next_read k parse rules p (x ∷ xs) h = go (parse rules p (x ∷ xs)) refl
  where
    step : parse_each (suc k) parse rules p (x ∷ xs) ≡ then_others (parse rules p (x ∷ xs)) (λ n. parse_each k parse rules (p + n) (drop n (x ∷ xs)))
    step = parse_each-step k parse rules p (x ∷ xs) (omega arith)

    go : (r : Result (ℕ × List ℕ) ErrorKind) → parse rules p (x ∷ xs) ≡ r → NextRead k parse rules p (x ∷ xs)
    go (Err kind) e = let n = ap (λ r. length (encodings_or_none r)) (step ∙ ap (λ r. then_others r (λ n. parse_each k parse rules (p + n) (drop n (x ∷ xs)))) e) in absurd (omega arith)
    go (Ok (n, s)) e =
        let all = step ∙ ap (λ r. then_others r (λ n. parse_each k parse rules (p + n) (drop n (x ∷ xs)))) e in
        let count : length (encodings_or_none (before_others s (parse_each k parse rules (p + n) (drop n (x ∷ xs))))) ≡ suc k = ap (λ r. length (encodings_or_none r)) (sym all) ∙ h in
        let w = with_others k s (parse_each k parse rules (p + n) (drop n (x ∷ xs))) count in
        record { taken = n; encoding = s; parsed = e; all = ap encodings_or_none all ∙ w.0; counted = w.1 }

same_item : (x y : ℕ × List ℕ) (r : Result (ℕ × List ℕ) ErrorKind) → r ≡ Ok x → r ≡ Ok y → x ≡ y
same_item x y r e f = cc

module _ {T : Type 0} (F : form.Ghosts T) (left k : ℕ) (old new : ReaderState) (is : left ≡ suc k) (counted : length (encodings_left left F.parse old) ≡ left) where
  next : NextRead k F.parse old.rules old.position (rest old)
  next = next_read k F.parse old.rules old.position (rest old) (rw is at counted)

  -- an item that is read again is the next one, and the others follow
  pub next_item : (v : T) → Decoded F old new v → F.readable v × (encodings_left left F.parse old ≡ F.encoding v ∷ encodings_left k F.parse new) × (length (encodings_left k F.parse new) ≡ k)
  next_item v told =
      let n = next in
      let same = same_item (n.taken, n.encoding) (told.taken, F.encoding v) (F.parse old.rules old.position (rest old)) n.parsed told.parsed in
      let taken : n.taken ≡ told.taken = ap (λ (q : ℕ × List ℕ). q.0) same in
      let encoding : n.encoding ≡ F.encoding v = ap (λ (q : ℕ × List ℕ). q.1) same in
      let others : encodings_left k F.parse new ≡ encodings_read k F.parse old.rules (old.position + n.taken) (drop n.taken (rest old)) = ap (encodings_left k F.parse) told.after ∙ ap (encodings_read k F.parse old.rules (old.position + told.taken)) (rest-after_read old told.taken) ∙ ap (λ m. encodings_read k F.parse old.rules (old.position + m) (drop m (rest old))) (sym taken) in
      (F.only_readable old.rules v (take told.taken (rest old)) told.accepted, ap (λ n. encodings_left n F.parse old) is ∙ n.all ∙ ap (λ e. e ∷ encodings_read k F.parse old.rules (old.position + n.taken) (drop n.taken (rest old))) encoding ∙ ap (λ es. F.encoding v ∷ es) (sym others), ap length others ∙ n.counted)

  -- reading an item again fails only for lack of memory
  pub no_item : (kind : ErrorKind) → old.failed ≡ false → NotDecoded F old new kind → (kind ≡ Memory) × (F.TAKES_MEMORY ≡ true)
  no_item kind ready told =
      elim told.reason [
        | inl m ↦ (m.kind_is, m.takes)
        | inr e ↦ let n = next in let fault : F.parse old.rules old.position (rest old) ≡ Err kind = rw ready at e in absurd (let same = sym n.parsed ∙ fault in cc)
      ]
