-- The laws of items that are read one after another, from those of the items.
use Rattle.std.proofs.Common.{◌≡◌, ℕ, zero, suc, ◌+◌, ◌<◌, ◌≤◌, List, [], ◌∷◌, ◌++◌, length, drop, map, Ok, refl, ap, ◌∙◌, arith, flat_map}
use Rattle.std.specs.List.{All, concat}
use Rattle.std.proofs.lemmas.List.{length-append}
use Rattle.std.proofs.lemmas.List.Elements.{All-nil, All-cons, All-head, All-tail}
use Rattle.std.proofs.Math.Seq.{drop-append_seam}
use Rattle.der_tlv.specs.declared.encoding_rules.EncodingRules.{EncodingRules}
use Rattle.der_elem.specs.declared.form.Form as form
use Rattle.der_elem.specs.Parsing.{Parse}
use Rattle.der_elem.specs.Accepting.{Fits}
use Rattle.der_elem.specs.Items.{AllComparable}
use Rattle.der_elem.specs.ItemLaws.{first_fits, others_fit}
use Rattle.der_elem.specs.ArrayLaws.{same_length_array}
use Rattle.der_nest.specs.Lists.{AcceptsEach, before_others, then_others, one_too_many, parse_each}

pub parse_each-end : (more : ℕ) (parse : Parse) (rules : EncodingRules) (p : ℕ) → parse_each more parse rules p [] ≡ Ok []
unfolding parse_each
parse_each-end zero parse rules p = refl
parse_each-end (suc more) parse rules p = refl

pub parse_each-over : (parse : Parse) (rules : EncodingRules) (p : ℕ) (c : List ℕ) → 0 < length c → parse_each 0 parse rules p c ≡ one_too_many (parse rules p c)
unfolding parse_each
parse_each-over parse rules p [] h = absurd (omega arith)
parse_each-over parse rules p (x ∷ xs) h = refl

-- the first item, and then the others
pub parse_each-step : (more : ℕ) (parse : Parse) (rules : EncodingRules) (p : ℕ) (c : List ℕ) → 0 < length c → parse_each (suc more) parse rules p c ≡ then_others (parse rules p c) (λ n. parse_each more parse rules (p + n) (drop n c))
unfolding parse_each
parse_each-step more parse rules p [] h = absurd (omega arith)
parse_each-step more parse rules p (x ∷ xs) h = refl

-- joining the encodings of items puts them one after another
pub concat-map : {T : Type 0} (encoding : T → List ℕ) (vs : List T) → concat (map encoding vs) ≡ flat_map encoding vs
concat-map encoding [] = refl
concat-map encoding (v ∷ vs) = ap (λ s. encoding v ++ s) (concat-map encoding vs)

-- there are no more items than octets
pub length-each : {T : Type 0} (accepts : T → List ℕ → Type 0) (vs : List T) (c : List ℕ) → AcceptsEach accepts vs c → length vs ≤ length c
length-each accepts [] c e = omega arith
length-each accepts (v ∷ vs) c (b, d, e, a, others) = let h = length-each accepts vs d others in let s = a.1 in omega (arith, ap length e, length-append b d)

module _ {T : Type 0} (F : form.Ghosts T) (rules : EncodingRules) where
  pub parse_of_each : (vs : List T) (more p : ℕ) (c : List ℕ) → length vs ≤ more → AcceptsEach (F.accepts rules) vs c → Fits c → parse_each more F.parse rules p c ≡ Ok (map F.encoding vs)
  parse_of_each [] more p c h e fits = ap (parse_each more F.parse rules p) e ∙ parse_each-end more F.parse rules p
  parse_of_each (v ∷ vs) zero p c h a fits = absurd (omega arith)
  parse_of_each (v ∷ vs) (suc more) p c h ([], d, e, a, others) fits = let some = a.1 in absurd (omega arith)
  parse_of_each (v ∷ vs) (suc more) p c h (y ∷ b, d, e, a, others) fits =
      ap (parse_each (suc more) F.parse rules p) e
      ∙ parse_each-step more F.parse rules p (y ∷ (b ++ d)) (omega arith)
      ∙ ap (λ r. then_others r (λ n. parse_each more F.parse rules (p + n) (drop n (y ∷ (b ++ d))))) (F.parse_of_accepted rules v p (y ∷ b) d a.0 (first_fits c (y ∷ b) d e fits) tt)
      ∙ ap (λ t. before_others (F.encoding v) (parse_each more F.parse rules (p + suc (length b)) t)) (drop-append_seam b d)
      ∙ ap (before_others (F.encoding v)) (parse_of_each vs more (p + suc (length b)) d (omega arith) others (others_fit c (y ∷ b) d e fits))

  pub same_length_each : (vs : List T) (c : List ℕ) → AcceptsEach (F.accepts rules) vs c → length (flat_map F.encoding vs) ≡ length c
  same_length_each vs c a = same_length_array F rules (length vs) vs c (refl, a)

  pub accepts_each : (vs : List T) → All (λ v. F.readable v × (0 < length (F.encoding v))) vs → AcceptsEach (F.accepts rules) vs (flat_map F.encoding vs)
  accepts_each [] r = refl
  accepts_each (v ∷ vs) r =
      let h = All-head (λ v. F.readable v × (0 < length (F.encoding v))) v vs r in
      (F.encoding v, flat_map F.encoding vs, refl, (F.accepts_encoding rules v h.0, h.1), accepts_each vs (All-tail (λ v. F.readable v × (0 < length (F.encoding v))) v vs r))

  pub readable_each : (vs : List T) (c : List ℕ) → AcceptsEach (F.accepts rules) vs c → All (λ v. F.readable v × (0 < length (F.encoding v))) vs
  readable_each [] c e = All-nil (λ v. F.readable v × (0 < length (F.encoding v)))
  readable_each (v ∷ vs) c (b, d, e, a, others) =
      let l = F.same_length rules v b a.0 in
      let some = a.1 in
      All-cons (λ v. F.readable v × (0 < length (F.encoding v))) v vs (F.only_readable rules v b a.0, omega arith) (readable_each vs d others)

  -- each item is accepted from octets that are no more than these
  pub parts_within : (vs : List T) (c : List ℕ) → AcceptsEach (F.accepts rules) vs c → (most : ℕ) → length c ≤ most → All (λ v. (b : List ℕ) × F.accepts rules v b × (length b ≤ most)) vs
  parts_within [] c e most h = All-nil (λ v. (b : List ℕ) × F.accepts rules v b × (length b ≤ most))
  parts_within (v ∷ vs) c (b, d, e, a, others) most h =
      let l = ap length e ∙ length-append b d in
      All-cons (λ v. (b : List ℕ) × F.accepts rules v b × (length b ≤ most)) v vs (b, a.0, omega arith) (parts_within vs d others most (omega arith))

  -- accepted items are comparable
  pub all_comparable : (m n : ℕ) (vs ws : List T) → All (λ v. (b : List ℕ) × F.accepts rules v b × (length b ≤ m)) vs → All (λ v. (b : List ℕ) × F.accepts rules v b × (length b ≤ n)) ws → AllComparable F.comparable vs ws
  all_comparable m n [] ws a b = tt
  all_comparable m n (v ∷ vs) [] a b = tt
  all_comparable m n (v ∷ vs) (w ∷ ws) a b =
      let x = All-head (λ v. (b : List ℕ) × F.accepts rules v b × (length b ≤ m)) v vs a in
      let y = All-head (λ v. (b : List ℕ) × F.accepts rules v b × (length b ≤ n)) w ws b in
      (F.accepts_comparable rules v w x.0 y.0 x.1 y.1, all_comparable m n vs ws (All-tail (λ v. (b : List ℕ) × F.accepts rules v b × (length b ≤ m)) v vs a) (All-tail (λ v. (b : List ℕ) × F.accepts rules v b × (length b ≤ n)) w ws b))
