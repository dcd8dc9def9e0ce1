-- Two readings of octets as values, one after another, have the same encodings.
use Rattle.std.proofs.Common.{◌≡◌, ℕ, ◌<◌, List, [], ◌∷◌, ◌++◌, length, drop, Result, Ok, refl, sym, ap, ◌∙◌, arith, subst, append_assoc}
use Rattle.std.specs.List.{All}
use Rattle.std.proofs.Math.Seq.{drop-append_seam}
use Rattle.std.proofs.lemmas.List.{length-append}
use Rattle.std.proofs.lemmas.List.Elements.{All-tail}
use Rattle.der_tlv.specs.declared.encoding_rules.EncodingRules.TheVariants.{Der}
use Rattle.der_tlv.specs.declared.error.ErrorKind.{ErrorKind}
use Rattle.der_elem.specs.declared.form.Form as form
use Rattle.der_elem.specs.Accepting.{Fits}
use Rattle.der_elem.specs.Items.{AcceptsItems}
use Rattle.der_elem.specs.ItemLaws.{first_fits, others_fit}

pub same_result : (x y : ℕ × List ℕ) (r : Result (ℕ × List ℕ) ErrorKind) → r ≡ Ok x → r ≡ Ok y → x ≡ y
same_result x y r e f = cc

module _ {T : Type 0} (F : form.Ghosts T) (nonempty : (v : T) (b : List ℕ) → F.accepts Der v b → 0 < length b) where
  -- the value at the front is the one that is parsed
  pub first_parsed : (v : T) (p : ℕ) (octets b d : List ℕ) → octets ≡ b ++ d → F.accepts Der v b → Fits octets → F.parse Der p octets ≡ Ok (length b, F.encoding v)
  first_parsed v p octets [] d e a fits = absurd (let some = nonempty v [] a in omega arith)
  first_parsed v p octets (y ∷ b) d e a fits = ap (F.parse Der p) e ∙ F.parse_of_accepted Der v p (y ∷ b) d a (first_fits octets (y ∷ b) d e fits) tt

  -- one value is at the front, with one encoding
  pub record SameFirst (v w : T) (d d' : List ℕ) : Type 0 where
    pub encodings : F.encoding v ≡ F.encoding w
    pub behind : d ≡ d'

  pub same_first : (v w : T) (octets b d b' d' : List ℕ) → octets ≡ b ++ d → octets ≡ b' ++ d' → F.accepts Der v b → F.accepts Der w b' → Fits octets → SameFirst v w d d'
  same_first v w octets b d b' d' e e' a a' fits =
      let same = same_result (length b, F.encoding v) (length b', F.encoding w) (F.parse Der 0 octets) (first_parsed v 0 octets b d e a fits) (first_parsed w 0 octets b' d' e' a' fits) in
      let long : length b ≡ length b' = ap (λ (q : ℕ × List ℕ). q.0) same in
      record {
        encodings = ap (λ (q : ℕ × List ℕ). q.1) same;
        behind = sym (drop-append_seam b d) ∙ ap (drop (length b)) (sym e ∙ e') ∙ ap (λ n. drop n (b' ++ d')) long ∙ drop-append_seam b' d';
      }

  -- the values of another reading after those of this one
  pub record Behind (P : T → Type 0) (left : List ℕ) : Type 0 where
    pub others : List T
    pub accepted : AcceptsItems (F.accepts Der) others left
    pub all : All P others

  pub others_behind : (P : T → Type 0) (vs ws : List T) (octets front left : List ℕ) → octets ≡ front ++ left → Fits octets → AcceptsItems (F.accepts Der) vs front → AcceptsItems (F.accepts Der) ws octets → All P ws → Behind P left
  others_behind P [] ws octets front left e fits none a all =
      record { others = ws; accepted = subst (AcceptsItems (F.accepts Der) ws) (e ∙ ap (λ b. b ++ left) none) a; all = all }
  others_behind P (v ∷ vs) [] octets front left e fits (b, c, f, a, more) none all =
      absurd (let some = nonempty v b a in omega (arith, ap length none, ap length e, length-append front left, ap length f, length-append b c))
  others_behind P (v ∷ vs) (w ∷ ws) octets front left e fits (b, c, f, a, more) (b', c', f', a', more') all =
      let parts : octets ≡ b ++ (c ++ left) = e ∙ ap (λ s. s ++ left) f ∙ append_assoc b c left in
      let same = same_first v w octets b (c ++ left) b' c' parts f' a a' fits in
      others_behind P vs ws (c ++ left) c left refl (others_fit octets b (c ++ left) parts fits) more (subst (AcceptsItems (F.accepts Der) ws) (sym same.behind) more') (All-tail P w ws all)
