-- Octets with an error are not values to a depth.
use Rattle.std.proofs.Common.{◌≡◌, ℕ, zero, suc, ◌<◌, ◌≤◌, ◌^◌, List, [], ◌∷◌, ◌++◌, length, Result, Ok, Err, IsOk, IfErr, ◌↔◌, true, false, refl, sym, ap, ◌∙◌, arith, subst, inl, inr}
use Rattle.std.specs.List.{All}
use Rattle.std.proofs.Math.Seq.{take-length}
use Rattle.std.proofs.lemmas.Bool.{cases_lt}
use Rattle.std.proofs.lemmas.List.{nil_from_length}
use Rattle.std.proofs.lemmas.List.Elements.{All-head, All-tail}
use Rattle.der_tlv.specs.declared.error.Error.{Error}
use Rattle.der_tlv.specs.declared.error.ErrorKind.{ErrorKind}
use Rattle.der_tlv.specs.declared.error.ErrorKind.TheVariants.{Overflow, Overlength}
use Rattle.der_tlv.specs.declared.encoding_rules.EncodingRules.TheVariants.{Der}
use Rattle.der_tlv.specs.ReaderState.{ReaderState, rest, new_reader}
use Rattle.der_elem.specs.declared.form.Form as form
use Rattle.der_elem.specs.Accepting.{Fits}
use Rattle.der_elem.specs.Items.{AcceptsItems}
use Rattle.der_elem.specs.ItemLaws.{others_fit}
use Rattle.der_recursive.specs.Depth.{AreValuesTo}
use Rattle.der_recursive.specs.Checking.{FirstFaulty, NextFault, FaultBehind, AreNot, IsFirstFault, ChecksDepth}
use Rattle.der_recursive.proofs.SameValues.{first_parsed, same_first, others_behind}

All-middle : {X : Type 0} (P : X → Type 0) (xs : List X) (y : X) (ys : List X) → All P (xs ++ y ∷ ys) → P y
All-middle P [] y ys all = All-head P y ys all
All-middle P (x ∷ xs) y ys all = All-middle P xs y ys (All-tail P x (xs ++ y ∷ ys) all)

-- a reader of octets is refused only if they are more than a length can count
pub refuses_long : (len : ℕ) → (len < 2 ^ 32 → false ≡ true) → 2 ^ 32 ≤ len
refuses_long len refused = elim (cases_lt len (2 ^ 32)) [
  | inl short ↦ absurd (let e = refused short in cc)
  | inr long ↦ long
]

module _ {T : Type 0} (F : form.Ghosts T) (held : T → List (List ℕ)) where
  -- no octets are values to every depth
  pub none_at_zero : (octets : List ℕ) → octets ≡ [] → AreValuesTo F held 0 octets
  unfolding AreValuesTo
  none_at_zero octets none = none

  pub too_many : (depth : ℕ) (octets : List ℕ) (kind : ErrorKind) → 2 ^ 32 ≤ length octets → kind ≡ Overflow → AreNot F held depth octets kind
  unfolding AreValuesTo IsFirstFault
  too_many zero octets kind long is = record {
    fault = inl (record { long = long; kind_is = is });
    nothing = λ none. absurd (omega (arith, ap length none));
  }
  too_many (suc n) octets kind long is = record {
    fault = inl (record { long = long; kind_is = is });
    nothing = λ are. absurd (let fits = are.fits in omega arith);
  }

  pub too_deep : (octets : List ℕ) (kind : ErrorKind) → Fits octets → 0 < length octets → kind ≡ Overlength → AreNot F held 0 octets kind
  unfolding AreValuesTo IsFirstFault
  too_deep octets kind fits some is = record {
    fault = inr (record { fits = fits; some = some; kind_is = is });
    nothing = λ none. absurd (omega (arith, ap length none));
  }

  -- whether octets are left where no value is allowed
  pub at_zero : (octets : List ℕ) (now : ReaderState) (answer : Result (Unit {0}) Error) → now ≡ new_reader octets Der → Fits octets → IsOk answer ↔ (rest now ≡ []) → IfErr answer (λ e. e.kind ≡ Overlength) → ChecksDepth F held 0 octets answer
  at_zero octets now (Ok done) new fits ok err = none_at_zero octets (sym (ap rest new ∙ take-length octets) ∙ ok.0 refl)
  at_zero octets now (Err e) new fits ok err =
      let some : 0 < length octets = elim (cases_lt 0 (length octets)) [
        | inl some ↦ some
        | inr none ↦ absurd (let is_ok = ok.1 (ap rest new ∙ take-length octets ∙ nil_from_length octets (omega arith)) in cc)
      ] in
      too_deep octets e.kind fits some err

  module _ (nonempty : (v : T) (b : List ℕ) → F.accepts Der v b → 0 < length b) (by_encoding : (v w : T) → F.encoding v ≡ F.encoding w → held v ≡ held w) (n : ℕ) where
    -- the octets that a value holds are not all as wanted
    not_held : (w : T) (kind : ErrorKind) → FirstFaulty (AreValuesTo F held n) (λ octets. AreNot F held n octets kind) (held w) → All (AreValuesTo F held n) (held w) → ⊥
    not_held w kind f all = f.faulty.nothing (All-middle (AreValuesTo F held n) f.before f.octets f.after (subst (All (AreValuesTo F held n)) f.all_are all))

    -- if the next value has an error, the octets are not values
    none_next : (p : ℕ) (left : List ℕ) (kind : ErrorKind) → Fits left → 0 < length left → NextFault F held (AreValuesTo F held n) (AreNot F held n) p left kind → (ws : List T) → AcceptsItems (F.accepts Der) ws left → All (λ w. All (AreValuesTo F held n) (held w)) ws → ⊥
    none_next p left kind fits some next [] none all = absurd (omega (arith, ap length none))
    none_next p left kind fits some (inl fault) (w ∷ ws) (b, d, e, a, more) all =
        let parsed = first_parsed F nonempty w p left b d e a fits in
        let both = sym parsed ∙ fault in
        absurd (cc)
    none_next p left kind fits some (inr f) (w ∷ ws) (b, d, e, a, more) all =
        let same = same_first F nonempty f.value w left f.part f.others b d f.octets_are e f.accepted a fits in
        let holds = subst (FirstFaulty (AreValuesTo F held n) (λ octets. AreNot F held n octets kind)) (by_encoding f.value w same.encodings) f.holds in
        not_held w kind holds (All-head (λ w. All (AreValuesTo F held n) (held w)) w ws all)

    next_fault : (p : ℕ) (left : List ℕ) (kind : ErrorKind) → NextFault F held (AreValuesTo F held n) (AreNot F held n) p left kind → NextFault F held (AreValuesTo F held n) (IsFirstFault F held n) p left kind
    next_fault p left kind (inl fault) = inl fault
    next_fault p left kind (inr f) =
        let h = f.holds in
        inr (record {
          value = f.value;
          part = f.part;
          others = f.others;
          octets_are = f.octets_are;
          accepted = f.accepted;
          holds = record { before = h.before; octets = h.octets; after = h.after; all_are = h.all_are; wanted = h.wanted; faulty = h.faulty.fault };
        })

    -- values come first, and then an error
    pub fault_behind : (octets : List ℕ) (kind : ErrorKind) → FaultBehind F held (AreValuesTo F held n) (AreNot F held n) octets kind → AreNot F held (suc n) octets kind
    unfolding AreValuesTo IsFirstFault
    fault_behind octets kind f = record {
      fault = inr (record {
        values = f.values;
        front = f.front;
        left = f.left;
        octets_are = f.octets_are;
        fits = f.fits;
        some = f.some;
        accepted = f.accepted;
        within = f.within;
        next = next_fault (length f.front) f.left kind f.next;
      });
      nothing = λ are.
          let behind = others_behind F nonempty (λ w. All (AreValuesTo F held n) (held w)) f.values are.values octets f.front f.left f.octets_are f.fits f.accepted are.accepted are.within in
          none_next (length f.front) f.left kind (others_fit octets f.front f.left f.octets_are f.fits) f.some f.next behind.others behind.accepted behind.all;
    }
