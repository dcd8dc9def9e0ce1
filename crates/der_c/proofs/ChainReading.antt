-- Where that stands which has to verify of each of some certificates.
use Rattle.std.proofs.Common.{◌≡◌, ℕ, ◌-◌, ◌≤◌, List, [], ◌∷◌, ◌++◌, length, take, drop, get_or, Option, None, Some, sym, ap, ◌∙◌, subst, append_assoc, arith}
use Rattle.std.proofs.lemmas.List.{append-nil}
use Rattle.std.proofs.Math.Seq.{take-length}
use Rattle.der_elem.specs.declared.form.Form as form
use Rattle.der_opaque.specs.declared.any_ref.AnyRef.{AnyRef}
use Rattle.der_pkix.specs.declared.certificate.certificate.Certificate.{Certificate}
use Rattle.der_places.specs.declared.place.Place.{Place}
use Rattle.der_path.specs.declared.keys.WorkingKey.{WorkingKey}
use Rattle.der_path.specs.Keys.{next_key, or_else}
use Rattle.der_c.specs.contracts.path.meanings.MeaningsMeantCertificate.TheImpl as certificate_form
use Rattle.der_c.specs.declared.path.places.KeyAt.{KeyAt}
use Rattle.der_c.specs.declared.path.places.VerificationAt.{VerificationAt}
use Rattle.der_c.specs.Building.{IsAt}
use Rattle.der_c.specs.ChainPlaces.{EachAt, EachPlaced, HoldsIfThere, HoldsKey, IsPlaced}

pub front : {X : Type 0} (l : List X) (d item : X) (others : List X) → 1 ≤ length l → item ≡ get_or l 0 d → others ≡ take (length l - 1) (drop 1 l) → l ≡ item ∷ others
front [] d item others some at o = absurd (omega arith)
front (e ∷ es) d item others some at o =
    let count : length (e ∷ es) - 1 ≡ length es = omega arith in
    ap (λ x. x ∷ es) (sym at) ∙ ap (λ l. item ∷ l) (sym (o ∙ ap (λ k. take k es) count ∙ take-length es))

-- what has to verify of the certificates before, and of those that are left once that is found
pub record FoundSoFar (octets : List ℕ) (first : WorkingKey) (at : KeyAt) (chain : List Place) (certificates : List Certificate) (found : List VerificationAt) (left : List Place) (behind : List Certificate) : Type 0 where
  pub working : WorkingKey
  pub holds : HoldsKey octets working at
  pub are_read : EachAt octets left behind
  pub whole : (rest : List VerificationAt) → EachPlaced octets working behind rest → EachPlaced octets first certificates (found ++ rest)

pub none_found : (octets : List ℕ) (first : WorkingKey) (at : KeyAt) (chain : List Place) (certificates : List Certificate) (found : List VerificationAt) → found ≡ [] → HoldsKey octets first at → EachAt octets chain certificates → FoundSoFar octets first at chain certificates found chain certificates
none_found octets first at chain certificates found none holds read = record {
  working = first;
  holds = holds;
  are_read = read;
  whole = λ rest each. subst (λ f. EachPlaced octets first certificates (f ++ rest)) (sym none) each;
}

module _ (octets : List ℕ) (first : WorkingKey) (at : KeyAt) (chain : List Place) (certificates : List Certificate) (found : List VerificationAt) (left : List Place) (behind : List Certificate) (so : FoundSoFar octets first at chain certificates found left behind) where
  pub one_found : (p : Place) (ps : List Place) (c : Certificate) (cs : List Certificate) → left ≡ p ∷ ps → behind ≡ c ∷ cs → (v : VerificationAt) (more : List VerificationAt) (next : KeyAt) → ((w : WorkingKey) → HoldsKey octets w at → IsAt certificate_form.ghosts.FORM octets p c → IsPlaced octets w c v) → ((w : WorkingKey) → HoldsKey octets w at → IsAt certificate_form.ghosts.FORM octets p c → HoldsKey octets (next_key c w) next) → more ≡ found ++ v ∷ [] → FoundSoFar octets first next chain certificates more ps cs
  one_found p ps c cs l b v more next places goes_on are =
      let read : EachAt octets (p ∷ ps) (c ∷ cs) = subst (EachAt octets (p ∷ ps)) b (subst (λ l. EachAt octets l behind) l so.are_read) in
      record {
        working = next_key c so.working;
        holds = goes_on so.working so.holds read.0;
        are_read = read.1;
        whole = λ rest each.
            let now : EachPlaced octets so.working behind (v ∷ rest) = subst (λ b. EachPlaced octets so.working b (v ∷ rest)) (sym b) (places so.working so.holds read.0, each) in
            subst (EachPlaced octets first certificates) (sym (append_assoc found (v ∷ []) rest) ∙ ap (λ f. f ++ rest) (sym are)) (so.whole (v ∷ rest) now);
      }

  pub all_found : left ≡ [] → EachPlaced octets first certificates found
  all_found none =
      let nothing : EachPlaced octets so.working behind [] = nothing_left left behind none so.are_read in
      subst (EachPlaced octets first certificates) (append-nil found) (so.whole [] nothing)
    where
      nothing_left : (l : List Place) (b : List Certificate) → l ≡ [] → EachAt octets l b → EachPlaced octets so.working b []
      nothing_left [] [] e each = tt
      nothing_left [] (c ∷ cs) e each = absurd each
      nothing_left (p ∷ ps) b e each = absurd (cc)

-- what a byte range holds if nothing is inherited
pub own_alone : (F : form.Ghosts AnyRef) (octets : List ℕ) (place : Place) (o : Option AnyRef) → HoldsIfThere F octets place (or_else o None) → HoldsIfThere F octets place o
own_alone F octets place None holds = holds
own_alone F octets place (Some v) holds = holds
