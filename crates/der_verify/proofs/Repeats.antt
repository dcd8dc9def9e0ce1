-- Extensions that are read again, and the identifiers that were seen before.
use Rattle.std.proofs.Common.{◌≡◌, ℕ, Bool, true, false, ◌||◌, List, [], ◌∷◌, Some, None, Ok, cond, not, refl, sym, ap, ◌∙◌, subst}
use Rattle.std.proofs.lemmas.Cmp.{nat_list_eq_equiv}
use Rattle.std.proofs.lemmas.Map.Text.{is_eq-slice_cmp}
use Rattle.std.specs.Borrow.{Bor}
use Rattle.std.specs.Cmp.Lexicographic.{slice_cmp}
use Rattle.std.specs.List.{list_any}
use Rattle.std.specs.Ordering.{is_eq, nat_cmp}
use Rattle.der_tlv.specs.declared.encoding_rules.EncodingRules.TheVariants.{Der}
use Rattle.der_tlv.specs.ReaderState.{ReaderState, new_reader}
use Rattle.der_elem.specs.Accepting.{Fits}
use Rattle.der_elem.specs.declared.form.Form as form
use Rattle.der_lists.specs.ReadingOn.{ReadsOn}
use Rattle.der_lists.specs.Items.{AreItems, AreToCome}
use Rattle.der_lists.proofs.TestedItems.{all_to_come, next_of, none_to_come}
use Rattle.der_opaque.specs.ObjectIdentifierRef as identifier
use Rattle.der_pkix.specs.Certificate.Extension as extension
use Rattle.der_pkix.specs.declared.certificate.extension.Extension.{Extension}
use Rattle.der_verify.specs.Extensions.{has_identifier}
use Rattle.der_verify.specs.Rfc5280.{has_repeated}

-- the contents octets of an extension's identifier
abbrev pub octets_of : Extension → List ℕ
octets_of e = identifier.octets_of (extension.extn_id e)

-- one of these keys is equal to these octets
abbrev pub is_among : List (Bor (List ℕ)) → List ℕ → Bool
is_among keys octets = list_any (λ k. is_eq (slice_cmp nat_cmp octets k.now)) keys

-- an extension has an identifier that was seen, or two extensions have the same identifier
abbrev pub repeats : List (Bor (List ℕ)) → List Extension → Bool
repeats keys left = list_any (λ e. is_among keys (octets_of e)) left || has_repeated left

none_among : (l : List Extension) → list_any (λ e. is_among [] (octets_of e)) l ≡ false
none_among [] = refl
none_among (e ∷ es) = none_among es

-- nothing was seen before
pub nothing_seen : (keys : List (Bor (List ℕ))) (l : List Extension) → keys ≡ [] → repeats keys l ≡ has_repeated l
nothing_seen keys l none = ap (λ k. repeats k l) none ∙ ap (λ b. b || has_repeated l) (none_among l)

-- the keys are those before, and this one
abbrev pub Joins : List (Bor (List ℕ)) → List (Bor (List ℕ)) → List ℕ → Type 0
Joins old new octets = (q : Bor (List ℕ)) → is_among new q.now ≡ cond (is_eq (slice_cmp nat_cmp octets q.now)) true (is_among old q.now)

shuffled : (a b c d : Bool) → ((a || b) || (c || d)) ≡ ((a || c) || (b || d))
shuffled true b c d = refl
shuffled false true true d = refl
shuffled false true false d = refl
shuffled false false c d = refl

turned : (a b c : Bool) → ((b || a) || c) ≡ (a || (b || c))
turned true true c = refl
turned true false c = refl
turned false true c = refl
turned false false c = refl

either : (b c : Bool) → cond b true c ≡ (b || c)
either true c = refl
either false c = refl

-- an extension was seen if it has the last identifier or was seen before
is_one : (old new : List (Bor (List ℕ))) (octets : List ℕ) → Joins old new octets → (e : Extension) → is_among new (octets_of e) ≡ (has_identifier octets e || is_among old (octets_of e))
is_one old new octets joins e =
    let q : Bor (List ℕ) = record { ref_ptr = (0, 0); now = octets_of e } in
    let same : is_eq (slice_cmp nat_cmp octets (octets_of e)) ≡ has_identifier octets e = is_eq-slice_cmp octets (octets_of e) ∙ nat_list_eq_equiv.symm octets (octets_of e) in
    joins q ∙ either (is_eq (slice_cmp nat_cmp octets (octets_of e))) (is_among old (octets_of e)) ∙ ap (λ b. b || is_among old (octets_of e)) same

are_some : (old new : List (Bor (List ℕ))) (octets : List ℕ) → Joins old new octets → (l : List Extension) → list_any (λ e. is_among new (octets_of e)) l ≡ (list_any (has_identifier octets) l || list_any (λ e. is_among old (octets_of e)) l)
are_some old new octets joins [] = refl
are_some old new octets joins (e ∷ es) =
    ap (λ b. b || list_any (λ f. is_among new (octets_of f)) es) (is_one old new octets joins e)
    ∙ ap (λ b. (has_identifier octets e || is_among old (octets_of e)) || b) (are_some old new octets joins es)
    ∙ shuffled (has_identifier octets e) (is_among old (octets_of e)) (list_any (has_identifier octets) es) (list_any (λ f. is_among old (octets_of f)) es)

-- an extension that was not seen, and those after it
after_new : (old new : List (Bor (List ℕ))) (e : Extension) (es : List Extension) → is_among old (octets_of e) ≡ false → Joins old new (octets_of e) → repeats new es ≡ repeats old (e ∷ es)
after_new old new e es unseen joins =
    ap (λ b. b || has_repeated es) (are_some old new (octets_of e) joins es)
    ∙ turned (list_any (λ f. is_among old (octets_of f)) es) (list_any (has_identifier (octets_of e)) es) (has_repeated es)
    ∙ sym (ap (λ b. (b || list_any (λ f. is_among old (octets_of f)) es) || has_repeated (e ∷ es)) unseen)

module _ (F : form.Ghosts Extension) (octets : List ℕ) where
  -- the result for the extensions that are left, with those that were seen, is the result for all
  abbrev pub StillRepeats : List (Bor (List ℕ)) → ReaderState → Type 0
  StillRepeats keys now = (all : List Extension) → AreItems F octets all → (left : List Extension) × AreToCome F now left × (repeats keys left ≡ has_repeated all)

  pub repeats_begin : (keys : List (Bor (List ℕ))) (now : ReaderState) → keys ≡ [] → Fits octets → now ≡ new_reader octets Der → StillRepeats keys now
  repeats_begin keys now none fits is = λ all a. (all, all_to_come F octets all now fits is a, nothing_seen keys all none)

  pub repeats_end : (keys : List (Bor (List ℕ))) (now new : ReaderState) → StillRepeats keys now → ReadsOn F now new None → (all : List Extension) → AreItems F octets all → false ≡ has_repeated all
  repeats_end keys now new left on all a =
      let so = left all a in
      sym (ap (repeats keys) (none_to_come F now new so.0 so.1 on)) ∙ so.2

  module _ (alike : (v w : Extension) → F.encoding v ≡ F.encoding w → octets_of v ≡ octets_of w) where
    -- an extension that was not seen, and then those that are left
    pub repeats_on : (old new : List (Bor (List ℕ))) (now next_now : ReaderState) (v : Extension) → StillRepeats old now → ReadsOn F now next_now (Some (Ok v)) → is_among old (octets_of v) ≡ false → Joins old new (octets_of v) → StillRepeats new next_now
    repeats_on old new now next_now v left on unseen joins = λ all a.
        let so = left all a in
        let next = next_of F now next_now so.0 v so.1 on in
        let same = alike next.first v next.same in (
          next.others,
          next.left,
          after_new old new next.first next.others (ap (is_among old) same ∙ unseen) (subst (Joins old new) (sym same) joins)
              ∙ sym (ap (repeats old) next.are) ∙ so.2,
        )

    -- an extension that was seen
    pub repeats_here : (keys : List (Bor (List ℕ))) (now new : ReaderState) (v : Extension) → StillRepeats keys now → ReadsOn F now new (Some (Ok v)) → is_among keys (octets_of v) ≡ true → (all : List Extension) → AreItems F octets all → true ≡ has_repeated all
    repeats_here keys now new v left on seen all a =
        let so = left all a in
        let next = next_of F now new so.0 v so.1 on in
        let first : is_among keys (octets_of next.first) ≡ true = ap (is_among keys) (alike next.first v next.same) ∙ seen in
        sym (ap (λ b. (b || list_any (λ e. is_among keys (octets_of e)) next.others) || has_repeated (next.first ∷ next.others)) first)
        ∙ sym (ap (repeats keys) next.are) ∙ so.2

  -- two of all extensions have the same identifier if and only if two of those that are left have
  abbrev pub StillTwo : ReaderState → Type 0
  StillTwo now = (all : List Extension) → AreItems F octets all → (left : List Extension) × AreToCome F now left × (has_repeated left ≡ has_repeated all)

  pub two_begin : (now : ReaderState) → Fits octets → now ≡ new_reader octets Der → StillTwo now
  two_begin now fits is = λ all a. (all, all_to_come F octets all now fits is a, refl)

  pub two_end : (now new : ReaderState) → StillTwo now → ReadsOn F now new None → (all : List Extension) → AreItems F octets all → false ≡ has_repeated all
  two_end now new left on all a =
      let so = left all a in
      sym (ap has_repeated (none_to_come F now new so.0 so.1 on)) ∙ so.2

  module _ (alike : (v w : Extension) → F.encoding v ≡ F.encoding w → octets_of v ≡ octets_of w) where
    pub two_go : (now new : ReaderState) (v : Extension) (b : Bool) → StillTwo now → ReadsOn F now new (Some (Ok v)) → ((items : List Extension) → AreToCome F new items → b ≡ list_any (has_identifier (octets_of v)) items) → (all : List Extension) → AreItems F octets all → (left : List Extension) × AreToCome F new left × ((b || has_repeated left) ≡ has_repeated all)
    two_go now new v b left on tells all a =
        let so = left all a in
        let next = next_of F now new so.0 v so.1 on in (
          next.others,
          next.left,
          ap (λ c. c || has_repeated next.others) (tells next.others next.left ∙ ap (λ o. list_any (has_identifier o) next.others) (sym (alike next.first v next.same)))
              ∙ sym (ap has_repeated next.are) ∙ so.2,
        )

-- a key that was added was absent
pub was_absent : (added there : Bool) → added ≡ not there → added ≡ true → there ≡ false
was_absent added false a n = refl
was_absent added true a n = sym n ∙ a

-- a key that was not added was present
pub was_present : (added there : Bool) → added ≡ not there → added ≡ false → there ≡ true
was_present added true a n = refl
was_present added false a n = let k : true ≡ false = sym a ∙ n in absurd (cc)
