-- The extensions with an identifier among those that are read again: none, one, or more than one.
use Rattle.std.proofs.Common.{◌≡◌, ℕ, Bool, true, false, ◌||◌, List, [], ◌∷◌, Some, None, Ok, Err, cond, refl, sym, ap, ◌∙◌, subst}
use Rattle.std.specs.Prelude.{filter}
use Rattle.std.specs.List.{list_any}
use Rattle.der_tlv.specs.declared.encoding_rules.EncodingRules.TheVariants.{Der}
use Rattle.der_tlv.specs.declared.error.ErrorKind.TheVariants.{Value}
use Rattle.der_tlv.specs.declared.tag.Tag.TheVariants.{Sequence}
use Rattle.der_tlv.specs.declared.error.Error.{Error}
use Rattle.der_tlv.specs.ReaderState.{ReaderState, new_reader}
use Rattle.der_elem.specs.Accepting.{Fits}
use Rattle.der_elem.specs.declared.form.Form as form
use Rattle.der_lists.specs.ReadingOn.{ReadsOn}
use Rattle.der_lists.specs.Items.{AreItems, AreToCome}
use Rattle.der_lists.proofs.TestedItems.{all_to_come, next_of, none_to_come, never_refused}
use Rattle.der_pkix.specs.declared.certificate.extension.Extension.{Extension}
use Rattle.der_verify.specs.Extensions.{has_identifier, with_identifier, FindsOne}
use Rattle.der_verify.proofs.Steps.{failing, passing}

none_passes : (test : Extension → Bool) (l : List Extension) → list_any test l ≡ false → filter test l ≡ []
none_passes test [] h = refl
none_passes test (e ∷ es) h = at (λ k. none_passes test es k) (test e) refl
  where
    at : (list_any test es ≡ false → filter test es ≡ []) → (b : Bool) → test e ≡ b → filter test (e ∷ es) ≡ []
    at others true t = let k : true ≡ false = sym (ap (λ b. b || list_any test es) t) ∙ h in absurd (cc)
    at others false t = ap (λ b. cond b (e ∷ filter test es) (filter test es)) t ∙ others (sym (ap (λ b. b || list_any test es) t) ∙ h)

-- a list with one extension more
more : (F : form.Ghosts Extension) (test : Extension → Bool) (e : Extension) (error : Error) (l : List Extension) → list_any test l ≡ true → error.kind ≡ Value Sequence → FindsOne F (e ∷ filter test l) (Err error)
more F test e error [] h k = absurd (cc)
more F test e error (f ∷ es) h k = at (λ h. more F test e error es h k) (test f) refl
  where
    at : (list_any test es ≡ true → FindsOne F (e ∷ filter test es) (Err error)) → (b : Bool) → test f ≡ b → FindsOne F (e ∷ filter test (f ∷ es)) (Err error)
    at others true t = subst (λ b. FindsOne F (e ∷ cond b (f ∷ filter test es) (filter test es)) (Err error)) (sym t) k
    at others false t = subst (λ b. FindsOne F (e ∷ cond b (f ∷ filter test es) (filter test es)) (Err error)) (sym t) (others (sym (ap (λ b. b || list_any test es) t) ∙ h))

module _ (F : form.Ghosts Extension) (identifier octets : List ℕ) where
  -- the extensions with the identifier among those that are left are those among all
  abbrev pub StillFinds : ReaderState → Type 0
  StillFinds now = (all : List Extension) → AreItems F octets all → (left : List Extension) × AreToCome F now left × (with_identifier identifier left ≡ with_identifier identifier all)

  pub finds_begin : (now : ReaderState) → Fits octets → now ≡ new_reader octets Der → StillFinds now
  finds_begin now fits is = λ all a. (all, all_to_come F octets all now fits is a, refl)

  pub finds_none : (now new : ReaderState) → StillFinds now → ReadsOn F now new None → (all : List Extension) → AreItems F octets all → FindsOne F (with_identifier identifier all) (Ok None)
  finds_none now new left on all a =
      let so = left all a in
      subst (λ l. FindsOne F l (Ok None)) (sym (ap (with_identifier identifier) (none_to_come F now new so.0 so.1 on)) ∙ so.2) tt

  pub finds_never : F.TAKES_MEMORY ≡ false → (now new : ReaderState) (e : Error) → StillFinds now → ReadsOn F now new (Some (Err e)) → (all : List Extension) → AreItems F octets all → ⊥
  finds_never free now new e left on all a = let so = left all a in never_refused F free now new so.0 e so.1 on

  module _ (alike : (v w : Extension) → F.encoding v ≡ F.encoding w → has_identifier identifier v ≡ has_identifier identifier w) where
    pub finds_on : (now new : ReaderState) (v : Extension) → StillFinds now → ReadsOn F now new (Some (Ok v)) → has_identifier identifier v ≡ false → StillFinds new
    finds_on now new v left on fails = λ all a.
        let so = left all a in
        let next = next_of F now new so.0 v so.1 on in
        let first : has_identifier identifier next.first ≡ false = alike next.first v next.same ∙ fails in
        (next.others, next.left, sym (failing (has_identifier identifier) next.first next.others first) ∙ sym (ap (with_identifier identifier) next.are) ∙ so.2)

    pub finds_one : (now new : ReaderState) (v : Extension) → StillFinds now → ReadsOn F now new (Some (Ok v)) → has_identifier identifier v ≡ true → ((items : List Extension) → AreToCome F new items → false ≡ list_any (has_identifier identifier) items) → (all : List Extension) → AreItems F octets all → FindsOne F (with_identifier identifier all) (Ok (Some v))
    finds_one now new v left on passes none all a =
        let so = left all a in
        let next = next_of F now new so.0 v so.1 on in
        let first : has_identifier identifier next.first ≡ true = alike next.first v next.same ∙ passes in
        let only = passing (has_identifier identifier) next.first next.others first ∙ ap (λ l. next.first ∷ l) (none_passes (has_identifier identifier) next.others (sym (none next.others next.left))) in
        subst (λ l. FindsOne F l (Ok (Some v))) (sym only ∙ sym (ap (with_identifier identifier) next.are) ∙ so.2) (sym next.same)

    pub finds_more : (now new : ReaderState) (v : Extension) (error : Error) → StillFinds now → ReadsOn F now new (Some (Ok v)) → has_identifier identifier v ≡ true → ((items : List Extension) → AreToCome F new items → true ≡ list_any (has_identifier identifier) items) → error.kind ≡ Value Sequence → (all : List Extension) → AreItems F octets all → FindsOne F (with_identifier identifier all) (Err error)
    finds_more now new v error left on passes one kind all a =
        let so = left all a in
        let next = next_of F now new so.0 v so.1 on in
        let first : has_identifier identifier next.first ≡ true = alike next.first v next.same ∙ passes in
        let others = passing (has_identifier identifier) next.first next.others first in
        subst (λ l. FindsOne F l (Err error)) (sym others ∙ sym (ap (with_identifier identifier) next.are) ∙ so.2) (more F (has_identifier identifier) next.first error next.others (sym (one next.others next.left)) kind)
