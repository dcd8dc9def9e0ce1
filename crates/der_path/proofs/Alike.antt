-- Lists of extensions with the same encodings show the same.
use Rattle.std.proofs.Common.{◌≡◌, ℕ, List, [], ◌∷◌, map, Bool, true, false, not, ◌&&◌, ◌||◌, Option, Some, None, Result, Ok, Err, cond, if◌then◌else◌, nat_eq, refl, sym, ap, subst, ◌∙◌}
use Rattle.std.specs.Prelude.{filter, IfOk}
use Rattle.std.specs.List.{list_any}
use Rattle.std.specs.Cmp.Lexicographic.{pointwise}
use Rattle.der_elem.specs.Accepting.{Fits}
use Rattle.der_nest.specs.BorrowedSequences.{encodings_of_items}
use Rattle.der_lists.specs.Items.{AreItems}
use Rattle.der_opaque.specs.ObjectIdentifierRef as identifier
use Rattle.der_pkix.specs.Certificate.Extension as extension
use Rattle.der_pkix.specs.declared.certificate.extension.Extension.{Extension}
use Rattle.der_verify.specs.EqualEncodings.{same_extension, SameExtension}
use Rattle.der_verify.specs.Extensions.{has_identifier, with_identifier}
use Rattle.der_verify.specs.Shown.{AreShown, Encodes, ShowEach}
use Rattle.der_verify.proofs.EncodedAlike.{alike_identifier}
use Rattle.der_verify.proofs.Steps.{failing, passing}
use Rattle.der_path.specs.contracts.meanings.MeaningsMeantExtension.TheImpl as extension_form
use Rattle.der_path.specs.declared.facts.NoFacts.{NoFacts}
use Rattle.der_path.specs.declared.facts.NoFacts.TheVariants as none
use Rattle.der_path.specs.Extensions.{only, only_extension, Alike}
use Rattle.der_path.specs.Facts.{has_unknown_critical, is_processed, is_unknown_critical}

same_encodings : (xs ys : List Extension) → map extension_form.ghosts.FORM.encoding xs ≡ map extension_form.ghosts.FORM.encoding ys → Alike xs ys
same_encodings [] [] e = tt
same_encodings [] (y ∷ ys) e = absurd (cc)
same_encodings (x ∷ xs) [] e = absurd (cc)
same_encodings (x ∷ xs) (y ∷ ys) e =
    let told : extension_form.ghosts.FORM.encoding x ∷ map extension_form.ghosts.FORM.encoding xs ≡ extension_form.ghosts.FORM.encoding y ∷ map extension_form.ghosts.FORM.encoding ys = e in
    (cc, same_encodings xs ys (cc))

selves : (items kept : List Extension) → ShowEach (λ v x. x ≡ v) items kept → items ≡ kept
selves [] [] s = refl
selves [] (k ∷ ks) s = absurd s
selves (i ∷ is) [] s = absurd s
selves (i ∷ is) (k ∷ ks) s = ap (λ x. x ∷ is) (sym s.0) ∙ ap (λ l. k ∷ l) (selves is ks s.1)

-- the items that are kept are those of the octets
pub kept_alike : (octets : List ℕ) (listed kept : List Extension) → Fits octets → AreItems extension_form.ghosts.FORM octets listed → AreShown extension_form.ghosts.FORM (λ v x. x ≡ v) octets kept → Alike listed kept
kept_alike octets listed kept fits a shown =
    subst (Alike listed) (selves shown.items kept shown.show)
    (same_encodings listed shown.items (sym (encodings_of_items extension_form.ghosts.FORM listed octets a fits) ∙ encodings_of_items extension_form.ghosts.FORM shown.items octets shown.are fits))

pub if_ok : {X E : Type 0} (P Q : X → Type 0) → ((x : X) → P x → Q x) → (r : Result X E) → IfOk r P → IfOk r Q
if_ok P Q f (Ok x) p = f x p
if_ok P Q f (Err e) p = tt

alike_unknown : (v w : Extension) → SameExtension v w → is_unknown_critical v ≡ is_unknown_critical w
alike_unknown v w s =
    ap (λ b. b && not (is_processed (identifier.octets_of (extension.extn_id v)))) s.critical
    ∙ ap (λ o. extension.critical w && not (is_processed o)) s.identifier

module _ (test : Extension → Bool) (respects : (v w : Extension) → SameExtension v w → test v ≡ test w) where
  any_alike : (listed kept : List Extension) → Alike listed kept → list_any test listed ≡ list_any test kept
  any_alike [] [] a = refl
  any_alike [] (k ∷ ks) a = absurd a
  any_alike (e ∷ es) [] a = absurd a
  any_alike (e ∷ es) (k ∷ ks) a =
      ap (λ b. b || list_any test es) (respects e k (same_extension e k (sym a.0))) ∙ ap (λ b. test k || b) (any_alike es ks a.1)

pub unknown_alike : (listed kept : List Extension) → Alike listed kept → has_unknown_critical listed ≡ has_unknown_critical kept
unknown_alike = any_alike is_unknown_critical alike_unknown

-- the only one of a list, none for an empty list, or an error for more than one
abbrev pub Finds : List Extension → Result (Option Extension) NoFacts → Type 0
Finds [] (Ok None) = Unit {0}
Finds (e ∷ []) (Ok (Some found)) = extension_form.ghosts.FORM.encoding found ≡ extension_form.ghosts.FORM.encoding e
Finds (e ∷ (f ∷ others)) (Err none.Unread) = Unit {0}
Finds _ _ = ⊥

none_passes : (test : Extension → Bool) (l : List Extension) → list_any test l ≡ false → filter test l ≡ []
none_passes test [] h = refl
none_passes test (e ∷ es) h = at (λ k. none_passes test es k) (test e) refl
  where
    at : (list_any test es ≡ false → filter test es ≡ []) → (b : Bool) → test e ≡ b → filter test (e ∷ es) ≡ []
    at others true t = let k : true ≡ false = sym (ap (λ b. b || list_any test es) t) ∙ h in absurd (cc)
    at others false t = failing test e es t ∙ others (sym (ap (λ b. b || list_any test es) t) ∙ h)

-- a list with one extension more
more : (test : Extension → Bool) (e : Extension) (l : List Extension) → list_any test l ≡ true → Finds (e ∷ filter test l) (Err none.Unread)
more test e [] h = absurd (cc)
more test e (f ∷ es) h = at (λ h. more test e es h) (test f) refl
  where
    at : (list_any test es ≡ true → Finds (e ∷ filter test es) (Err none.Unread)) → (b : Bool) → test f ≡ b → Finds (e ∷ filter test (f ∷ es)) (Err none.Unread)
    at others true t = subst (λ l. Finds (e ∷ l) (Err none.Unread)) (sym (passing test f es t)) tt
    at others false t = subst (λ l. Finds (e ∷ l) (Err none.Unread)) (sym (failing test f es t)) (others (sym (ap (λ b. b || list_any test es) t) ∙ h))

module _ (identifier : List ℕ) where
  test : Extension → Bool
  test = has_identifier identifier

  chosen : (e k : Extension) (es : List Extension) → Encodes extension_form.ghosts.FORM e k → (c : Bool) → list_any (has_identifier identifier) es ≡ c → Finds (e ∷ with_identifier identifier es) (only k c)
  chosen e k es same true h = more (has_identifier identifier) e es h
  chosen e k es same false h = subst (λ l. Finds (e ∷ l) (Ok (Some k))) (sym (none_passes (has_identifier identifier) es h)) same

  -- the extension that is found among those that are kept
  pub finds : (listed kept : List Extension) → Alike listed kept → Finds (with_identifier identifier listed) (only_extension identifier kept)
  finds [] [] a = tt
  finds [] (k ∷ ks) a = absurd a
  finds (e ∷ es) [] a = absurd a
  finds (e ∷ es) (k ∷ ks) a = at (finds es ks a.1) (has_identifier identifier e) refl
    where
      as_kept : has_identifier identifier e ≡ has_identifier identifier k
      as_kept = alike_identifier identifier e k (same_extension e k (sym a.0))

      as_others : list_any (has_identifier identifier) es ≡ list_any (has_identifier identifier) ks
      as_others = any_alike (has_identifier identifier) (alike_identifier identifier) es ks a.1

      others : Result (Option Extension) NoFacts
      others = only_extension identifier ks

      first : Result (Option Extension) NoFacts
      first = only k (list_any (has_identifier identifier) ks)

      at : Finds (with_identifier identifier es) (only_extension identifier ks) → (b : Bool) → has_identifier identifier e ≡ b → Finds (with_identifier identifier (e ∷ es)) (only_extension identifier (k ∷ ks))
      at behind true t =
          subst (λ l. Finds l (only_extension identifier (k ∷ ks))) (sym (passing (has_identifier identifier) e es t))
          (subst (λ b. Finds (e ∷ with_identifier identifier es) (if b then first else others)) (sym t ∙ as_kept)
          (chosen e k es a.0 (list_any (has_identifier identifier) ks) as_others))
      at behind false t =
          subst (λ l. Finds l (only_extension identifier (k ∷ ks))) (sym (failing (has_identifier identifier) e es t))
          (subst (λ b. Finds (with_identifier identifier es) (if b then first else others)) (sym t ∙ as_kept) behind)
