-- The value of the first extension with an identifier among those that are read again.
use Rattle.std.proofs.Common.{◌≡◌, ℕ, Bool, true, false, List, [], Some, None, Ok, Err, cond, refl, sym, ap, ◌∙◌}
use Rattle.der_tlv.specs.declared.encoding_rules.EncodingRules.TheVariants.{Der}
use Rattle.der_tlv.specs.declared.error.Error.{Error}
use Rattle.der_tlv.specs.ReaderState.{ReaderState, new_reader}
use Rattle.der_elem.specs.Accepting.{Fits}
use Rattle.der_elem.specs.declared.form.Form as form
use Rattle.der_lists.specs.ReadingOn.{ReadsOn}
use Rattle.der_lists.specs.Items.{AreItems, AreToCome}
use Rattle.der_lists.proofs.TestedItems.{all_to_come, next_of, none_to_come, never_refused}
use Rattle.der_opaque.specs.OctetStringRef as string
use Rattle.der_pkix.specs.Certificate.Extension as extension
use Rattle.der_pkix.specs.declared.certificate.extension.Extension.{Extension}
use Rattle.der_verify.specs.EqualEncodings.{SameExtension}
use Rattle.der_verify.specs.Extensions.{has_identifier, value_of}
use Rattle.der_verify.proofs.EncodedAlike.{alike_identifier}

module _ (F : form.Ghosts Extension) (identifier octets : List ℕ) where
  -- the value among the extensions that are left is that among all
  abbrev pub StillValue : ReaderState → Type 0
  StillValue now = (all : List Extension) → AreItems F octets all → (left : List Extension) × AreToCome F now left × (value_of identifier left ≡ value_of identifier all)

  pub value_begin : (now : ReaderState) → Fits octets → now ≡ new_reader octets Der → StillValue now
  value_begin now fits is = λ all a. (all, all_to_come F octets all now fits is a, refl)

  pub value_none : (now new : ReaderState) → StillValue now → ReadsOn F now new None → (all : List Extension) → AreItems F octets all → [] ≡ value_of identifier all
  value_none now new left on all a = let so = left all a in sym (ap (value_of identifier) (none_to_come F now new so.0 so.1 on)) ∙ so.2

  pub value_never : F.TAKES_MEMORY ≡ false → (now new : ReaderState) (e : Error) → StillValue now → ReadsOn F now new (Some (Err e)) → (all : List Extension) → AreItems F octets all → [] ≡ value_of identifier all
  value_never free now new e left on all a = let so = left all a in absurd (never_refused F free now new so.0 e so.1 on)

  module _ (same : (v w : Extension) → F.encoding v ≡ F.encoding w → SameExtension v w) where
    -- the value of an extension, if it has the identifier, and else that among the others
    chosen : Extension → List Extension → Bool → List ℕ
    chosen e others b = cond b (string.octets_of (extension.extn_value e)) (value_of identifier others)

    pub value_here : (now new : ReaderState) (v : Extension) → StillValue now → ReadsOn F now new (Some (Ok v)) → has_identifier identifier v ≡ true → (all : List Extension) → AreItems F octets all → string.octets_of (extension.extn_value v) ≡ value_of identifier all
    unfolding chosen
    value_here now new v left on has all a =
        let so = left all a in
        let next = next_of F now new so.0 v so.1 on in
        let alike = same next.first v next.same in
        let first : has_identifier identifier next.first ≡ true = alike_identifier identifier next.first v alike ∙ has in
        sym alike.value ∙ sym (ap (chosen next.first next.others) first) ∙ sym (ap (value_of identifier) next.are) ∙ so.2

    pub value_on : (now new : ReaderState) (v : Extension) → StillValue now → ReadsOn F now new (Some (Ok v)) → has_identifier identifier v ≡ false → StillValue new
    unfolding chosen
    value_on now new v left on lacks = λ all a.
        let so = left all a in
        let next = next_of F now new so.0 v so.1 on in
        let alike = same next.first v next.same in
        let first : has_identifier identifier next.first ≡ false = alike_identifier identifier next.first v alike ∙ lacks in
        (next.others, next.left, sym (ap (chosen next.first next.others) first) ∙ sym (ap (value_of identifier) next.are) ∙ so.2)
