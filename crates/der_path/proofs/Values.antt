-- The value of the only extension with an identifier.
use Rattle.std.proofs.Common.{◌≡◌, ℕ, ◌<◌, ◌^◌, List, [], ◌∷◌, length, false, Option, Some, None, Ok, Err, sym, ◌∙◌, subst, inl, inr}
use Rattle.der_tlv.specs.declared.encoding_rules.EncodingRules.TheVariants.{Der}
use Rattle.der_tlv.specs.declared.error.Error.{Error}
use Rattle.der_elem.specs.declared.form.Form as form
use Rattle.der_elem.specs.Decoding.{ReadsAll}
use Rattle.der_opaque.specs.OctetStringRef as string
use Rattle.der_pkix.specs.declared.certificate.extension.Extension.{Extension}
use Rattle.der_pkix.specs.Certificate.Extension as extension
use Rattle.der_verify.specs.EqualEncodings.{same_extension}
use Rattle.der_path.specs.declared.facts.NoFacts.{NoFacts}
use Rattle.der_path.specs.Facts.{ShowsOne}
use Rattle.der_path.proofs.Alike.{Finds}

module _ {T : Type 0} (F : form.Ghosts T) where
  -- two extensions with the identifier show refusal value
  pub twice : (es : List Extension) (e : NoFacts) → Finds es (Err e) → (o : Option T) → ShowsOne F es o → ⊥
  twice [] e found o s = absurd found
  twice (x ∷ []) e found o s = absurd found
  twice (x ∷ (y ∷ zs)) e found None s = s
  twice (x ∷ (y ∷ zs)) e found (Some v) s = s

  pub none_there : (es : List Extension) → Finds es (Ok None) → ShowsOne F es None
  none_there [] found = tt
  none_there (x ∷ []) found = absurd found
  none_there (x ∷ (y ∷ zs)) found = absurd found

  module _ (octets : List ℕ) (found : Extension) (is : octets ≡ string.octets_of (extension.extn_value found)) where
    pub value_there : (es : List Extension) (v : T) → Finds es (Ok (Some found)) → ReadsAll F octets (Ok v) → ShowsOne F es (Some v)
    value_there [] v one read = absurd one
    value_there (x ∷ []) v one read = subst (F.accepts Der v) (is ∙ (same_extension found x one).value) read.accepted
    value_there (x ∷ (y ∷ zs)) v one read = absurd one

    pub value_refused : F.TAKES_MEMORY ≡ false → length octets < 2 ^ 32 → (es : List Extension) (e : Error) → Finds es (Ok (Some found)) → ReadsAll F octets (Err e) → (o : Option T) → ShowsOne F es o → ⊥
    value_refused free short [] e one read o s = absurd one
    value_refused free short (x ∷ []) e one (inl ran) o s = absurd (let t = ran.takes in cc)
    value_refused free short (x ∷ []) e one (inr refusal) None s = s
    value_refused free short (x ∷ []) e one (inr refusal) (Some v) s = refusal.nothing v (subst (F.accepts Der v) (sym (is ∙ (same_extension found x one).value)) s) short
    value_refused free short (x ∷ (y ∷ zs)) e one read o s = absurd one
