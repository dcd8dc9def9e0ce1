-- The extensions of a certificate that was read.
use Rattle.std.proofs.Common.{ℕ, List, [], ◌∷◌, Option, Some, None, option_map, refl, sym, subst}
use Rattle.std.specs.Borrow.{Bor}
use Rattle.der_tlv.specs.declared.encoding_rules.EncodingRules.TheVariants.{Der}
use Rattle.der_elem.specs.Options.{accepts_option}
use Rattle.der_lists.specs.Items.{AreItems}
use Rattle.der_pkix.specs.declared.certificate.certificate.Certificate.{Certificate}
use Rattle.der_pkix.specs.declared.certificate.extension.Extension.{Extension}
use Rattle.der_pkix.specs.declared.certificate.extensions.Extensions.{Extensions}
use Rattle.der_pkix.specs.declared.certificate.tbs_certificate.TbsCertificate.{TbsCertificate}
use Rattle.der_pkix.specs.Certificate.Certificate as certificate
use Rattle.der_pkix.specs.Certificate.TbsCertificate as tbs
use Rattle.der_verify.specs.Rfc5280.{AreListed}
use Rattle.der_path.specs.contracts.meanings.MeaningsMeantExtension.TheImpl as extension_form
use Rattle.der_path.specs.contracts.meanings.MeaningsMeantExtensions.TheImpl as extensions_form
use Rattle.der_path.specs.contracts.meanings.MeaningsMeantTbsCertificate.TheImpl as tbs_form
use Rattle.der_path.specs.Chains.{AreAllListed, EachRead}

record Listed (x : Option Extensions) : Type 0 where
  pub listed : List Extension
  pub are : AreListed extension_form.ghosts.FORM x listed

listed_in : (x : Extensions) (octets : List ℕ) → extensions_form.ghosts.FORM.accepts Der x octets → Listed (Some x)
listed_in x octets a = let kept = a.2.0 in record {
  listed = kept.read.value;
  are = subst (λ o. AreItems extension_form.ghosts.FORM o kept.read.value) (sym kept.own) kept.read.accepted;
}

module _ {E : Type 0} (held : E → Extensions) (accepts : E → List ℕ → Type 0) (each : (e : E) (octets : List ℕ) → accepts e octets → Listed (Some (held e))) where
  listed_if : (e : Option E) (octets : List ℕ) → accepts_option accepts e octets → Listed (option_map held e)
  listed_if None octets a = record { listed = []; are = refl }
  listed_if (Some e) octets a = each e octets a

listed_of : (v : TbsCertificate) (octets : List ℕ) → tbs_form.ghosts.FORM.accepts Der v octets → Listed (tbs.extensions v)
listed_of v octets a =
    let last = a.2.rest.rest.rest.rest.rest.rest.rest.rest.rest in
    listed_if (λ e. e.fields.first) _ (λ e octets a. listed_in e.fields.first a.2.front a.2.first) v.fields.list.rest.rest.rest.rest.rest.rest.rest.rest.list.rest.first last.front last.first

-- the extensions of each certificate of a chain
pub listed_chain : (chain : List (Bor (List ℕ))) (certificates : List Certificate) → EachRead chain certificates → AreAllListed certificates
listed_chain [] [] each = record { lists = []; are = tt }
listed_chain [] (c ∷ cs) each = absurd each
listed_chain (o ∷ os) [] each = absurd each
listed_chain (o ∷ os) (c ∷ cs) each =
    let a = each.0.accepted in
    let first = listed_of (certificate.tbs_certificate c) a.2.front a.2.first in
    let others = listed_chain os cs each.1 in
    record { lists = first.listed ∷ others.lists; are = (first.are, others.are) }
