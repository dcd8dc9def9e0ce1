-- The lists that a caller trusts, and which delta updates a complete list (RFC 5280 sections 5.2.4 and 6.3.3 (c)).
use Rattle.std.specs.Prelude.{◌≡◌, ℕ, nat_eq, nat_lt, List, [], ◌∷◌, Bool, true, false, not, ◌&&◌, if◌then◌else◌, Option, Some, None, is_some, option_copied, option_map}
use Rattle.std.specs.Cmp.Lexicographic.{pointwise}
use Rattle.std.specs.List.{list_any}
use Rattle.der_nest.specs.SequenceRef as sequence
use Rattle.der_nest.specs.declared.sequence_ref.SequenceRef.{SequenceRef}
use Rattle.der_numbers.specs.declared.uint_ref.UintRef.{UintRef}
use Rattle.der_pkix.specs.Crl.CertificateList as list
use Rattle.der_pkix.specs.Crl.TbsCertList as tbs_list
use Rattle.der_pkix.specs.declared.certificate.extension.Extension.{Extension}
use Rattle.der_pkix.specs.declared.crl.certificate_list.CertificateList.{CertificateList}
use Rattle.der_pkix.specs.declared.crl.tbs_cert_list.TbsCertList.{TbsCertList}
use Rattle.der_verify.specs.Rfc5280.{AreListed}
use Rattle.der_path.specs.contracts.meanings.MeaningsMeantExtension.TheImpl as extension_form
use Rattle.der_path.specs.contracts.meanings.MeaningsMeantSequenceRef.TheImpl as sequence_form
use Rattle.der_path.specs.declared.deltas.Trusted.{Trusted}
use Rattle.der_path.specs.declared.deltas.TrustedList.{TrustedList}
use Rattle.der_path.specs.declared.deltas.TrustedList.TheVariants as trusted
use Rattle.der_path.specs.declared.revocation_facts.ListFacts.{ListFacts}
use Rattle.der_path.specs.Counters.{number_of}
use Rattle.der_path.specs.Facts.{ShowsValue}
use Rattle.der_path.specs.Revocation.{entry_has_unknown, is_unread, time_fault}
use Rattle.der_path.specs.RevocationFacts.{ShowsList}
use Rattle.der_path.specs.Subtrees.{same_names}

abbrev pub octets_in : Option SequenceRef → Option (List ℕ)
octets_in value = option_map sequence.octets_of value

-- the facts of a list with these extensions, and the contents octets of issuingDistributionPoint (5.2.5) and authorityKeyIdentifier (5.2.1)
pub record ShowsTrusted (l : TbsCertList) (listed : List Extension) (t : Trusted) : Type 0 where
  pub facts : ShowsList l listed t.facts
  pub scope : Option SequenceRef
  pub is_scope : ShowsValue sequence_form.ghosts.FORM 28 listed scope
  pub scope_is : option_copied t.scope ≡ octets_in scope
  pub key : Option SequenceRef
  pub is_key : ShowsValue sequence_form.ghosts.FORM 35 listed key
  pub key_is : option_copied t.key ≡ octets_in key

-- what is kept of a list: its facts, or that it shows none
abbrev pub IsTrusted : TbsCertList → List Extension → TrustedList → Type 0
IsTrusted l listed (trusted.Read t) = ShowsTrusted l listed t
IsTrusted l listed trusted.Unread = (t : Trusted) → ShowsTrusted l listed t → ⊥

abbrev pub ShowsTrustedList : CertificateList → TrustedList → Type 0
ShowsTrustedList l t = (listed : List Extension) → AreListed extension_form.ghosts.FORM (tbs_list.crl_extensions (list.tbs_cert_list l)) listed → IsTrusted (list.tbs_cert_list l) listed t

-- 5.2.4 (c): the number of the complete CRL is at least the BaseCRLNumber of the delta CRL, (d): and less than the number of the delta CRL
abbrev pub follows : Option UintRef → Option UintRef → Option UintRef → Bool
follows (Some base) (Some number) (Some delta) = not (nat_lt (number_of number) (number_of base)) && nat_lt (number_of number) (number_of delta)
follows _ _ _ = false

abbrev pub same_octets : Option (List ℕ) → Option (List ℕ) → Bool
same_octets None None = true
same_octets (Some first) (Some second) = pointwise nat_eq first second
same_octets _ _ = false

-- 6.3.3 (c)(1): "Verify that the delta CRL issuer matches the complete CRL issuer.", (2) of issuingDistributionPoint, (3): "Verify that the delta CRL authority key identifier extension matches the complete CRL authority key identifier extension."
abbrev pub has_same_scope : Trusted → Trusted → Bool
has_same_scope delta complete = same_names delta.facts.issuer.items complete.facts.issuer.items && (same_octets (option_copied delta.scope) (option_copied complete.scope) && same_octets (option_copied delta.key) (option_copied complete.key))

-- 5.2: "If a CRL contains a critical extension that the application cannot process, then the application MUST NOT use that CRL", 5.3; and the delta is current
abbrev pub is_usable : ListFacts → ℕ → Bool
is_usable l moment = not (is_some (time_fault l moment)) && (not l.has_unknown_critical && (not (list_any is_unread l.entries.items) && not (list_any entry_has_unknown l.entries.items)))

abbrev pub updates : Trusted → Trusted → ℕ → Bool
updates delta complete moment = follows delta.facts.base complete.facts.number delta.facts.number && (has_same_scope delta complete && is_usable delta.facts moment)

-- the first delta that updates a complete list
abbrev pub delta_for : Trusted → ℕ → List TrustedList → Option Trusted
delta_for complete moment [] = None
delta_for complete moment (trusted.Unread ∷ others) = delta_for complete moment others
delta_for complete moment (trusted.Read delta ∷ others) = if updates delta complete moment then Some delta else delta_for complete moment others
