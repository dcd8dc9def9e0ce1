-- Each rule for lists but the first is about the signed part.
use Rattle.std.proofs.Common.{◌≡◌, List, Option, refl}
use Rattle.der_pkix.specs.Crl.CertificateList as list
use Rattle.der_pkix.specs.declared.certificate.extension.Extension.{Extension}
use Rattle.der_pkix.specs.declared.crl.certificate_list.CertificateList.{CertificateList}
use Rattle.der_pkix.specs.declared.crl.tbs_cert_list.TbsCertList.{TbsCertList}
use Rattle.der_verify.specs.Rfc5280Lists.{list_breaks, list_breaks_inside, list_breaks_otherwise, list_breaks_within}
use Rattle.der_verify.specs.declared.rfc5280.lists.ListRule.{ListRule}
use Rattle.der_verify.specs.declared.rfc5280.lists.ListRule.TheVariants as rule

pub within : (r : ListRule) (c : CertificateList) (listed : List Extension) (entries : List (Option (List Extension))) → (r ≡ rule.AlgorithmsAgree → ⊥) → list_breaks_within r (list.tbs_cert_list c) listed entries ≡ list_breaks r c listed entries
within rule.AlgorithmsAgree c listed entries other = absurd (other refl)
within r c listed entries other = refl

-- the other rules are about the version, dates, or values
pub inside : (r : ListRule) (c : TbsCertList) (listed : List Extension) (entries : List (Option (List Extension)))
    → (r ≡ rule.ExtensionsInVersion2 → ⊥) → (r ≡ rule.IssuerIsNotEmpty → ⊥) → (r ≡ rule.NextUpdateIsThere → ⊥) → (r ≡ rule.EmptyListIsAbsent → ⊥) → (r ≡ rule.ExtensionsStandOnce → ⊥)
    → list_breaks_inside r c listed entries ≡ list_breaks_otherwise r c listed entries
inside rule.ExtensionsInVersion2 c listed entries version issuer next empty once = absurd (version refl)
inside rule.IssuerIsNotEmpty c listed entries version issuer next empty once = absurd (issuer refl)
inside rule.NextUpdateIsThere c listed entries version issuer next empty once = absurd (next refl)
inside rule.EmptyListIsAbsent c listed entries version issuer next empty once = absurd (empty refl)
inside rule.ExtensionsStandOnce c listed entries version issuer next empty once = absurd (once refl)
inside r c listed entries version issuer next empty once = refl
