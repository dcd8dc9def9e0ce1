use Rattle.std.proofs.Common.{◌≡◌, ◌++◌, List, Option, length}
use Rattle.std.specs.Prelude.{filter}
use Rattle.der_pkix.specs.declared.certificate.extension.Extension.{Extension}
use Rattle.der_pkix.specs.Crl.CertificateList as whole
use Rattle.der_pkix.specs.Crl.TbsCertList as tbs
use Rattle.der_verify.specs.Rfc5280.{AreListed}
use Rattle.der_verify.specs.Rfc5280Lists.{list_breaks, list_rules, AreEntries}
use Rattle.der_verify.specs.contracts.shown.MeaningsMeantRevokedCertificate.TheImpl as entry
use Rattle.der_verify.specs.contracts.shown.MeaningsMeantExtension.TheImpl as extension
use Rattle.der_verify.proofs.rfc5280.lists.check_list.Given as goal

-- the rules that were found, and those that are left to check
abbrev pub invariant-each : goal.invariant-each
invariant-each l = (listed : List Extension) (entries : List (Option (List Extension))) → AreListed extension.ghosts.FORM (tbs.crl_extensions (whole.tbs_cert_list l.fn.list)) listed → AreEntries entry.ghosts.FORM extension.ghosts.FORM (tbs.revoked_certificates (whole.tbs_cert_list l.fn.list)) entries
    → l.found.items ++ filter (λ r. list_breaks r l.fn.list listed entries) l.left ≡ filter (λ r. list_breaks r l.fn.list listed entries) list_rules

abbrev pub decreases-each : goal.decreases-each
decreases-each l = length l.left
