use Rattle.std.proofs.Common.{◌≡◌, ◌++◌, List, length}
use Rattle.std.specs.Prelude.{filter}
use Rattle.der_pkix.specs.declared.certificate.extension.Extension.{Extension}
use Rattle.der_pkix.specs.Certificate.Certificate as whole
use Rattle.der_pkix.specs.Certificate.TbsCertificate as tbs
use Rattle.der_verify.specs.Rfc5280.{breaks, certificate_rules, AreListed}
use Rattle.der_verify.specs.contracts.shown.MeaningsMeantExtension.TheImpl as extension
use Rattle.der_verify.proofs.rfc5280.check_certificate.Given as goal

-- the rules that were found, and those that are left to check
abbrev pub invariant-each : goal.invariant-each
invariant-each l = (listed : List Extension) → AreListed extension.ghosts.FORM (tbs.extensions (whole.tbs_certificate l.fn.certificate)) listed
    → l.found.items ++ filter (λ r. breaks r l.fn.certificate listed) l.left ≡ filter (λ r. breaks r l.fn.certificate listed) certificate_rules

abbrev pub decreases-each : goal.decreases-each
decreases-each l = length l.left
