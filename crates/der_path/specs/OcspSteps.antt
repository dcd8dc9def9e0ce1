-- The section of RFC 6960 and the number of each step that refuses an answer.
use Rattle.std.specs.Prelude.{ℕ, List, codes}
use Rattle.der_path.specs.declared.ocsp_step.OcspStep.{OcspStep}
use Rattle.der_path.specs.declared.ocsp_step.OcspStep.TheVariants as step

abbrev pub ocsp_letter : OcspStep → List ℕ
ocsp_letter step.CriticalExtension = codes "4.4"
ocsp_letter step.NotAnswered = codes "3.2 (1)"
ocsp_letter step.ThisUpdate = codes "3.2 (5)"
ocsp_letter step.NextUpdate = codes "3.2 (6)"
ocsp_letter step.NoResponder = codes "3.2 (4)"
