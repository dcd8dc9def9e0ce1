-- The section and the letter of each step that refuses a list of revoked certificates.
use Rattle.std.specs.Prelude.{ℕ, List, codes}
use Rattle.der_path.specs.declared.list_step.ListStep.{ListStep}
use Rattle.der_path.specs.declared.list_step.ListStep.TheVariants as step

abbrev pub list_letter : ListStep → List ℕ
list_letter step.Delta = codes "5.2.4"
list_letter step.UnknownExtension = codes "5.2"
list_letter step.UnreadEntry = codes "5.3"
list_letter step.UnknownEntryExtension = codes "5.3"
list_letter step.Issuer = codes "6.3.3 (b)(1)"
list_letter step.PointName = codes "6.3.3 (b)(2)(i)"
list_letter step.UserCertificates = codes "6.3.3 (b)(2)(ii)"
list_letter step.CaCertificates = codes "6.3.3 (b)(2)(iii)"
list_letter step.AttributeCertificates = codes "6.3.3 (b)(2)(iv)"
list_letter step.ThisUpdate = codes "5.1.2.4"
list_letter step.NextUpdate = codes "6.3.3 (a)(1)"
list_letter step.NoNewReasons = codes "6.3.3 (e)"
