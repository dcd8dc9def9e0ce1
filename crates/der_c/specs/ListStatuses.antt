-- What a list of revoked certificates at a byte range says of the certificate at another (RFC 5280 6.3.3).
use Rattle.std.specs.Prelude.{◌≡◌, ◌⊎◌, ℕ, List, Option, Some, None, is_some, Result, Ok, Err}
use Rattle.der_pkix.specs.Certificate.Certificate as certificate_fields
use Rattle.der_pkix.specs.Certificate.TbsCertificate as tbs_fields
use Rattle.der_pkix.specs.Crl.CertificateList as list_fields
use Rattle.der_pkix.specs.Crl.TbsCertList as tbs_list_fields
use Rattle.der_pkix.specs.declared.certificate.certificate.Certificate.{Certificate}
use Rattle.der_pkix.specs.declared.certificate.extension.Extension.{Extension}
use Rattle.der_pkix.specs.declared.crl.certificate_list.CertificateList.{CertificateList}
use Rattle.der_places.specs.declared.place.Place.{Place}
use Rattle.der_verify.specs.Rfc5280.{AreListed}
use Rattle.der_path.specs.declared.revocation.ListError.{ListError}
use Rattle.der_path.specs.declared.revocation.ListStatus.{ListStatus}
use Rattle.der_path.specs.declared.revocation.Revoked.{Revoked}
use Rattle.der_path.specs.Revocation.{AnswersList}
use Rattle.der_c.specs.contracts.path.meanings.MeaningsMeantCertificate.TheImpl as certificate_form
use Rattle.der_c.specs.contracts.path.meanings.MeaningsMeantCertificateList.TheImpl as list_form
use Rattle.der_c.specs.contracts.path.meanings.MeaningsMeantExtension.TheImpl as extension_form
use Rattle.der_c.specs.declared.fault.Fault.{Fault}
use Rattle.der_c.specs.declared.revocation.list.ListStatusAt.{ListStatusAt}
use Rattle.der_c.specs.declared.revocation.refusal.StatusRefusal.{StatusRefusal}
use Rattle.der_c.specs.Answers.{NoFault}
use Rattle.der_c.specs.Bits.{bit}
use Rattle.der_c.specs.Building.{IsAt}
use Rattle.der_c.specs.StatusNumbers.{number_of_reason, reason_bits}
use Rattle.der_c.specs.StatusRefusals.{refusal_of_list, IsNotThere, IsThere}
use Rattle.der_c.specs.Times.{seconds_of}

-- since when a certificate is revoked, and why; 0 if it is not
abbrev pub date_of_revoked : Option Revoked → ℕ
date_of_revoked None = 0
date_of_revoked (Some r) = seconds_of r.date

abbrev pub reason_of_revoked : Option Revoked → ℕ
reason_of_revoked None = 0
reason_of_revoked (Some r) = number_of_reason r.reason

-- what a list says, as it is written
abbrev pub list_status_at : ListStatus → ListStatusAt
list_status_at s = record {
  revocation_date = date_of_revoked s.revoked;
  is_revoked = bit (is_some s.revoked);
  reason = reason_of_revoked s.revoked;
  reasons = reason_bits s.reasons;
  step = 0;
}

-- a list says nothing: all but the step is 0
abbrev pub no_list_status : ℕ → ListStatusAt
no_list_status step = record { revocation_date = 0; is_revoked = 0; reason = 0; reasons = 0; step = step }

-- what 6.3.3 says of the certificate and the list that the grammar reads at two byte ranges
pub record TellsList (octets : List ℕ) (certificate_at list_at : Place) (moment : ℕ) (result : Result ListStatus ListError) : Type 0 where
  pub certificate : Certificate
  pub is_certificate : IsAt certificate_form.ghosts.FORM octets certificate_at certificate
  pub crl : CertificateList
  pub is_list : IsAt list_form.ghosts.FORM octets list_at crl
  pub answers : (listed own : List Extension)
      → AreListed extension_form.ghosts.FORM (tbs_fields.extensions (certificate_fields.tbs_certificate certificate)) listed
      → AreListed extension_form.ghosts.FORM (tbs_list_fields.crl_extensions (list_fields.tbs_cert_list crl)) own
      → AnswersList certificate listed crl own moment result

-- 6.3.3 gives an error
pub record IsRefusedList (octets : List ℕ) (certificate_at list_at : Place) (moment : ℕ) (refusal : StatusRefusal) : Type 0 where
  pub error : ListError
  pub tells : TellsList octets certificate_at list_at moment (Err error)
  pub refusal_is : refusal ≡ refusal_of_list error

-- why a list says nothing: the first of the two that is not read, or the error of 6.3.3
abbrev pub RefusesList : List ℕ → Place → Place → ℕ → StatusRefusal → Type 0
RefusesList octets certificate_at list_at moment refusal =
    IsNotThere certificate_form.ghosts.FORM octets certificate_at refusal
    ⊎ ((IsThere certificate_form.ghosts.FORM octets certificate_at × IsNotThere list_form.ghosts.FORM octets list_at refusal)
    ⊎ IsRefusedList octets certificate_at list_at moment refusal)

-- the results of telling why a list says nothing
pub record WritesNoList (refusal : StatusRefusal) (out : ListStatusAt) (fault : Fault) (answer : ℕ) : Type 0 where
  pub out_is : out ≡ no_list_status refusal.step
  pub written : fault ≡ refusal.fault
  pub number : answer ≡ refusal.fault.number

-- 0: the list says whether the certificate is revoked
pub record IsToldByList (octets : List ℕ) (certificate_at list_at : Place) (moment : ℕ) (out : ListStatusAt) (old_fault fault : Fault) (answer : ℕ) : Type 0 where
  pub status : ListStatus
  pub tells : TellsList octets certificate_at list_at moment (Ok status)
  pub out_is : out ≡ list_status_at status
  pub no_fault : NoFault old_fault fault answer

-- it says nothing
pub record IsNotToldByList (octets : List ℕ) (certificate_at list_at : Place) (moment : ℕ) (out : ListStatusAt) (fault : Fault) (answer : ℕ) : Type 0 where
  pub refusal : StatusRefusal
  pub refuses : RefusesList octets certificate_at list_at moment refusal
  pub written : WritesNoList refusal out fault answer

abbrev pub AnswersListAt : List ℕ → Place → Place → ℕ → ListStatusAt → Fault → Fault → ℕ → Type 0
AnswersListAt octets certificate_at list_at moment out old_fault fault answer =
    IsToldByList octets certificate_at list_at moment out old_fault fault answer
    ⊎ IsNotToldByList octets certificate_at list_at moment out fault answer
