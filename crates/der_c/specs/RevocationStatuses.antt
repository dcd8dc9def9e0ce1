-- What lists of revoked certificates at byte ranges say of the certificate at another (RFC 5280 6.3.3, with distribution points, indirect lists and deltas).
use Rattle.std.specs.Prelude.{◌≡◌, ◌⊎◌, ℕ, nat_lt, List, length, Bool, Option, Some, None, Result, Ok, Err}
use Rattle.der_pkix.specs.Certificate.Certificate as certificate_fields
use Rattle.der_pkix.specs.Certificate.TbsCertificate as tbs_fields
use Rattle.der_pkix.specs.declared.certificate.certificate.Certificate.{Certificate}
use Rattle.der_pkix.specs.declared.certificate.extension.Extension.{Extension}
use Rattle.der_pkix.specs.declared.crl.certificate_list.CertificateList.{CertificateList}
use Rattle.der_places.specs.declared.place.Place.{Place}
use Rattle.der_verify.specs.Rfc5280.{AreListed}
use Rattle.der_path.specs.declared.revocation.Revoked.{Revoked}
use Rattle.der_path.specs.declared.status.RevocationError.{RevocationError}
use Rattle.der_path.specs.declared.status.RevocationError.TheVariants as error
use Rattle.der_path.specs.declared.status.RevocationStatus.{RevocationStatus}
use Rattle.der_path.specs.declared.status.RevocationStatus.TheVariants as status
use Rattle.der_path.specs.Status.{AnswersStatus}
use Rattle.der_c.specs.contracts.path.meanings.MeaningsMeantCertificate.TheImpl as certificate_form
use Rattle.der_c.specs.contracts.path.meanings.MeaningsMeantCertificateList.TheImpl as list_form
use Rattle.der_c.specs.contracts.path.meanings.MeaningsMeantExtension.TheImpl as extension_form
use Rattle.der_c.specs.declared.fault.Fault.{Fault}
use Rattle.der_c.specs.declared.path.refusal.PathRefusal.{PathRefusal}
use Rattle.der_c.specs.declared.revocation.lists.RevocationStatusAt.{RevocationStatusAt}
use Rattle.der_c.specs.Answers.{NoFault, fault_of_call}
use Rattle.der_c.specs.Building.{IsAt}
use Rattle.der_c.specs.ChainFaults.{refusal_at, HasNoneOf, NoneThere}
use Rattle.der_c.specs.ChainPlaces.{EachOf}
use Rattle.der_c.specs.ListStatuses.{date_of_revoked, reason_of_revoked}
use Rattle.der_c.specs.StatusNumbers.{reason_bits}
use Rattle.der_c.specs.StatusRefusals.{IsThere}

-- UNREVOKED, revoked, or UNDETERMINED (6.3.3)
abbrev pub number_of_revocation : RevocationStatus → ℕ
number_of_revocation status.Unrevoked = 0
number_of_revocation (status.Revoked r) = 1
number_of_revocation (status.Undetermined known) = 2

abbrev pub revoked_of : RevocationStatus → Option Revoked
revoked_of status.Unrevoked = None
revoked_of (status.Revoked r) = Some r
revoked_of (status.Undetermined known) = None

-- the reasons that are known if the lists do not tell, or 0
abbrev pub reasons_of_revocation : RevocationStatus → ℕ
reasons_of_revocation status.Unrevoked = 0
reasons_of_revocation (status.Revoked r) = 0
reasons_of_revocation (status.Undetermined known) = reason_bits known

-- what so many lists say, as it is written
abbrev pub revocation_status_at : RevocationStatus → ℕ → RevocationStatusAt
revocation_status_at s count = record {
  revocation_date = date_of_revoked (revoked_of s);
  refused_index = count;
  status = number_of_revocation s;
  reason = reason_of_revoked (revoked_of s);
  reasons = reasons_of_revocation s;
  reserved = 0;
}

-- lists say nothing: all but the index of the list that is not read is 0
abbrev pub no_revocation_status : ℕ → RevocationStatusAt
no_revocation_status index = record { revocation_date = 0; refused_index = index; status = 0; reason = 0; reasons = 0; reserved = 0 }

-- what 6.3.3 says of the certificate and the lists that the grammar reads at byte ranges
pub record TellsStatus (octets : List ℕ) (certificate_at : Place) (lists_at : List Place) (moment : ℕ) (use_deltas : Bool) (result : Result RevocationStatus RevocationError) : Type 0 where
  pub certificate : Certificate
  pub is_certificate : IsAt certificate_form.ghosts.FORM octets certificate_at certificate
  pub lists : List CertificateList
  pub are_lists : EachOf list_form.ghosts.FORM octets lists_at lists
  pub answers : (listed : List Extension)
      → AreListed extension_form.ghosts.FORM (tbs_fields.extensions (certificate_fields.tbs_certificate certificate)) listed
      → AnswersStatus certificate listed lists moment use_deltas result

-- no certificate is read from its byte range; the index is the number of lists
pub record HasNoTarget (octets : List ℕ) (certificate_at : Place) (count : ℕ) (refusal : PathRefusal) : Type 0 where
  pub fault : Fault
  pub none : NoneThere certificate_form.ghosts.FORM octets certificate_at fault
  pub refusal_is : refusal ≡ refusal_at fault count

-- the refusal for an error of 6.3.3, of so many lists: 1; 105: an extension of the certificate cannot be read
abbrev pub refusal_of_status : RevocationError → ℕ → PathRefusal
refusal_of_status error.Memory count = refusal_at (fault_of_call 1) count
refusal_of_status error.UnreadCertificate count = refusal_at (fault_of_call 105) count

-- 6.3.3 gives an error
pub record IsRefusedStatus (octets : List ℕ) (certificate_at : Place) (lists_at : List Place) (moment : ℕ) (use_deltas : Bool) (refusal : PathRefusal) : Type 0 where
  pub why : RevocationError
  pub tells : TellsStatus octets certificate_at lists_at moment use_deltas (Err why)
  pub refusal_is : refusal ≡ refusal_of_status why (length lists_at)

-- why lists say nothing: the certificate is not read, then the first list that is not read, then the error of 6.3.3
abbrev pub RefusesStatus : List ℕ → Place → List Place → ℕ → Bool → PathRefusal → Type 0
RefusesStatus octets certificate_at lists_at moment use_deltas refusal =
    HasNoTarget octets certificate_at (length lists_at) refusal
    ⊎ ((IsThere certificate_form.ghosts.FORM octets certificate_at × HasNoneOf list_form.ghosts.FORM octets lists_at refusal)
    ⊎ IsRefusedStatus octets certificate_at lists_at moment use_deltas refusal)

-- the results of telling why lists say nothing
pub record WritesNoStatus (refusal : PathRefusal) (out : RevocationStatusAt) (fault : Fault) (answer : ℕ) : Type 0 where
  pub out_is : out ≡ no_revocation_status refusal.index
  pub written : fault ≡ refusal.fault
  pub number : answer ≡ refusal.fault.number

-- 0: the status, by lists that are read
pub record IsToldByLists (octets : List ℕ) (certificate_at : Place) (lists_at : List Place) (moment : ℕ) (use_deltas : Bool) (out : RevocationStatusAt) (old_fault fault : Fault) (answer : ℕ) : Type 0 where
  pub status : RevocationStatus
  pub tells : TellsStatus octets certificate_at lists_at moment use_deltas (Ok status)
  pub out_is : out ≡ revocation_status_at status (length lists_at)
  pub no_fault : NoFault old_fault fault answer

-- they say nothing
pub record IsNotToldByLists (octets : List ℕ) (certificate_at : Place) (lists_at : List Place) (moment : ℕ) (use_deltas : Bool) (out : RevocationStatusAt) (fault : Fault) (answer : ℕ) : Type 0 where
  pub refusal : PathRefusal
  pub refuses : RefusesStatus octets certificate_at lists_at moment use_deltas refusal
  pub written : WritesNoStatus refusal out fault answer

-- a number other than 0 is true
abbrev pub AnswersRevocation : List ℕ → Place → List Place → ℕ → ℕ → RevocationStatusAt → Fault → Fault → ℕ → Type 0
AnswersRevocation octets certificate_at lists_at moment use_deltas out old_fault fault answer =
    IsToldByLists octets certificate_at lists_at moment (nat_lt 0 use_deltas) out old_fault fault answer
    ⊎ IsNotToldByLists octets certificate_at lists_at moment (nat_lt 0 use_deltas) out fault answer
