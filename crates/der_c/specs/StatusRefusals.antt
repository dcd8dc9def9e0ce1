-- Why a list or an answer does not tell the status of a certificate, as numbers.
use Rattle.std.specs.Prelude.{◌≡◌, ℕ, List}
use Rattle.der_elem.specs.declared.form.Form as form
use Rattle.der_places.specs.declared.place.Place.{Place}
use Rattle.der_path.specs.declared.ocsp.OcspError.{OcspError}
use Rattle.der_path.specs.declared.ocsp.OcspError.TheVariants as ocsp_error
use Rattle.der_path.specs.declared.revocation.ListError.{ListError}
use Rattle.der_path.specs.declared.revocation.ListError.TheVariants as error
use Rattle.der_c.specs.declared.fault.Fault.{Fault}
use Rattle.der_c.specs.declared.revocation.refusal.StatusRefusal.{StatusRefusal}
use Rattle.der_c.specs.Answers.{fault_of_call}
use Rattle.der_c.specs.Building.{IsAt}
use Rattle.der_c.specs.ChainFaults.{NoneThere}
use Rattle.der_c.specs.StatusNumbers.{number_of_list_step, number_of_ocsp_step}

-- an error that is of no step
abbrev pub no_status : Fault → StatusRefusal
no_status fault = record { fault = fault; step = 0 }

-- 1; 105: an extension of the certificate cannot be read; 109: one of the list; 107 with the step
abbrev pub refusal_of_list : ListError → StatusRefusal
refusal_of_list error.Memory = no_status (fault_of_call 1)
refusal_of_list error.UnreadCertificate = no_status (fault_of_call 105)
refusal_of_list error.UnreadList = no_status (fault_of_call 109)
refusal_of_list (error.Refused x) = record { fault = fault_of_call 107; step = number_of_list_step x }

-- 1; 108 with the step
abbrev pub refusal_of_answer : OcspError → StatusRefusal
refusal_of_answer ocsp_error.Memory = no_status (fault_of_call 1)
refusal_of_answer (ocsp_error.Refused x) = record { fault = fault_of_call 108; step = number_of_ocsp_step x }

-- a value is read from a byte range
pub record IsThere {T : Type 0} (F : form.Ghosts T) (octets : List ℕ) (place : Place) : Type 0 where
  pub value : T
  pub is_at : IsAt F octets place value

-- no value is read from a byte range, and this is the refusal
pub record IsNotThere {T : Type 0} (F : form.Ghosts T) (octets : List ℕ) (place : Place) (refusal : StatusRefusal) : Type 0 where
  pub fault : Fault
  pub none : NoneThere F octets place fault
  pub refusal_is : refusal ≡ no_status fault
