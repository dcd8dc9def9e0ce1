-- Why no chain of certificates at byte ranges is valid, as numbers.
use Rattle.std.specs.Prelude.{◌≡◌, ◌⊎◌, ℕ, ◌+◌, ◌==◌, min, List, ◌∷◌, ◌++◌, length, if◌then◌else◌}
use Rattle.der_tlv.specs.declared.error.Error.{Error}
use Rattle.der_tlv.specs.declared.error.ErrorKind.TheVariants as kinds
use Rattle.der_elem.specs.declared.form.Form as form
use Rattle.der_places.specs.declared.place.Place.{Place}
use Rattle.der_path.specs.declared.path.PathError.{PathError}
use Rattle.der_path.specs.declared.path.PathError.TheVariants as errors
use Rattle.der_path.specs.declared.step.Step.{Step}
use Rattle.der_path.specs.declared.step.Step.TheVariants as step
use Rattle.der_c.specs.contracts.path.meanings.MeaningsMeantCertificate.TheImpl as certificate_form
use Rattle.der_c.specs.declared.fault.Fault.{Fault}
use Rattle.der_c.specs.declared.path.refusal.PathRefusal.{PathRefusal}
use Rattle.der_c.specs.Answers.{fault_of, fault_of_call}
use Rattle.der_c.specs.Building.{NoneAt}
use Rattle.der_c.specs.ChainPlaces.{EachOf}

-- an error with its position counted from so many octets before, at most 4294967295
abbrev pub moved : Fault → ℕ → Fault
moved fault offset = record {
  number = fault.number;
  is_placed = fault.is_placed;
  position = if fault.is_placed == 0 then fault.position else min (fault.position + offset) 4294967295;
}

-- no value is read from a byte range; the position of the error counts from the start of all octets
pub record NoneThere {T : Type 0} (F : form.Ghosts T) (octets : List ℕ) (place : Place) (fault : Fault) : Type 0 where
  pub own : Fault
  pub none : NoneAt F octets place own
  pub written : fault ≡ moved own place.offset

-- the number of each step
abbrev pub number_of_step : Step → ℕ
number_of_step step.Validity = 1
number_of_step step.Issuer = 2
number_of_step step.Permitted = 3
number_of_step step.Excluded = 4
number_of_step step.Policies = 5
number_of_step step.AnyPolicyIsMapped = 6
number_of_step step.Ca = 7
number_of_step step.PathLength = 8
number_of_step step.KeyUsage = 9
number_of_step step.UnknownExtension = 10
number_of_step step.UnknownExtensionAtEnd = 11
number_of_step step.UserPolicies = 12

-- the refusal of the certificate at an index, or, with their number for the index, of none of the certificates
abbrev pub refusal_at : Fault → ℕ → PathRefusal
refusal_at fault at = record { fault = fault; index = at; step = 0 }

-- the refusal for an error of 6.1, of so many certificates: 1, 104 with the step, 105, 106
abbrev pub refusal_of : PathError → ℕ → PathRefusal
refusal_of errors.Memory count = refusal_at (fault_of_call 1) count
refusal_of errors.Empty count = refusal_at (fault_of_call 106) count
refusal_of (errors.NotRead at error) count = refusal_at (fault_of error) at
refusal_of (errors.Unread at) count = refusal_at (fault_of_call 105) at
refusal_of (errors.Refused at x) count = record { fault = fault_of_call 104; index = at; step = number_of_step x }

-- 9: more octets than a length can count
pub record IsOverflow (count : ℕ) (refusal : PathRefusal) : Type 0 where
  pub error : Error
  pub kind_is : error.kind ≡ kinds.Overflow
  pub refusal_is : refusal ≡ refusal_at (fault_of error) count

-- the first byte range from which no value is read
pub record HasNone {T : Type 0} (F : form.Ghosts T) (octets : List ℕ) (places : List Place) (refusal : PathRefusal) : Type 0 where
  pub before : List Place
  pub place : Place
  pub others : List Place
  pub places_are : places ≡ before ++ place ∷ others
  pub values : List T
  pub are_values : EachOf F octets before values
  pub fault : Fault
  pub none : NoneThere F octets place fault
  pub refusal_is : refusal ≡ refusal_at fault (length before)

-- no value is read from a byte range; 1: memory ran out
abbrev pub HasNoneOf : {T : Type 0} → form.Ghosts T → List ℕ → List Place → PathRefusal → Type 0
HasNoneOf F octets places refusal = HasNone F octets places refusal ⊎ (refusal ≡ refusal_at (fault_of_call 1) (length places))

abbrev pub HasNoCertificate : List ℕ → List Place → PathRefusal → Type 0
HasNoCertificate octets chain refusal = HasNone certificate_form.ghosts.FORM octets chain refusal
