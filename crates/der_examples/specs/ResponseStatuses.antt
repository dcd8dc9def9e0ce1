-- The numbers of OCSPResponseStatus (RFC 6960, 4.2.1), which does not use 4.
use Rattle.std.specs.Prelude.{◌≡◌, refl, List, [], ◌∷◌, ℤ, pos, Some}
use Rattle.der_asn1_types.specs.Enumerated.{Names, named}
use Rattle.der_examples.specs.declared.named_numbers.ResponseStatus.{ResponseStatus}
use Rattle.der_examples.specs.declared.named_numbers.ResponseStatus.TheVariants.{Successful, MalformedRequest, InternalError, TryLater, SigRequired, Unauthorized}

abbrev pub status_number : ResponseStatus → ℤ
status_number Successful = pos 0
status_number MalformedRequest = pos 1
status_number InternalError = pos 2
status_number TryLater = pos 3
status_number SigRequired = pos 5
status_number Unauthorized = pos 6

abbrev pub all_statuses : List ResponseStatus
all_statuses = Successful ∷ MalformedRequest ∷ InternalError ∷ TryLater ∷ SigRequired ∷ Unauthorized ∷ []

pub status_found : (value : ResponseStatus) → named status_number all_statuses (status_number value) ≡ Some value
status_found Successful = refl
status_found MalformedRequest = refl
status_found InternalError = refl
status_found TryLater = refl
status_found SigRequired = refl
status_found Unauthorized = refl

abbrev pub response_statuses : Names ResponseStatus
response_statuses = record {
  number_of = status_number;
  values = all_statuses;
  is_found = status_found;
  fit = refl;
}
