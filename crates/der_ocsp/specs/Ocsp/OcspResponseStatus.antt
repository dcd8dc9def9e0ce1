-- The numbers of OCSPResponseStatus.
-- Made by tools/asn1 from ocsp.asn1.
use Rattle.std.specs.Prelude.{◌∷◌, ◌≡◌, List, Some, [], pos, refl, ℤ}
use Rattle.der_numbers.specs.Enumerated.{Names, named}
use Rattle.der_ocsp.specs.declared.ocsp.ocsp_response_status.OcspResponseStatus.{OcspResponseStatus}
use Rattle.der_ocsp.specs.declared.ocsp.ocsp_response_status.OcspResponseStatus.TheVariants.{InternalError, MalformedRequest, SigRequired, Successful, TryLater, Unauthorized}

abbrev pub number_of_ocsp_response_status : OcspResponseStatus → ℤ
number_of_ocsp_response_status Successful = pos 0
number_of_ocsp_response_status MalformedRequest = pos 1
number_of_ocsp_response_status InternalError = pos 2
number_of_ocsp_response_status TryLater = pos 3
number_of_ocsp_response_status SigRequired = pos 5
number_of_ocsp_response_status Unauthorized = pos 6

abbrev pub all_of_ocsp_response_status : List OcspResponseStatus
all_of_ocsp_response_status = Successful ∷ MalformedRequest ∷ InternalError ∷ TryLater ∷ SigRequired ∷ Unauthorized ∷ []

pub ocsp_response_status_is_found : (value : OcspResponseStatus) → named number_of_ocsp_response_status all_of_ocsp_response_status (number_of_ocsp_response_status value) ≡ Some value
ocsp_response_status_is_found Successful = refl
ocsp_response_status_is_found MalformedRequest = refl
ocsp_response_status_is_found InternalError = refl
ocsp_response_status_is_found TryLater = refl
ocsp_response_status_is_found SigRequired = refl
ocsp_response_status_is_found Unauthorized = refl

abbrev pub names_of_ocsp_response_status : Names OcspResponseStatus
names_of_ocsp_response_status = record {
  number_of = number_of_ocsp_response_status;
  values = all_of_ocsp_response_status;
  is_found = ocsp_response_status_is_found;
  fit = refl;
}
