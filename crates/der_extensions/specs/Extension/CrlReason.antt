-- The numbers of CRLReason.
-- Made by tools/asn1 from extension.asn1.
use Rattle.std.specs.Prelude.{◌∷◌, ◌≡◌, List, Some, [], pos, refl, ℤ}
use Rattle.der_extensions.specs.declared.extension.crl_reason.CrlReason.{CrlReason}
use Rattle.der_extensions.specs.declared.extension.crl_reason.CrlReason.TheVariants.{AaCompromise, AffiliationChanged, CaCompromise, CertificateHold, CessationOfOperation, KeyCompromise, PrivilegeWithdrawn, RemoveFromCrl, Superseded, Unspecified}
use Rattle.der_numbers.specs.Enumerated.{Names, named}

abbrev pub number_of_crl_reason : CrlReason → ℤ
number_of_crl_reason Unspecified = pos 0
number_of_crl_reason KeyCompromise = pos 1
number_of_crl_reason CaCompromise = pos 2
number_of_crl_reason AffiliationChanged = pos 3
number_of_crl_reason Superseded = pos 4
number_of_crl_reason CessationOfOperation = pos 5
number_of_crl_reason CertificateHold = pos 6
number_of_crl_reason RemoveFromCrl = pos 8
number_of_crl_reason PrivilegeWithdrawn = pos 9
number_of_crl_reason AaCompromise = pos 10

abbrev pub all_of_crl_reason : List CrlReason
all_of_crl_reason = Unspecified ∷ KeyCompromise ∷ CaCompromise ∷ AffiliationChanged ∷ Superseded ∷ CessationOfOperation ∷ CertificateHold ∷ RemoveFromCrl ∷ PrivilegeWithdrawn ∷ AaCompromise ∷ []

pub crl_reason_is_found : (value : CrlReason) → named number_of_crl_reason all_of_crl_reason (number_of_crl_reason value) ≡ Some value
crl_reason_is_found Unspecified = refl
crl_reason_is_found KeyCompromise = refl
crl_reason_is_found CaCompromise = refl
crl_reason_is_found AffiliationChanged = refl
crl_reason_is_found Superseded = refl
crl_reason_is_found CessationOfOperation = refl
crl_reason_is_found CertificateHold = refl
crl_reason_is_found RemoveFromCrl = refl
crl_reason_is_found PrivilegeWithdrawn = refl
crl_reason_is_found AaCompromise = refl

abbrev pub names_of_crl_reason : Names CrlReason
names_of_crl_reason = record {
  number_of = number_of_crl_reason;
  values = all_of_crl_reason;
  is_found = crl_reason_is_found;
  fit = refl;
}
