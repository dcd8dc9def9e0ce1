-- The numbers of CRLReason (RFC 5280, 5.3.1), which has no 7, and of Version (4.1.2.1).
use Rattle.std.specs.Prelude.{◌≡◌, refl, List, [], ◌∷◌, ℤ, pos, Some}
use Rattle.der_numbers.specs.Enumerated.{Names, named}
use Rattle.layer_tests.specs.declared.enumerations.CrlReason.{CrlReason}
use Rattle.layer_tests.specs.declared.enumerations.CrlReason.TheVariants.{Unspecified, KeyCompromise, CaCompromise, AffiliationChanged, Superseded, CessationOfOperation, CertificateHold, RemoveFromCrl, PrivilegeWithdrawn, AaCompromise}
use Rattle.layer_tests.specs.declared.enumerations.Version.{Version}
use Rattle.layer_tests.specs.declared.enumerations.Version.TheVariants.{V1, V2, V3}

abbrev pub reason_number : CrlReason → ℤ
reason_number Unspecified = pos 0
reason_number KeyCompromise = pos 1
reason_number CaCompromise = pos 2
reason_number AffiliationChanged = pos 3
reason_number Superseded = pos 4
reason_number CessationOfOperation = pos 5
reason_number CertificateHold = pos 6
reason_number RemoveFromCrl = pos 8
reason_number PrivilegeWithdrawn = pos 9
reason_number AaCompromise = pos 10

abbrev pub all_reasons : List CrlReason
all_reasons = Unspecified ∷ KeyCompromise ∷ CaCompromise ∷ AffiliationChanged ∷ Superseded ∷ CessationOfOperation ∷ CertificateHold ∷ RemoveFromCrl ∷ PrivilegeWithdrawn ∷ AaCompromise ∷ []

pub reason_found : (value : CrlReason) → named reason_number all_reasons (reason_number value) ≡ Some value
reason_found Unspecified = refl
reason_found KeyCompromise = refl
reason_found CaCompromise = refl
reason_found AffiliationChanged = refl
reason_found Superseded = refl
reason_found CessationOfOperation = refl
reason_found CertificateHold = refl
reason_found RemoveFromCrl = refl
reason_found PrivilegeWithdrawn = refl
reason_found AaCompromise = refl

abbrev pub crl_reasons : Names CrlReason
crl_reasons = record {
  number_of = reason_number;
  values = all_reasons;
  is_found = reason_found;
  fit = refl;
}

-- the numbers of Version, an INTEGER
abbrev pub version_number : Version → ℤ
version_number V1 = pos 0
version_number V2 = pos 1
version_number V3 = pos 2

pub version_found : (value : Version) → named version_number (V1 ∷ V2 ∷ V3 ∷ []) (version_number value) ≡ Some value
version_found V1 = refl
version_found V2 = refl
version_found V3 = refl

abbrev pub versions : Names Version
versions = record {
  number_of = version_number;
  values = V1 ∷ V2 ∷ V3 ∷ [];
  is_found = version_found;
  fit = refl;
}
