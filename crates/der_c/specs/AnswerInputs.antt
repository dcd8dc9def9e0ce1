-- The inputs of the check of an answer of OCSP (RFC 6960 3.2, 4.1.1), at byte ranges.
use Rattle.std.specs.Prelude.{◌≡◌, ◌⊎◌, ℕ, List}
use Rattle.der_path.specs.declared.ocsp.CertificateHashes.{CertificateHashes}
use Rattle.der_c.specs.contracts.path.meanings.MeaningsMeantBasicOcspResponse.TheImpl as answer_form
use Rattle.der_c.specs.contracts.path.meanings.MeaningsMeantName.TheImpl as name_form
use Rattle.der_c.specs.declared.fault.Fault.{Fault}
use Rattle.der_c.specs.declared.revocation.inputs.OcspInputs.{OcspInputs}
use Rattle.der_c.specs.declared.revocation.inputs.OcspParts.{OcspParts}
use Rattle.der_c.specs.Building.{IsAt, IsOutside, IsWithin, octets_at}
use Rattle.der_c.specs.ChainFaults.{NoneThere}
use Rattle.der_c.specs.StatusRefusals.{IsThere}

-- the octets at the byte ranges that name a certificate
pub record HasHashes (octets : List ℕ) (at : OcspInputs) (hashes : CertificateHashes) : Type 0 where
  pub within : IsWithin octets at.algorithm × IsWithin octets at.name_hash × IsWithin octets at.key_hash × IsWithin octets at.serial
  pub algorithm : hashes.algorithm.now ≡ octets_at octets at.algorithm
  pub name_hash : hashes.name_hash.now ≡ octets_at octets at.name_hash
  pub key_hash : hashes.key_hash.now ≡ octets_at octets at.key_hash
  pub serial : hashes.serial.now ≡ octets_at octets at.serial

-- one of these byte ranges is not within the octets
abbrev pub RefusesHashes : List ℕ → OcspInputs → Fault → Type 0
RefusesHashes octets at fault =
    IsOutside octets at.algorithm fault
    ⊎ (IsOutside octets at.name_hash fault
    ⊎ (IsOutside octets at.key_hash fault
    ⊎ IsOutside octets at.serial fault))

-- the inputs that are read from octets
pub record HasOcspInputs (octets : List ℕ) (at : OcspInputs) (parts : OcspParts) : Type 0 where
  pub answer : IsAt answer_form.ghosts.FORM octets at.answer parts.answer
  pub issuer : IsAt name_form.ghosts.FORM octets at.issuer parts.issuer
  pub hashes : HasHashes octets at parts.hashes

-- the first of the inputs that is refused, with the reason
abbrev pub RefusesOcspInputs : List ℕ → OcspInputs → Fault → Type 0
RefusesOcspInputs octets at fault =
    NoneThere answer_form.ghosts.FORM octets at.answer fault
    ⊎ (IsThere answer_form.ghosts.FORM octets at.answer
    × (NoneThere name_form.ghosts.FORM octets at.issuer fault
    ⊎ (IsThere name_form.ghosts.FORM octets at.issuer × RefusesHashes octets at fault)))
