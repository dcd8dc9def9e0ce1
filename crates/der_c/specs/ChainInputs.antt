-- The inputs of path validation (RFC 5280 6.1.1), at byte ranges.
use Rattle.std.specs.Prelude.{◌≡◌, ◌⊎◌, ℕ, ◌<◌, nat_lt, List, [], ◌∷◌, true}
use Rattle.der_tlv.specs.declared.error.Error.{Error}
use Rattle.der_tlv.specs.declared.error.ErrorKind.TheVariants as kinds
use Rattle.der_places.specs.declared.place.Place.{Place}
use Rattle.der_path.specs.declared.path.Inputs.{Inputs}
use Rattle.der_path.specs.declared.policy.Policy.{Policy}
use Rattle.der_path.specs.Policies.{is_any}
use Rattle.der_path.specs.PolicyLists.{ArePolicies, IsNoList}
use Rattle.der_c.specs.contracts.path.meanings.MeaningsMeantName.TheImpl as name_form
use Rattle.der_c.specs.contracts.path.meanings.MeaningsMeantCertPolicyId.TheImpl as identifier_form
use Rattle.der_c.specs.contracts.path.meanings.MeaningsMeantInitialConstraints.TheImpl as constraints_form
use Rattle.der_c.specs.contracts.path.meanings.MeaningsMeantSubjectPublicKeyInfo.TheImpl as key_form
use Rattle.der_c.specs.declared.fault.Fault.{Fault}
use Rattle.der_c.specs.declared.path.inputs.PathInputs.{PathInputs}
use Rattle.der_c.specs.declared.path.inputs.PathParts.{PathParts}
use Rattle.der_c.specs.Answers.{fault_of}
use Rattle.der_c.specs.ChainFaults.{moved, NoneThere}
use Rattle.der_c.specs.Building.{IsAt, IsOutside, IsWithin, octets_at}

-- anyPolicy alone
pub record IsAnyAlone (policies : List Policy) : Type 0 where
  pub policy : Policy
  pub is : is_any policy ≡ true
  pub alone : policies ≡ policy ∷ []

-- the policies whose identifiers are at a byte range; without octets anyPolicy
abbrev pub ArePoliciesAt : List ℕ → Place → List Policy → Type 0
ArePoliciesAt octets place policies =
    ((place.length ≡ 0) × IsAnyAlone policies)
    ⊎ ((0 < place.length) × IsWithin octets place × ArePolicies identifier_form.ghosts.FORM (octets_at octets place) policies)

-- a byte range that is not within the octets, octets that are no identifiers, or no memory
abbrev pub NoPoliciesAt : List ℕ → Place → Fault → Type 0
NoPoliciesAt octets place fault =
    IsOutside octets place fault
    ⊎ ((error : Error) × (fault ≡ moved (fault_of error) place.offset) × ((error.kind ≡ kinds.Memory) ⊎ IsNoList identifier_form.ghosts.FORM (octets_at octets place) error.kind))

-- the inputs that are read from octets
pub record HasInputs (octets : List ℕ) (at : PathInputs) (parts : PathParts) : Type 0 where
  pub name : IsAt name_form.ghosts.FORM octets at.anchor_name parts.anchor.name
  pub key : IsAt key_form.ghosts.FORM octets at.anchor_key parts.anchor.key
  pub constraints : IsAt constraints_form.ghosts.FORM octets at.constraints parts.constraints
  pub policies : ArePoliciesAt octets at.policies parts.policies.items

-- one of the inputs is refused, with the reason
abbrev pub RefusesInputs : List ℕ → PathInputs → Fault → Type 0
RefusesInputs octets at fault =
    NoneThere name_form.ghosts.FORM octets at.anchor_name fault
    ⊎ (NoneThere key_form.ghosts.FORM octets at.anchor_key fault
    ⊎ (NoneThere constraints_form.ghosts.FORM octets at.constraints fault
    ⊎ NoPoliciesAt octets at.policies fault))

-- the inputs (b), (c) and (e) to (i): a number is false if it is 0
pub record AreInputs (at : PathInputs) (parts : PathParts) (i : Inputs) : Type 0 where
  pub moment : i.moment ≡ at.moment
  pub policies : i.policies.now ≡ parts.policies.items
  pub mapping_inhibit : i.mapping_inhibit ≡ nat_lt 0 at.mapping_inhibit
  pub explicit_policy : i.explicit_policy ≡ nat_lt 0 at.explicit_policy
  pub any_policy_inhibit : i.any_policy_inhibit ≡ nat_lt 0 at.any_policy_inhibit
  pub constraints : i.constraints ≡ parts.constraints
