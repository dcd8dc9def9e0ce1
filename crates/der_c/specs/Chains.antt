-- The results of validating a chain of certificates at byte ranges (RFC 5280 6.1).
use Rattle.std.specs.Prelude.{◌≡◌, ◌⊎◌, ℕ, ◌≤◌, ◌^◌, List, flat_map, length, Result, Ok, Err, Vec}
use Rattle.std.specs.declared.alloc.Global.{Global}
use Rattle.der_elem.specs.Accepting.{Fits}
use Rattle.der_pkix.specs.declared.certificate.certificate.Certificate.{Certificate}
use Rattle.der_pkix.specs.declared.certificate.extension.Extension.{Extension}
use Rattle.der_places.specs.declared.place.Place.{Place}
use Rattle.der_path.specs.declared.path.Inputs.{Inputs}
use Rattle.der_path.specs.declared.path.PathError.{PathError}
use Rattle.der_path.specs.declared.policy.Policy.{Policy}
use Rattle.der_path.specs.Keys.{first_key}
use Rattle.der_path.specs.Paths.{AnswersChain, EachListed}
use Rattle.der_path.specs.PolicyLists.{policy_octets}
use Rattle.der_c.specs.declared.fault.Fault.{Fault}
use Rattle.der_c.specs.declared.path.inputs.PathInputs.{PathInputs}
use Rattle.der_c.specs.declared.path.inputs.PathParts.{PathParts}
use Rattle.der_c.specs.declared.path.places.VerificationAt.{VerificationAt}
use Rattle.der_c.specs.declared.path.refusal.PathRefusal.{PathRefusal}
use Rattle.der_c.specs.declared.path.written.FoundPath.{FoundPath}
use Rattle.der_c.specs.declared.path.written.PathAt.{PathAt}
use Rattle.der_c.specs.Answers.{fault_of_call}
use Rattle.der_c.specs.ChainFaults.{refusal_at, refusal_of, HasNoCertificate, IsOverflow}
use Rattle.der_c.specs.ChainInputs.{AreInputs, HasInputs, RefusesInputs}
use Rattle.der_c.specs.ChainPlaces.{EachAt, EachPlaced}
use Rattle.der_c.specs.ChainWriting.{WritesPath, WritesRefusal}

-- user_constrained_policy_set of certificates by these inputs, or the error of 6.1
pub record Validates (at : PathInputs) (parts : PathParts) (certificates : List Certificate) (result : Result (Vec Policy Global) PathError) : Type 0 where
  pub inputs : Inputs
  pub are_inputs : AreInputs at parts inputs
  pub answers : (lists : List (List Extension)) → EachListed certificates lists → AnswersChain parts.anchor.name certificates lists inputs result

-- the chain is valid if each signature verifies and no certificate is revoked: its policies, and where that stands which has to verify
pub record HasPath (octets : List ℕ) (at : PathInputs) (chain : List Place) (found : FoundPath) : Type 0 where
  pub parts : PathParts
  pub are_parts : HasInputs octets at parts
  pub certificates : List Certificate
  pub are_certificates : EachAt octets chain certificates
  pub policies : Vec Policy Global
  pub validates : Validates at parts certificates (Ok policies)
  pub policies_are : found.policies.items ≡ flat_map policy_octets policies.items
  pub count_is : found.policy_count ≡ length policies.items
  pub placed : EachPlaced octets (first_key parts.anchor) certificates found.verifications.items

-- what is said of certificates that are valid for these policies
pub record Finds (octets : List ℕ) (at : PathInputs) (parts : PathParts) (chain : List Place) (certificates : List Certificate) (policies : List Policy) (found : FoundPath) : Type 0 where
  pub policies_are : found.policies.items ≡ flat_map policy_octets policies
  pub count_is : found.policy_count ≡ length policies
  pub placed : Fits octets → HasInputs octets at parts → EachAt octets chain certificates → EachPlaced octets (first_key parts.anchor) certificates found.verifications.items

-- an input is refused
pub record HasNoInputs (octets : List ℕ) (at : PathInputs) (count : ℕ) (refusal : PathRefusal) : Type 0 where
  pub fault : Fault
  pub refuses : RefusesInputs octets at fault
  pub refusal_is : refusal ≡ refusal_at fault count

-- 6.1 gives an error
pub record IsNotValid (octets : List ℕ) (at : PathInputs) (chain : List Place) (refusal : PathRefusal) : Type 0 where
  pub parts : PathParts
  pub are_parts : HasInputs octets at parts
  pub certificates : List Certificate
  pub are_certificates : EachAt octets chain certificates
  pub error : PathError
  pub validates : Validates at parts certificates (Err error)
  pub refusal_is : refusal ≡ refusal_of error (length chain)

-- why there is no such chain; 1: memory ran out
abbrev pub RefusesPath : List ℕ → PathInputs → List Place → PathRefusal → Type 0
RefusesPath octets at chain refusal =
    ((2 ^ 32 ≤ length octets) × IsOverflow (length chain) refusal)
    ⊎ (HasNoInputs octets at (length chain) refusal
    ⊎ (HasNoCertificate octets chain refusal
    ⊎ (IsNotValid octets at chain refusal
    ⊎ (refusal ≡ refusal_at (fault_of_call 1) (length chain)))))

-- a chain is found, and written
pub record IsFound (octets : List ℕ) (at : PathInputs) (chain : List Place) (old new : List VerificationAt) (old_policies policies : List ℕ) (out : PathAt) (old_fault fault : Fault) (answer : ℕ) : Type 0 where
  pub found : FoundPath
  pub has : HasPath octets at chain found
  pub written : WritesPath found (length chain) old new old_policies policies out old_fault fault answer

-- there is none, and the buffers are unchanged
pub record IsRefused (octets : List ℕ) (at : PathInputs) (chain : List Place) (old new : List VerificationAt) (old_policies policies : List ℕ) (out : PathAt) (fault : Fault) (answer : ℕ) : Type 0 where
  pub refusal : PathRefusal
  pub refuses : RefusesPath octets at chain refusal
  pub written : WritesRefusal refusal out fault answer
  pub unchanged : (new ≡ old) × (policies ≡ old_policies)

abbrev pub AnswersPath : List ℕ → PathInputs → List Place → List VerificationAt → List VerificationAt → List ℕ → List ℕ → PathAt → Fault → Fault → ℕ → Type 0
AnswersPath octets at chain old new old_policies policies out old_fault fault answer =
    IsFound octets at chain old new old_policies policies out old_fault fault answer
    ⊎ IsRefused octets at chain old new old_policies policies out fault answer
