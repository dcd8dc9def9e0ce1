-- What is said of a chain of certificates, in memory of the caller.
use Rattle.std.specs.Prelude.{◌≡◌, ◌⊎◌, ℕ, ◌<◌, List, ◌++◌, drop, length}
use Rattle.der_c.specs.declared.fault.Fault.{Fault}
use Rattle.der_c.specs.declared.path.places.VerificationAt.{VerificationAt}
use Rattle.der_c.specs.declared.path.refusal.PathRefusal.{PathRefusal}
use Rattle.der_c.specs.declared.path.written.FoundPath.{FoundPath}
use Rattle.der_c.specs.declared.path.written.PathAt.{PathAt}
use Rattle.der_c.specs.Answers.{NoFault, fault_of_call}

-- what is said of a chain that is found
abbrev pub found_at : FoundPath → ℕ → PathAt
found_at found count = record { refused_index = count; policy_count = found.policy_count; policies_len = length found.policies.items; step = 0; reserved = 0 }

-- 0: both are at the front of the buffers, and what is behind them is unchanged
pub record IsWritten (found : FoundPath) (old new : List VerificationAt) (old_policies policies : List ℕ) (old_fault fault : Fault) (answer : ℕ) : Type 0 where
  pub verifications : new ≡ found.verifications.items ++ drop (length found.verifications.items) old
  pub policies_are : policies ≡ found.policies.items ++ drop (length found.policies.items) old_policies
  pub no_fault : NoFault old_fault fault answer

-- 103: one of the buffers is too short, and both are unchanged
pub record HasNoRoom (found : FoundPath) (old new : List VerificationAt) (old_policies policies : List ℕ) (fault : Fault) (answer : ℕ) : Type 0 where
  pub short : (length old < length found.verifications.items) ⊎ (length old_policies < length found.policies.items)
  pub unchanged : (new ≡ old) × (policies ≡ old_policies)
  pub number : answer ≡ 103
  pub written : fault ≡ fault_of_call 103

-- the results of writing what was found for so many certificates
abbrev pub WritesPath : FoundPath → ℕ → List VerificationAt → List VerificationAt → List ℕ → List ℕ → PathAt → Fault → Fault → ℕ → Type 0
WritesPath found count old new old_policies policies out old_fault fault answer =
    (out ≡ found_at found count) × (IsWritten found old new old_policies policies old_fault fault answer ⊎ HasNoRoom found old new old_policies policies fault answer)

-- the results of telling why there is nothing to write
pub record WritesRefusal (refusal : PathRefusal) (out : PathAt) (fault : Fault) (answer : ℕ) : Type 0 where
  pub out_is : out ≡ record { refused_index = refusal.index; policy_count = 0; policies_len = 0; step = refusal.step; reserved = 0 }
  pub written : fault ≡ refusal.fault
  pub number : answer ≡ refusal.fault.number
