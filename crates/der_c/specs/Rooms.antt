-- The results of a call that writes an encoding to a buffer of the caller.
use Rattle.std.specs.Prelude.{◌≡◌, ◌⊎◌, ℕ, ◌<◌, ◌≤◌, List, ◌++◌, length, drop, Option, None, Some, Ok}
use Rattle.der_tlv.specs.declared.error.Error.{Error}
use Rattle.der_lines.specs.Puts.{NotPut}
use Rattle.der_lines.specs.Rows.{Row, canonical}
use Rattle.der_c.specs.Answers.{IsFault, NoFault, fault_of_call}
use Rattle.der_c.specs.declared.fault.Fault.{Fault}

-- 0: the encoding is at the front of the buffer, the octets after it are unchanged, and the count is its length
pub record Filled (encoding old new : List ℕ) (count : ℕ) (old_fault fault : Fault) (answer : ℕ) : Type 0 where
  pub fits : length encoding ≤ length old
  pub octets_are : new ≡ encoding ++ drop (length encoding) old
  pub count_is : count ≡ length encoding
  pub no_fault : NoFault old_fault fault answer

-- 103: the buffer is too short and is unchanged, and the count is the length that it should have
pub record TooShort (encoding old new : List ℕ) (count : ℕ) (fault : Fault) (answer : ℕ) : Type 0 where
  pub short : length old < length encoding
  pub unchanged : new ≡ old
  pub count_is : count ≡ length encoding
  pub number : answer ≡ 103
  pub written : fault ≡ fault_of_call 103

abbrev pub Written : List ℕ → List ℕ → List ℕ → ℕ → Fault → Fault → ℕ → Type 0
Written encoding old new count old_fault fault answer = Filled encoding old new count old_fault fault answer ⊎ TooShort encoding old new count fault answer

-- 102: no type has the name, and the buffer and the count are unchanged
pub record NoSuchName {S : Type 0} (old new : S) (fault : Fault) (answer : ℕ) : Type 0 where
  pub number : answer ≡ 102
  pub written : fault ≡ fault_of_call 102
  pub unchanged : new ≡ old

-- the canonical encoding by a type is written; or the octets are refused, for an error or because memory ran out, and the buffer and the count are unchanged
abbrev pub AnswersGiven : Row → List ℕ → List ℕ → List ℕ → ℕ → ℕ → Fault → Fault → ℕ → Type 0
AnswersGiven row octets old new old_count count old_fault fault answer =
    ((encoding : List ℕ) × (canonical row octets ≡ Ok encoding) × Written encoding old new count old_fault fault answer)
    ⊎ ((error : Error) × NotPut row octets error.kind × IsFault {S = List ℕ × ℕ} error (old, old_count) (new, count) fault answer)

-- the results by the type with a name, if one has it
abbrev pub AnswersNamed : Option Row → List ℕ → List ℕ → List ℕ → ℕ → ℕ → Fault → Fault → ℕ → Type 0
AnswersNamed None octets old new old_count count old_fault fault answer = NoSuchName {S = List ℕ × ℕ} (old, old_count) (new, count) fault answer
AnswersNamed (Some row) octets old new old_count count old_fault fault answer = AnswersGiven row octets old new old_count count old_fault fault answer
