-- The result of reading the contents octets of a SEQUENCE with a function.
use Rattle.std.specs.Prelude.{◌≡◌, ℕ, List, true, false, Result, Ok, Err}
use Rattle.std.specs.Borrow.{MutBor}
use Rattle.std.specs.Fn.{Once, FnOnceReturnsAtMut}
use Rattle.der_tlv.specs.declared.error.ErrorKind.{ErrorKind}
use Rattle.der_tlv.specs.declared.error.Error.{Error}
use Rattle.der_tlv.specs.declared.encoding_rules.EncodingRules.TheVariants.{Der}
use Rattle.der_tlv.specs.ReaderState.{ReaderState, new_reader, can_finish, finish_fault}

-- an error of the caller's type, made from an error of this kind
abbrev pub RefusesWith : {T E : Type 0} → (Error → E → Type 0) → ErrorKind → Result T E → Type 0
RefusesWith gives kind (Ok v) = ⊥
RefusesWith gives kind (Err e) = (error : Error) × (error.kind ≡ kind) × gives error e

-- the function's result; an error instead of a value if its reader had failed (17) or octets are left over (3)
abbrev pub AnswersAtEnd : {T E : Type 0} → (Error → E → Type 0) → ReaderState → Result T E → Result T E → Type 0
AnswersAtEnd gives s (Err e) result = result ≡ Err e
AnswersAtEnd gives s (Ok v) result =
    (can_finish s ≡ true → result ≡ Ok v) × (can_finish s ≡ false → RefusesWith gives (finish_fault s) result)

-- the function was called, once, with a new reader of these octets alone, and its result gives this result
pub record CalledOn {F R T E : Type 0} (call : Once F (MutBor R × Unit {0}) (Result T E × (MutBor R × Unit {0}))) (state : R → ReaderState) (gives : Error → E → Type 0) (f : F) (octets : List ℕ) (result : Result T E) : Type 0 where
  pub old : R
  pub new : R
  pub answer : Result T E
  pub opens : state old ≡ new_reader octets Der
  pub returns : FnOnceReturnsAtMut call f old answer new
  pub ends : AnswersAtEnd gives (state new) answer result
