-- The value of a Constrained, and the error if there is none.
use Rattle.std.specs.Prelude.{◌≡◌, ℕ, List, Bool, true, false, Result, Ok, Err}
use Rattle.der_tlv.specs.declared.error.ErrorKind.TheVariants.{Value}
use Rattle.der_tlv.specs.declared.error.Error.{Error}
use Rattle.der_tlv.specs.declared.tag.Tag.{Tag}
use Rattle.der_constrained.specs.declared.constrained.Constrained.{Constrained}

-- the value
abbrev pub value_of : {T C : Type 0} → Constrained T C → T
value_of constrained = constrained.value

-- an allowed value is kept; for any other, the error is (13) with the tag of the type
abbrev pub KeepsAllowed : {T C : Type 0} → Tag → (T → List ℕ) → (List ℕ → Bool) → T → Result (Constrained T C) Error → Type 0
KeepsAllowed tag contents allows v (Ok constrained) = (value_of constrained ≡ v) × (allows (contents v) ≡ true)
KeepsAllowed tag contents allows v (Err e) = (e.kind ≡ Value tag) × (allows (contents v) ≡ false)
