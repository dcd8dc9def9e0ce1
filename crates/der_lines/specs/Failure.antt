-- The `Fault` of a call of a reader or a writer that failed.
use Rattle.std.specs.Prelude.{◌≡◌, ◌≢◌, ◌⊎◌, Option, Some, Result, Ok, Err}
use Rattle.std.specs.declared.io.ErrorKind.{ErrorKind}
use Rattle.std.specs.declared.io.ErrorKind.TheVariants.{OutOfMemory}
use Rattle.der_lines.specs.declared.fault.Fault.{Fault}
use Rattle.der_lines.specs.declared.fault.Fault.TheVariants.{Memory}

-- the `Fault` for an error of a kind: `Memory` if memory ran out, and for any other kind a failed read or a failed write
abbrev pub IsFaultOf : Fault → ErrorKind → Fault → Type 0
IsFaultOf failed kind fault = (kind ≡ OutOfMemory → fault ≡ Memory) × (kind ≢ OutOfMemory → fault ≡ failed)

-- no call failed, or the `Fault` is that of the last error
abbrev pub ReportsFailure : {T : Type 0} → Fault → Option ErrorKind → Option ErrorKind → Result T Fault → Type 0
ReportsFailure failed old new (Ok x) = new ≡ old
ReportsFailure failed old new (Err fault) = (new ≡ old) ⊎ ((kind : ErrorKind) × (new ≡ Some kind) × IsFaultOf failed kind fault)

-- a call failed, and memory did not run out
abbrev pub HasFailed : Option ErrorKind → Type 0
HasFailed failure = (kind : ErrorKind) × (failure ≡ Some kind) × (kind ≢ OutOfMemory)
