-- Numbers of octets that fit a length.
use Rattle.std.specs.Prelude.{◌≡◌, ℕ, ◌^◌, ◌<◌, ◌≤◌, Result, Ok, Err}
use Rattle.der_tlv.specs.declared.error.Error.{Error}
use Rattle.der_tlv.specs.declared.error.ErrorKind.TheVariants.{Overflow}

-- the length of this number of octets, or (9) if the number does not fit a length
abbrev pub FitsLength : ℕ → Result ℕ Error → Type 0
FitsLength n (Ok l) = (l ≡ n) × (n < 2 ^ 32)
FitsLength n (Err e) = (e.kind ≡ Overflow) × (2 ^ 32 ≤ n)
