-- The types that lines name.
use Rattle.std.specs.Prelude.{◌≡◌, ℕ, List, Option, None, Some, Result}
use Rattle.der_tlv.specs.declared.error.Error.{Error}
use Rattle.der_lines.specs.Puts.{Puts}
use Rattle.der_lines.specs.Rows.{Row}

-- the rows of types, by the names of the types
abbrev pub Table : Type 0
Table = List ℕ → Option Row

-- the first row of two that is present
abbrev pub or_else : Option Row → Option Row → Option Row
or_else None other = other
or_else (Some row) other = Some row

-- there is a result if and only if there is a row, and the canonical encoding by the row was written
abbrev pub AnswersAs : Option Row → List ℕ → List ℕ → Option (Result (Unit {0}) Error) → Type 0
AnswersAs None octets encoding result = result ≡ None
AnswersAs (Some row) octets encoding None = ⊥
AnswersAs (Some row) octets encoding (Some result) = Puts row octets encoding result
