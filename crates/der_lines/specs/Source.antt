-- The octets that reading a line takes from those that are left to read.
use Rattle.std.specs.Prelude.{◌≡◌, ◌≢◌, ◌⊎◌, ℕ, ◌<◌, List, [], ◌∷◌, ◌++◌, length, All, Option, IfSome}
use Rattle.std.specs.Io.KnownBytes.{Consumes, IsAtEnd}
use Rattle.std.specs.declared.io.ErrorKind.{ErrorKind}
use Rattle.der_lines.specs.Failure.{HasFailed}

-- no octet is an LF
abbrev pub HasNoEnd : List ℕ → Type 0
HasNoEnd octets = All (λ octet. octet ≢ 10) octets

-- the line and its LF were taken; or the line is the last one, has no LF and is not empty
abbrev pub TakesLine : Option (List ℕ) → List ℕ → Option (List ℕ) → Type 0
TakesLine before line after =
    HasNoEnd line × (Consumes before after (line ++ 10 ∷ []) ⊎ (Consumes before after line × IsAtEnd after × (0 < length line)))

-- at most the beginning of a line was taken
abbrev pub TakesPart : Option (List ℕ) → Option (List ℕ) → Type 0
TakesPart before after = (part : List ℕ) × HasNoEnd part × Consumes before after part

-- a read failed, or no more lines may be read and there are more
abbrev pub IsRefused : Option ErrorKind → ℕ → Option (List ℕ) → Type 0
IsRefused failure lines_left before = HasFailed failure ⊎ ((lines_left ≡ 0) × IfSome before (λ rest. rest ≢ []))
