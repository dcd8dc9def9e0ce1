-- The octets that a step of reading a line takes.
use Rattle.std.specs.Prelude.{◌≡◌, ℕ, ◌<◌, List, [], ◌∷◌, ◌++◌, length, Option, Result, Ok, Err}
use Rattle.std.specs.Io.KnownBytes.{Consumes, Keeps, IsAtEnd}
use Rattle.std.specs.declared.io.Error.{Error}
use Rattle.der_lines.specs.Source.{HasNoEnd}
use Rattle.der_lines.specs.declared.lines.Piece.{Piece}
use Rattle.der_lines.specs.declared.lines.Piece.TheVariants.{End, Open, Closed}

-- the octets that a step of reading a line takes, and adds to the line
abbrev pub TakesPiece : Option (List ℕ) → Option (List ℕ) → List ℕ → List ℕ → Result Piece Error → Type 0
TakesPiece before after old new (Ok End) = (new ≡ old) × Keeps before after × IsAtEnd before
TakesPiece before after old new (Ok Open) = (part : List ℕ) × (0 < length part) × (new ≡ old ++ part) × HasNoEnd part × Consumes before after part
TakesPiece before after old new (Ok Closed) = (part : List ℕ) × (new ≡ old ++ part) × HasNoEnd part × Consumes before after (part ++ 10 ∷ [])
TakesPiece before after old new (Err error) = (new ≡ old) × Keeps before after
