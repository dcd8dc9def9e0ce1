-- The octets that a run has read and written when it stops.
use Rattle.std.specs.Prelude.{◌≡◌, ℕ, ◌<◌, List, ◌++◌, length, Option, Some, IfSome}
use Rattle.std.specs.List.{All}
use Rattle.std.specs.Io.{StopsAt}
use Rattle.std.specs.Io.KnownBytes.{Appends}
use Rattle.der_lines.specs.Answer.{NotRefusedForMemory}
use Rattle.der_lines.specs.Lines.{lines_of, replies_to}
use Rattle.der_lines.specs.Source.{HasNoEnd}
use Rattle.der_lines.specs.Tables.{Table}

-- the text is a front of whole lines, and the octets after it
pub record IsCut (text front behind : List ℕ) : Type 0 where
  pub joined : text ≡ front ++ behind
  pub between_lines : lines_of text ≡ lines_of front ++ lines_of behind

-- exactly the lines that were read whole were answered, none because memory ran out, and the octets read after them do not end a line
pub record AnswersWholeLines (table : Table) (text : List ℕ) (after old new : Option (List ℕ)) : Type 0 where
  pub front : List ℕ
  pub part : List ℕ
  pub rest : List ℕ
  pub left : after ≡ Some rest
  pub cut : IsCut text front (part ++ rest)
  pub no_end : HasNoEnd part
  pub memory : All (NotRefusedForMemory table) (lines_of front)
  pub written : Appends old new (replies_to table front)

-- all lines that were read were answered except for the last; of its reply, a beginning was written
pub record AnswersAllButOne (table : Table) (text : List ℕ) (after old new : Option (List ℕ)) : Type 0 where
  pub front : List ℕ
  pub part : List ℕ
  pub rest : List ℕ
  pub begun : List ℕ
  pub unwritten : List ℕ
  pub left : after ≡ Some rest
  pub cut : IsCut text front (part ++ rest)
  pub one_line : StopsAt part 10
  pub memory : All (NotRefusedForMemory table) (lines_of front)
  pub begins : replies_to table (part ++ rest) ≡ begun ++ unwritten
  pub written : Appends old new (replies_to table front ++ begun)

-- a beginning of the replies to the text was written
abbrev pub WritesBeginning : Table → List ℕ → Option (List ℕ) → Option (List ℕ) → Type 0
WritesBeginning table text old new = (written unwritten : List ℕ) × (replies_to table text ≡ written ++ unwritten) × Appends old new written

-- all lines that may be read were read, and the text has more
abbrev pub HasTooManyLines : Option (List ℕ) → ℕ → ℕ → Type 0
HasTooManyLines before allowed left = (left ≡ 0) × IfSome before (λ text. allowed < length (lines_of text))
