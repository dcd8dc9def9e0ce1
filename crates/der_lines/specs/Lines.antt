-- A text as lines, and the replies to it.
use Rattle.std.specs.Prelude.{ℕ, ◌==◌, List, [], ◌∷◌, ◌++◌, if◌then◌else◌}
use Rattle.std.specs.List.{flat_map}
use Rattle.der_lines.specs.Answer.{answer_of}
use Rattle.der_lines.specs.Tables.{Table}

-- the lines with an octet before the first line
abbrev pub onto_first : ℕ → List (List ℕ) → List (List ℕ)
onto_first octet [] = (octet ∷ []) ∷ []
onto_first octet (line ∷ lines) = (octet ∷ line) ∷ lines

-- the lines of a text: each ends at an LF or at the end of the text, and an empty rest is no line
abbrev pub lines_of : List ℕ → List (List ℕ)
lines_of [] = []
lines_of (octet ∷ text) = if octet == 10 then [] ∷ lines_of text else onto_first octet (lines_of text)

-- octets, and an LF
abbrev pub with_line_feed : List ℕ → List ℕ
with_line_feed octets = octets ++ 10 ∷ []

-- the answer to a line, and an LF
abbrev pub reply_to : Table → List ℕ → List ℕ
reply_to table line = with_line_feed (answer_of table line)

-- the replies to the lines of a text, in order
abbrev pub replies_to : Table → List ℕ → List ℕ
replies_to table text = flat_map (reply_to table) (lines_of text)
