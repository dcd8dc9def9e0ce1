-- Text that is written to a buffer of the caller as far as it fits.
use Rattle.std.specs.Prelude.{◌≡◌, ℕ, ◌+◌, ◌-◌, ◌^◌, min, set, List, [], ◌∷◌, ◌++◌, length, take, drop}

-- a buffer with as much of a text as fits at its front; the octets after the text are unchanged
abbrev pub over : List ℕ → List ℕ → List ℕ
over [] room = room
over (x ∷ text) [] = []
over (x ∷ text) (octet ∷ room) = x ∷ over text room

-- as much of a text as fits before a zero octet, and the zero octet
abbrev pub ended : List ℕ → ℕ → List ℕ
ended text size = take (size - 1) text ++ (0 ∷ [])

-- a number, or the greatest one of 64 bits
abbrev pub counted : ℕ → ℕ
counted n = min n (2 ^ 64 - 1)

-- a text is written to a buffer from a position on, as far as it fits, and the next position is after the text
pub record Puts (text old : List ℕ) (position : ℕ) (new : List ℕ) (next : ℕ) : Type 0 where
  pub octets_are : new ≡ take position old ++ over text (drop position old)
  pub next_is : next ≡ counted (position + length text)

-- a zero octet is written to a buffer after a text of a length, or over its last octet if the text does not fit before it
abbrev pub Ends : ℕ → List ℕ → List ℕ → Type 0
Ends count old new = new ≡ set old (min count (length old - 1)) 0
