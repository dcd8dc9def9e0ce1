-- Texts that are joined, with an octet between them.
use Rattle.std.specs.Prelude.{◌≡◌, ℕ, ◌+◌, Bool, true, false, List, [], ◌∷◌, ◌++◌, length, drop, reverse}
use Rattle.std.specs.List.{flat_map}

-- texts with a separator between them
abbrev pub joined : ℕ → List (List ℕ) → List ℕ
joined separator [] = []
joined separator (text ∷ texts) = text ++ flat_map (λ t. separator ∷ t) texts

-- the last text first, with commas between them
abbrev pub last_first : List (List ℕ) → List ℕ
last_first texts = joined 44 (reverse texts)

-- the separator between a text and others, unless it is the first one
abbrev pub unless_first : Bool → ℕ → List ℕ
unless_first true separator = []
unless_first false separator = separator ∷ []

-- a text is written so that it ends where what follows it begins
pub record Before (text old : List ℕ) (end : ℕ) (new : List ℕ) (begin : ℕ) : Type 0 where
  pub ends : begin + length text ≡ end
  pub octets_are : drop begin new ≡ text ++ drop end old
