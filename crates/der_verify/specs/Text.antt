-- Strings of ASCII as they are compared in names (RFC 5280 section 7.1, with the string preparation of RFC 4518).
use Rattle.std.specs.Prelude.{ℕ, ◌≡◌, ◌==◌, ◌+◌, ◌<◌, nat_le, List, [], ◌∷◌, length, Bool, ◌&&◌, if◌then◌else◌, Option, Some, None}
use Rattle.std.specs.Borrow.{Bor}

-- a letter in lower case (RFC 4518 section 2.2, of ASCII)
abbrev pub folded : ℕ → ℕ
folded x = if nat_le 65 x && nat_le x 90 then x + 32 else x

-- characters that are the same except for case
abbrev pub same_character : ℕ → ℕ → Bool
same_character x y = folded x == folded y

-- the string without the spaces at its front
abbrev pub drop_spaces : List ℕ → List ℕ
drop_spaces [] = []
drop_spaces (x ∷ xs) = if x == 32 then drop_spaces xs else x ∷ xs

-- a space before a string, unless the string is empty or begins with a space
abbrev pub spaced : List ℕ → List ℕ
spaced [] = []
spaced (x ∷ xs) = if x == 32 then x ∷ xs else 32 ∷ x ∷ xs

-- each run of spaces as one, and none at the end
abbrev pub settled : List ℕ → List ℕ
settled [] = []
settled (x ∷ xs) = if x == 32 then spaced (settled xs) else x ∷ settled xs

-- the string as it is compared (RFC 4518 section 2.6.1): without spaces at its front and end, and with each run of spaces as one
abbrev pub prepared : List ℕ → List ℕ
prepared octets = settled (drop_spaces octets)

-- the first character of a settled string, and the octets after it, which are settled in turn
abbrev pub shows_front : List ℕ → Option (ℕ × Bor (List ℕ)) → Type 0
shows_front octets None = settled octets ≡ []
shows_front octets (Some (x, rest)) = (settled octets ≡ x ∷ settled rest.now) × (length rest.now < length octets)
