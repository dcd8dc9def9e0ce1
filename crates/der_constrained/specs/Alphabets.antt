-- The characters that FROM permits in a string whose characters have one octet each (X.680 51.7).
use Rattle.std.specs.Prelude.{ℕ, List, nat_le, Bool, ◌&&◌, ◌||◌}
use Rattle.std.specs.List.{list_all}

-- `"first".."last"`
abbrev pub characters : ℕ → ℕ → ℕ → Bool
characters first last octet = nat_le first octet && nat_le octet last

-- the characters of either set
abbrev pub either_set : (ℕ → Bool) → (ℕ → Bool) → ℕ → Bool
either_set first other octet = first octet || other octet

-- `FROM`: each character of the string is one of the set
abbrev pub permitted : (ℕ → Bool) → List ℕ → Bool
permitted has octets = list_all has octets
