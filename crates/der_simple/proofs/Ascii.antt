-- The characters are ASCII, so octets that are characters are UTF-8.
use Rattle.std.proofs.Common.{◌≡◌, ℕ, ◌<◌, ◌==◌, List, [], ◌∷◌, Bool, true, false, arith, if◌then◌else◌, lit<, suc, zero}
use Rattle.std.specs.Str.{IsUtf8, IsAscii}
use Rattle.std.proofs.lemmas.Str.{IsUtf8-from_ascii}
use Rattle.std.proofs.lemmas.Bool.{and_parts}
use Rattle.std.proofs.lemmas.Bool.Decides.{nat_tests}
use Rattle.der_simple.specs.Characters.{is_numeric, is_visible, has_character, are_simple_characters}

numeric-small : (n : ℕ) → is_numeric n ≡ true → n < 128
numeric-small n e = grind (arith, nat_tests)

visible-small : (n : ℕ) → is_visible n ≡ true → n < 128
visible-small n e = grind (arith, nat_tests)

character-small : (number n : ℕ) → has_character number n ≡ true → n < 128
character-small number n = at (number == 18)
  where
    at : (b : Bool) → (if b then is_numeric n else is_visible n) ≡ true → n < 128
    at true h = numeric-small n h
    at false h = visible-small n h

characters-ascii : (number : ℕ) (octets : List ℕ) → are_simple_characters number octets ≡ true → IsAscii octets
characters-ascii number [] e i = lit< tt
characters-ascii number (octet ∷ octets) e zero = character-small number octet (and_parts (has_character number octet) (are_simple_characters number octets) e).0
characters-ascii number (octet ∷ octets) e (suc i) = characters-ascii number octets (and_parts (has_character number octet) (are_simple_characters number octets) e).1 i

pub characters-utf8 : (number : ℕ) (octets : List ℕ) → are_simple_characters number octets ≡ true → IsUtf8 octets
characters-utf8 number octets e = IsUtf8-from_ascii octets (characters-ascii number octets e)
