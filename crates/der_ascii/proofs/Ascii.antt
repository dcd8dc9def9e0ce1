-- Characters have one octet each, so octets that are characters are UTF-8.
use Rattle.std.proofs.Common.{◌≡◌, ℕ, ◌<◌, ◌==◌, ◌||◌, ◌&&◌, nat_le, nat_lt, List, [], ◌∷◌, Bool, true, false, refl, arith, if◌then◌else◌, lit<, suc, zero}
use Rattle.std.specs.Str.{IsUtf8, IsAscii}
use Rattle.std.proofs.lemmas.Str.{IsUtf8-from_ascii}
use Rattle.std.proofs.lemmas.Bool.{and_parts}
use Rattle.std.proofs.lemmas.Bool.Decides.{nat_tests}
use Rattle.der_ascii.specs.Characters.{within, is_printable, has_character, are_characters}

either : (a b : Bool) (n : ℕ) → (a ≡ true → n < 128) → (b ≡ true → n < 128) → (a || b) ≡ true → n < 128
either true b n f g e = f refl
either false b n f g e = g e

at_most : (first last n : ℕ) → last < 128 → within first last n ≡ true → n < 128
at_most first last n small e = by_first (nat_le first n) e
  where
    by_first : (b : Bool) → (b && nat_le n last) ≡ true → n < 128
    by_first true h = grind (arith, nat_tests)
    by_first false h = absurd (cc)

equal_to : (m n : ℕ) → m < 128 → (n == m) ≡ true → n < 128
equal_to m n small e = grind (arith, nat_tests)

printable-small : (n : ℕ) → is_printable n ≡ true → n < 128
unfolding is_printable
printable-small n = either _ _ n (either _ _ n (either _ _ n (either _ _ n (either _ _ n (either _ _ n (either _ _ n (either _ _ n (at_most 65 90 n (lit< tt)) (at_most 97 122 n (lit< tt))) (at_most 48 57 n (lit< tt))) (equal_to 32 n (lit< tt))) (at_most 39 41 n (lit< tt))) (at_most 43 47 n (lit< tt))) (equal_to 58 n (lit< tt))) (equal_to 61 n (lit< tt))) (equal_to 63 n (lit< tt))

character-small : (number n : ℕ) → has_character number n ≡ true → n < 128
character-small number n = at (number == 19)
  where
    at : (b : Bool) → (if b then is_printable n else nat_lt n 128) ≡ true → n < 128
    at true h = printable-small n h
    at false h = grind (arith, nat_tests)

characters-ascii : (number : ℕ) (octets : List ℕ) → are_characters number octets ≡ true → IsAscii octets
characters-ascii number [] e i = lit< tt
characters-ascii number (octet ∷ octets) e zero = character-small number octet (and_parts (has_character number octet) (are_characters number octets) e).0
characters-ascii number (octet ∷ octets) e (suc i) = characters-ascii number octets (and_parts (has_character number octet) (are_characters number octets) e).1 i

pub characters-utf8 : (number : ℕ) (octets : List ℕ) → are_characters number octets ≡ true → IsUtf8 octets
characters-utf8 number octets e = IsUtf8-from_ascii octets (characters-ascii number octets e)
