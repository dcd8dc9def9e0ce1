-- UTF-8 and its test.
use Rattle.std.proofs.Common.{◌≡◌, ℕ, List, Bool, true, false, refl}
use Rattle.std.specs.Str.{IsUtf8, is_utf8}
use Rattle.std.proofs.lemmas.Str.{IsUtf8-from_is_utf8, is_utf8-from_IsUtf8}

pub utf8_tested : (octets : List ℕ) → IsUtf8 octets → is_utf8 octets ≡ true
utf8_tested octets = is_utf8-from_IsUtf8 octets

pub not_utf8_tested : (octets : List ℕ) → ¬ (IsUtf8 octets) → is_utf8 octets ≡ false
not_utf8_tested octets other = at (is_utf8 octets) refl
  where
    at : (b : Bool) → is_utf8 octets ≡ b → is_utf8 octets ≡ false
    at true e = absurd (other (IsUtf8-from_is_utf8 octets e))
    at false e = e
