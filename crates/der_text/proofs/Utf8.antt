-- UTF-8 and its test.
use Rattle.std.proofs.Common.{◌≡◌, ℕ, List, true}
use Rattle.std.specs.Str.{IsUtf8, is_utf8}
use Rattle.std.proofs.lemmas.Str.{is_utf8-from_IsUtf8}

pub utf8_tested : (octets : List ℕ) → IsUtf8 octets → is_utf8 octets ≡ true
utf8_tested octets = is_utf8-from_IsUtf8 octets
