-- Strings that keep octets that are UTF-8 (X.690 8.23).
use Rattle.std.specs.Prelude.{◌≡◌, ◌⊎◌, ℕ, ◌<◌, ◌≤◌, ◌^◌, true, false, List, length, Result, Ok, Err}
use Rattle.std.specs.Str.{is_utf8}
use Rattle.der_tlv.specs.declared.error.ErrorKind.TheVariants.{Utf8, Overflow}
use Rattle.der_tlv.specs.declared.error.Error.{Error}

-- a string that keeps these octets, or an error: (12) if they are not UTF-8, (9) if they are UTF-8 and more than a length can count
abbrev pub KeepsUtf8 : {T : Type 0} → (T → List ℕ) → List ℕ → Result T Error → Type 0
KeepsUtf8 contents octets (Ok v) = (contents v ≡ octets) × (is_utf8 octets ≡ true) × (length octets < 2 ^ 32)
KeepsUtf8 contents octets (Err e) = ((e.kind ≡ Utf8) × (is_utf8 octets ≡ false)) ⊎ ((e.kind ≡ Overflow) × (is_utf8 octets ≡ true) × (2 ^ 32 ≤ length octets))

-- for octets that are UTF-8: a string that keeps them, or an error (9) if they are more than a length can count
abbrev pub KeepsText : {T : Type 0} → (T → List ℕ) → List ℕ → Result T Error → Type 0
KeepsText contents octets (Ok v) = (contents v ≡ octets) × (length octets < 2 ^ 32)
KeepsText contents octets (Err e) = (e.kind ≡ Overflow) × (2 ^ 32 ≤ length octets)
