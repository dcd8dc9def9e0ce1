-- GeneralizedTime with a fraction of a second (X.680 46, X.690 11.7).
use Rattle.std.specs.Prelude.{◌≡◌, ◌⊎◌, ℕ, ◌<◌, ◌≤◌, ◌^◌, ◌-◌, ◌==◌, ◌&&◌, not, nat_lt, is_ok, Bool, true, if◌then◌else◌, List, [], ◌∷◌, ◌++◌, length, slice_index, slice_range, take, drop, Result, Ok, Err}
use Rattle.std.specs.List.{list_all}
use Rattle.der_tlv.specs.declared.error.ErrorKind.TheVariants as kinds
use Rattle.der_tlv.specs.declared.error.Error.{Error}
use Rattle.der_tlv.specs.declared.tag.Tag.TheVariants as tags
use Rattle.der_elem.specs.Parsing.{ContentsParse}
use Rattle.der_time.specs.declared.generalized_time.GeneralizedTime.{GeneralizedTime}
use Rattle.der_time.specs.Digits.{is_digit}
use Rattle.der_time.specs.GeneralizedTime.{generalized_time_contents}
use Rattle.der_time.specs.TimeReading.{generalized_or_fault}

-- ---- the octets

-- digits of a fraction: none, or some, the last of which is not 0 (X.690 11.7.3)
abbrev pub is_fraction : List ℕ → Bool
is_fraction digits = list_all is_digit digits && not (slice_index digits (length digits - 1) == 48)

-- a full stop and the digits, or nothing if there are no digits (X.690 11.7.3, 11.7.4)
abbrev pub after_stop : List ℕ → List ℕ
after_stop [] = []
after_stop (digit ∷ digits) = 46 ∷ digit ∷ digits

-- the 14 digits of a second, a fraction, and Z (X.690 11.7.1, 11.7.2)
abbrev pub time_octets : GeneralizedTime → List ℕ → List ℕ
time_octets second digits = take 14 (generalized_time_contents second) ++ (after_stop digits ++ 90 ∷ [])

-- octets that are a second with a fraction
pub record IsFractionalTime (octets : List ℕ) : Type 0 where
  pub second : GeneralizedTime
  pub digits : List ℕ
  pub fraction : is_fraction digits ≡ true
  pub whole : octets ≡ time_octets second digits

-- ---- the tests that recognise them

-- whether digits are a second: with Z, they are a GeneralizedTime without a fraction
abbrev pub is_second : List ℕ → Bool
is_second digits = is_ok (generalized_or_fault (digits ++ 90 ∷ []))

-- whether octets are a full stop and a fraction, or no octets
abbrev pub is_after_stop : List ℕ → Bool
is_after_stop [] = true
is_after_stop (stop ∷ digits) = (stop == 46) && (nat_lt 0 (length digits) && is_fraction digits)

-- the octets between the second and the last octet
abbrev pub after_second : List ℕ → List ℕ
after_second octets = slice_range octets 14 (length octets - 1)

-- the digits of the fraction
abbrev pub fraction_of : List ℕ → List ℕ
fraction_of octets = drop 1 (after_second octets)

-- whether octets are a second with a fraction
unfoldable pub is_fractional_time : List ℕ → Bool
is_fractional_time octets =
    nat_lt 14 (length octets) && ((slice_index octets (length octets - 1) == 90) && (is_second (take 14 octets) && is_after_stop (after_second octets)))

-- the first 14 octets and Z are a GeneralizedTime without a fraction
abbrev pub HasSecond : List ℕ → Type 0
HasSecond octets = (t : GeneralizedTime) × (generalized_time_contents t ≡ take 14 octets ++ 90 ∷ [])

-- octets that are recognised are read unchanged; other octets are refused (13)
abbrev pub parse_fractional_time : ContentsParse
parse_fractional_time rules p octets = if is_fractional_time octets then Ok octets else Err (kinds.Value tags.GeneralizedTime)

-- a time that keeps these octets, or an error (13) if they are no such time, or more than a length can count
abbrev pub KeepsTime : {T : Type 0} → (T → List ℕ) → List ℕ → Result T Error → Type 0
KeepsTime contents octets (Ok v) = (contents v ≡ octets) × IsFractionalTime octets × (length octets < 2 ^ 32)
KeepsTime contents octets (Err e) = (e.kind ≡ kinds.Value tags.GeneralizedTime) × ((IsFractionalTime octets → ⊥) ⊎ (2 ^ 32 ≤ length octets))
