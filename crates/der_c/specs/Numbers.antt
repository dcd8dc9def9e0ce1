-- Versions and dates that a caller gives as numbers, as parts of a value.
use Rattle.std.specs.Prelude.{◌≡◌, ℕ, ℤ, ◌<◌, nat_lt, Bool, Option, None, Some}
use Rattle.der_tlv.specs.declared.error.ErrorKind.TheVariants as kinds
use Rattle.der_tlv.specs.declared.tag.Tag.TheVariants as tags
use Rattle.der_numbers.specs.Enumerated.{Names, named}
use Rattle.der_pkix.specs.declared.certificate.time.Time.{Time}
use Rattle.der_time.specs.UnixTime.{unix_seconds, last_second}
use Rattle.der_time.specs.declared.generalized_time.GeneralizedTime.{GeneralizedTime}
use Rattle.der_verify.specs.Time.{HasForm, date_time_of, seconds_of}
use Rattle.der_c.specs.Building.{IsOfKind, Parts, number}
use Rattle.der_c.specs.declared.fault.Fault.{Fault}

-- 13: a version of more than one octet
abbrev pub IsNoVersion : ℕ → Fault → Type 0
IsNoVersion n fault = (255 < n) × IsOfKind (kinds.Value tags.Integer) fault

abbrev pub version : {V : Type 0} → (V → ℕ) → ℕ → Parts V → Parts V
version of n others = number (λ v. of v ≡ n) (IsNoVersion n) others

-- the date is in this second, in the form that RFC 5280 requires (4.1.2.5)
abbrev pub IsDate : ℕ → Time → Type 0
IsDate seconds t = (seconds_of t ≡ seconds) × HasForm (date_time_of t) t

-- 14: a second after the year 9999
abbrev pub IsNoDate : ℕ → Fault → Type 0
IsNoDate seconds fault = (last_second < seconds) × IsOfKind kinds.DateTime fault

abbrev pub date : {V : Type 0} → (V → Time) → ℕ → Parts V → Parts V
date of seconds others = number (λ v. IsDate seconds (of v)) (IsNoDate seconds) others

-- a date that is absent if the number is 0
abbrev pub IsDateIfGiven : ℕ → Option Time → Type 0
IsDateIfGiven seconds None = seconds ≡ 0
IsDateIfGiven seconds (Some t) = (0 < seconds) × IsDate seconds t

abbrev pub date_if_given : {V : Type 0} → (V → Option Time) → ℕ → Parts V → Parts V
date_if_given of seconds others = number (λ v. IsDateIfGiven seconds (of v)) (IsNoDate seconds) others

-- a GeneralizedTime
abbrev pub IsGeneral : ℕ → GeneralizedTime → Type 0
IsGeneral seconds t = unix_seconds t.date_time ≡ seconds

abbrev pub general : {V : Type 0} → (V → GeneralizedTime) → ℕ → Parts V → Parts V
general of seconds others = number (λ v. IsGeneral seconds (of v)) (IsNoDate seconds) others

abbrev pub IsGeneralIfGiven : ℕ → Option GeneralizedTime → Type 0
IsGeneralIfGiven seconds None = seconds ≡ 0
IsGeneralIfGiven seconds (Some t) = (0 < seconds) × IsGeneral seconds t

abbrev pub general_if_given : {V : Type 0} → (V → Option GeneralizedTime) → ℕ → Parts V → Parts V
general_if_given of seconds others = number (λ v. IsGeneralIfGiven seconds (of v)) (IsNoDate seconds) others

-- a flag: 0 for false, any other number for true
abbrev pub flag : {V : Type 0} → (V → Bool) → ℕ → Parts V → Parts V
flag of n others = number (λ v. of v ≡ nat_lt 0 n) (λ fault. ⊥) others

-- a version that is absent if the number is 0
abbrev pub IsVersionIfGiven : ℕ → Option ℕ → Type 0
IsVersionIfGiven n None = n ≡ 0
IsVersionIfGiven n (Some v) = (0 < n) × (v ≡ n)

abbrev pub version_if_given : {V : Type 0} → (V → Option ℕ) → ℕ → Parts V → Parts V
version_if_given of n others = number (λ v. IsVersionIfGiven n (of v)) (IsNoVersion n) others

-- a version that is always v1
abbrev pub first_version : {V : Type 0} → (V → ℕ) → Parts V → Parts V
first_version of others = number (λ v. of v ≡ 0) (λ fault. ⊥) others

-- the value whose name has the number
abbrev pub IsNamed : {E : Type 0} → Names E → ℤ → E → Type 0
IsNamed names n value = named names.number_of names.values n ≡ Some value

-- 13: a number that has no name
abbrev pub IsUnnamed : {E : Type 0} → Names E → ℤ → Fault → Type 0
IsUnnamed names n fault = (named names.number_of names.values n ≡ None) × IsOfKind (kinds.Value tags.Enumerated) fault

abbrev pub named_number : {V E : Type 0} → Names E → (V → E) → ℤ → Parts V → Parts V
named_number names of n others = number (λ v. IsNamed names n (of v)) (IsUnnamed names n) others
