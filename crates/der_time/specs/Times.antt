-- Six numbers that are a time, and their octets and text (X.680 46.3, 47.3; X.690 11.7, 11.8; RFC 5280 4.1.2.5).
use Rattle.std.specs.Prelude.{ℕ, ◌/◌, ◌%◌, ◌&&◌, nat_le, Bool, List, [], ◌∷◌, ◌++◌, pos}
use Rattle.jiff_core.specs.Calendar.{days_in_month}
use Rattle.der_time.specs.declared.fields.Fields.{Fields}
use Rattle.der_time.specs.Digits.{two_digits}

-- from 1970 to 9999, a month, a day that the month has in that year, and a time of day with no leap second
unfoldable pub is_time : Fields → Bool
is_time f =
    nat_le 1970 f.year && nat_le f.year 9999 && nat_le 1 f.month && nat_le f.month 12
    && nat_le 1 f.day && nat_le f.day (days_in_month (pos f.year) f.month)
    && nat_le f.hour 23 && nat_le f.minutes 59 && nat_le f.seconds 59

-- hour, minutes and seconds in two digits each, and then Z
unfoldable pub clock_contents : Fields → List ℕ
clock_contents f = two_digits f.hour ++ (two_digits f.minutes ++ (two_digits f.seconds ++ 90 ∷ []))

-- month and day, and then the clock
unfoldable pub after_year : Fields → List ℕ
after_year f = two_digits f.month ++ (two_digits f.day ++ clock_contents f)

-- GeneralizedTime: the year in four digits, and the rest (RFC 5280 4.1.2.5.2)
unfoldable pub generalized_contents : Fields → List ℕ
generalized_contents f = two_digits (f.year / 100) ++ (two_digits (f.year % 100) ++ after_year f)

-- UTCTime: the last two digits of the year, and the rest (RFC 5280 4.1.2.5.1)
unfoldable pub utc_contents : Fields → List ℕ
utc_contents f = two_digits (f.year % 100) ++ after_year f

-- hour, minutes and seconds with colons between them, and Z
unfoldable pub clock_text : Fields → List ℕ
clock_text f = two_digits f.hour ++ (58 ∷ two_digits f.minutes ++ (58 ∷ two_digits f.seconds ++ 90 ∷ []))

-- year, month and day with hyphens between them, T, and the clock: 2001-01-02T12:13:14Z (RFC 3339 5.6)
unfoldable pub time_text : Fields → List ℕ
time_text f =
    two_digits (f.year / 100) ++ (two_digits (f.year % 100) ++ (45 ∷ two_digits f.month ++ (45 ∷ two_digits f.day ++ (84 ∷ clock_text f))))
