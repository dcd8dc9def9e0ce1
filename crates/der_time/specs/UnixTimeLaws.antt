-- Times, days and seconds are in one order.
use Rattle.std.proofs.Common.{◌≡◌, ℕ, ◌+◌, ◌*◌, ◌<◌, ◌≤◌, refl, sym, ap, ◌∙◌, arith, ℤ, pos, negsuc, ◌≤ℤ◌, unsigned_abs, inl, inr, lit≤}
use Rattle.std.specs.Ordering.{ordering_then, nat_cmp}
use Rattle.std.proofs.lemmas.Bool.{cases_order}
use Rattle.std.proofs.lemmas.Bool.Decides.{nat_tests}
use Rattle.std.proofs.lemmas.Int.{by_lt_z}
use Rattle.std.specs.Int.{IsInRange}
use Rattle.jiff_core.specs.declared.civil.date.Date.{Date}
use Rattle.jiff_core.specs.Calendar.{day_count, days_from_civil, IsYear}
use Rattle.jiff_core.specs.Date.{epoch_day}
use Rattle.jiff_core.proofs.SignedLemmas.{signed_arith}
use Rattle.jiff_core.proofs.CalendarLemmas.{day_count-epoch, days_from_civil-day_count, day_count-later_year, day_count-day_of_year, day_count-lt_year}
use Rattle.jiff_core.proofs.MarchLemmas.{day_count-early}
use Rattle.jiff_core.proofs.DateLemmas.{civil, IsEarlier, epoch_day-lt, epoch_day_range}
use Rattle.der_tlv.specs.OrderingLaws.{then_assoc, nat_cmp-less, nat_cmp-same, nat_cmp-greater}
use Rattle.der_tlv.specs.OctetLaws.{lex-equal}
use Rattle.der_time.specs.declared.fields.Fields.{Fields}
use Rattle.der_time.specs.declared.date_time.DateTime.{DateTime}
use Rattle.der_time.specs.DateTime.{fields_of, time_contents}
use Rattle.der_time.specs.TimeLaws.{generalized_injective}
use Rattle.der_time.specs.TimeOrder.{fields_cmp, ord_is_contents_ord}
use Rattle.der_time.specs.UnixTime.{day_number, second_of_day, unix_seconds, IsOnDate, end_of_2049, last_second}

-- a date from day 0 on is in 1970 or later
pub year_from_day : (d : Date) → pos 0 ≤ℤ epoch_day d → pos 1970 ≤ℤ d.year
year_from_day d h =
    by_lt_z d.year (pos 1970) (λ lt. absurd (omega (arith, signed_arith, day_count-epoch, days_from_civil-day_count d.year d.month d.day, day_count-lt_year d.year d.month d.day (pos 1970) 1 1 (civil d) (lit≤ tt) lt))) (λ le. le)

-- 1 January of a year is no later than any day of that year
first_of_year_le : (y : ℤ) (m d : ℕ) → 1 ≤ d → day_count y 1 1 ≤ day_count y m d
first_of_year_le y m d h = omega (arith, day_count-day_of_year y m d h)

from_epoch : (y : ℕ) → 1970 ≤ y → 4_371_953 ≤ day_count (pos y) 1 1
from_epoch y h =
    elim (cases_order y 1970) [
      | inl e ↦ rw e (omega (arith, day_count-epoch))
      | inr (inl lt) ↦ absurd (omega arith)
      | inr (inr gt) ↦ omega (arith, day_count-epoch, day_count-later_year (pos 1970) (pos y) (omega (arith, signed_arith)) (omega (arith, signed_arith, gt)))
    ]

-- a date in 1970 or later is day 0 or later
pub day_not_negative : (t : DateTime) → pos 0 ≤ℤ days_from_civil (pos t.year) t.month t.day
day_not_negative t =
    omega (arith, signed_arith, days_from_civil-day_count (pos t.year) t.month t.day, first_of_year_le (pos t.year) t.month t.day t.day_in.0, from_epoch t.year t.year_in.0)

own_abs : (z : ℤ) → pos 0 ≤ℤ z → z ≡ pos (unsigned_abs z)
own_abs (pos n) h = refl
own_abs (negsuc n) h = absurd (omega (arith, signed_arith))

-- the year of such a date, with no sign
pub unsigned_year : (d : Date) → pos 0 ≤ℤ epoch_day d → pos (unsigned_abs d.year) ≡ d.year
unsigned_year d h = let from = year_from_day d h in sym (own_abs d.year (omega (arith, signed_arith)))

pub unsigned_year_in : (d : Date) → pos 0 ≤ℤ epoch_day d → IsInRange 1970 9999 (unsigned_abs d.year)
unsigned_year_in d h =
    let from = year_from_day d h in
    let same = unsigned_year d h in
    let in_range = d.year_in in
    (omega (arith, signed_arith), omega (arith, signed_arith))

-- the day number of a time is that of jiff
pub days_are : (t : DateTime) → days_from_civil (pos t.year) t.month t.day ≡ pos (day_number t)
unfolding day_number
days_are t = own_abs _ (day_not_negative t)

year_of : (t : DateTime) → IsYear (pos t.year)
year_of t = (omega (arith, signed_arith, t.year_in), omega (arith, signed_arith, t.year_in))

-- the date in jiff
pub date_of : DateTime → Date
date_of t = record {
  year = pos t.year;
  month = t.month;
  day = t.day;
  year_in = year_of t;
  month_in = t.month_in;
  day_in = t.day_in;
}

earlier : (v w : DateTime) → IsEarlier (date_of v) (date_of w) → day_number v < day_number w
unfolding date_of
earlier v w h = omega (arith, signed_arith, days_are v, days_are w, epoch_day-lt (date_of v) (date_of w) h)

-- dates in the order of year, month and day have day numbers in that order
date_cmp : (v w : DateTime) → ordering_then (nat_cmp v.year w.year) (ordering_then (nat_cmp v.month w.month) (nat_cmp v.day w.day)) ≡ nat_cmp (day_number v) (day_number w)
unfolding date_of day_number
date_cmp v w =
    elim (cases_order v.year w.year) [
      | inr (inl lt) ↦ rw (nat_cmp-less v.year w.year lt, nat_cmp-less (day_number v) (day_number w) (earlier v w (inl (omega (arith, signed_arith))))) refl
      | inr (inr gt) ↦ rw (nat_cmp-greater v.year w.year gt, nat_cmp-greater (day_number v) (day_number w) (earlier w v (inl (omega (arith, signed_arith))))) refl
      | inl year ↦ elim (cases_order v.month w.month) [
        | inr (inl lt) ↦ rw (nat_cmp-same v.year w.year year, nat_cmp-less v.month w.month lt, nat_cmp-less (day_number v) (day_number w) (earlier v w (inr (ap (λ n. pos n) year, inl lt)))) refl
        | inr (inr gt) ↦ rw (nat_cmp-same v.year w.year year, nat_cmp-greater v.month w.month gt, nat_cmp-greater (day_number v) (day_number w) (earlier w v (inr (ap (λ n. pos n) (sym year), inl gt)))) refl
        | inl month ↦ elim (cases_order v.day w.day) [
          | inr (inl lt) ↦ rw (nat_cmp-same v.year w.year year, nat_cmp-same v.month w.month month, nat_cmp-less v.day w.day lt, nat_cmp-less (day_number v) (day_number w) (earlier v w (inr (ap (λ n. pos n) year, inr (month, lt))))) refl
          | inr (inr gt) ↦ rw (nat_cmp-same v.year w.year year, nat_cmp-same v.month w.month month, nat_cmp-greater v.day w.day gt, nat_cmp-greater (day_number v) (day_number w) (earlier w v (inr (ap (λ n. pos n) (sym year), inr (sym month, gt))))) refl
          | inl day ↦ rw (nat_cmp-same v.year w.year year, nat_cmp-same v.month w.month month, nat_cmp-same v.day w.day day, nat_cmp-same (day_number v) (day_number w) (rw (year, month, day) refl)) refl
        ]
      ]
    ]

-- times of day in the order of hour, minutes and seconds have their seconds in that order
clock_cmp : (v w : DateTime) → ordering_then (nat_cmp v.hour w.hour) (ordering_then (nat_cmp v.minutes w.minutes) (nat_cmp v.seconds w.seconds)) ≡ nat_cmp (second_of_day v) (second_of_day w)
clock_cmp v w = clock v.hour v.minutes v.seconds w.hour w.minutes w.seconds v.minutes_in v.seconds_in w.minutes_in w.seconds_in
  where
    clock : (h i s k j r : ℕ) → i ≤ 59 → s ≤ 59 → j ≤ 59 → r ≤ 59 → ordering_then (nat_cmp h k) (ordering_then (nat_cmp i j) (nat_cmp s r)) ≡ nat_cmp (h * 3600 + i * 60 + s) (k * 3600 + j * 60 + r)
    clock h i s k j r a b c d = grind (arith, nat_tests)

pub second_of_day_bound : (t : DateTime) → second_of_day t < 86400
second_of_day_bound t = omega (arith, t.hour_in, t.minutes_in, t.seconds_in)

days_and_seconds : (a b s r : ℕ) → s < 86400 → r < 86400 → ordering_then (nat_cmp a b) (nat_cmp s r) ≡ nat_cmp (a * 86400 + s) (b * 86400 + r)
days_and_seconds a b s r h k = grind (arith, nat_tests)

-- the order of the fields is that of the seconds
pub chronological : (v w : DateTime) → fields_cmp v w ≡ nat_cmp (unix_seconds v) (unix_seconds w)
chronological v w =
    let y = nat_cmp v.year w.year in let m = nat_cmp v.month w.month in let d = nat_cmp v.day w.day in
    let clock = ordering_then (nat_cmp v.hour w.hour) (ordering_then (nat_cmp v.minutes w.minutes) (nat_cmp v.seconds w.seconds)) in
    ap (ordering_then y) (then_assoc m d clock) ∙ then_assoc y (ordering_then m d) clock
    ∙ ap (λ o. ordering_then o clock) (date_cmp v w) ∙ ap (ordering_then (nat_cmp (day_number v) (day_number w))) (clock_cmp v w)
    ∙ days_and_seconds (day_number v) (day_number w) (second_of_day v) (second_of_day w) (second_of_day_bound v) (second_of_day_bound w)

-- two times with the same seconds are equal
pub same_seconds : (v w : DateTime) → unix_seconds v ≡ unix_seconds w → fields_of v ≡ fields_of w
same_seconds v w e =
    generalized_injective v w (lex-equal (time_contents v) (time_contents w) (sym (ord_is_contents_ord v w) ∙ chronological v w ∙ nat_cmp-same (unix_seconds v) (unix_seconds w) e))

-- equal times have the same seconds
pub seconds_of_fields : (v w : DateTime) → fields_of v ≡ fields_of w → unix_seconds v ≡ unix_seconds w
unfolding day_number
seconds_of_fields v w e =
    ap (λ (f : Fields). unsigned_abs (days_from_civil (pos f.year) f.month f.day) * 86400 + (f.hour * 3600 + f.minutes * 60 + f.seconds)) e

-- the seconds of a time on the date of a day number
pub seconds_on : (d : Date) (t : DateTime) (n s : ℕ) → IsOnDate d t → epoch_day d ≡ pos n → second_of_day t ≡ s → unix_seconds t ≡ n * 86400 + s
unfolding day_number
seconds_on d t n s on e f =
    let day : days_from_civil (pos t.year) t.month t.day ≡ pos n = rw (on.year, on.month, on.day) e in
    let number : unsigned_abs (days_from_civil (pos t.year) t.month t.day) ≡ n = ap unsigned_abs day in
    rw (number, f) refl

first_of_2050 : day_count (pos 2050) 1 1 ≡ 4_401_173
first_of_2050 = day_count-early (pos 2050) 12049 1 1 refl (omega arith) (omega arith) (omega arith)

-- times in 2050 or later are at or after the first second of 2050
pub from_2050 : (t : DateTime) → 2049 < t.year → end_of_2049 ≤ unix_seconds t
from_2050 t h =
    let first : 4_401_173 ≤ day_count (pos t.year) 1 1 = elim (cases_order t.year 2050) [
      | inl e ↦ rw e (omega (arith, first_of_2050))
      | inr (inl lt) ↦ absurd (omega arith)
      | inr (inr gt) ↦ omega (arith, first_of_2050, day_count-later_year (pos 2050) (pos t.year) (omega (arith, signed_arith)) (omega (arith, signed_arith, gt)))
    ] in
    let day : 29220 ≤ day_number t = omega (arith, signed_arith, days_are t, days_from_civil-day_count (pos t.year) t.month t.day, first_of_year_le (pos t.year) t.month t.day t.day_in.0, first) in
    omega (arith, day)

pub before_2050 : (t : DateTime) → t.year ≤ 2049 → unix_seconds t < end_of_2049
unfolding date_of
before_2050 t h =
    let before = day_count-lt_year (pos t.year) t.month t.day (pos 2050) 1 1 (civil (date_of t)) (lit≤ tt) (omega (arith, signed_arith)) in
    let day : day_number t < 29220 = omega (arith, signed_arith, days_are t, days_from_civil-day_count (pos t.year) t.month t.day, first_of_2050, before) in
    omega (arith, day, second_of_day_bound t)

-- no time is after the last second
pub most_seconds : (t : DateTime) → unix_seconds t ≤ last_second
unfolding date_of
most_seconds t =
    let day : day_number t ≤ 2_932_896 = omega (arith, signed_arith, days_are t, (epoch_day_range (date_of t)).1) in
    omega (arith, day, second_of_day_bound t)
