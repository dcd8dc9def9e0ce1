-- The laws of contents octets of times.
use Rattle.std.proofs.Common.{◌≡◌, ℕ, ◌+◌, ◌-◌, ◌*◌, ◌/◌, ◌%◌, ◌<◌, ◌≤◌, ◌&&◌, true, List, [], ◌∷◌, ◌++◌, length, Some, None, Ok, Err, refl, sym, ap, ◌∙◌, arith, pos, option_and_then, eq-eqb, zero, suc, lit<, false, Option, IsTrue, if◌then◌else◌}
use Rattle.std.specs.Int.{is_in_range}
use Rattle.std.specs.Str.{IsUtf8, IsAscii}
use Rattle.std.proofs.lemmas.Str.{IsUtf8-from_ascii}
use Rattle.std.proofs.lemmas.Bool.Decides.{nat_tests}
use Rattle.std.proofs.lemmas.Option.{none-some, same_Some}
use Rattle.jiff_core.proofs.CalendarLemmas.{days_in_month_bounds}
use Rattle.der_tlv.specs.declared.error.ErrorKind.{ErrorKind}
use Rattle.der_tlv.specs.declared.error.ErrorKind.TheVariants as kinds
use Rattle.der_tlv.specs.declared.tag.Tag.TheVariants as tags
use Rattle.der_tlv.specs.declared.encoding_rules.EncodingRules.{EncodingRules}
use Rattle.der_tlv.specs.OctetFaults.{is_of_octets, IsOfOctets}
use Rattle.der_time.specs.declared.fields.Fields.{Fields}
use Rattle.der_time.specs.declared.date_time.DateTime.{DateTime}
use Rattle.der_time.specs.Digits.{two_digits, read_two_digits}
use Rattle.der_time.specs.Times.{is_time, clock_contents, after_year, generalized_contents, utc_contents, clock_text, time_text}
use Rattle.der_time.specs.TimeReading.{read_clock, read_after_year, read_generalized, read_utc, century_of, generalized_or_fault, utc_or_fault, if_time, read_octet, read_clock_text, read_text, octets_or, lacks_year, generalized_fault, parse_generalized, parse_utc}
use Rattle.der_time.specs.DateTime.{fields_of}

-- two digits are read as their number
pub read_two_digits_of : (n : ℕ) (others : List ℕ) → n < 100 → read_two_digits (two_digits n ++ others) ≡ Some (n, others)
unfolding read_two_digits two_digits
read_two_digits_of n others h =
    let digits : (is_in_range 48 57 (48 + n / 10) && is_in_range 48 57 (48 + n % 10)) ≡ true = grind (arith, nat_tests) in
    let value : (48 + n / 10 - 48) * 10 + (48 + n % 10 - 48) ≡ n = omega arith in
    rw (digits, value)

-- numbers that fit in two digits, and a year that fits in four
pub record HaveDigits (f : Fields) : Type 0 where
  pub year : f.year < 10000
  pub month : f.month < 100
  pub day : f.day < 100
  pub hour : f.hour < 100
  pub minutes : f.minutes < 100
  pub seconds : f.seconds < 100

-- the octets of six numbers are read as those numbers
pub read_clock_of : (f : Fields) → HaveDigits f → read_clock f.year f.month f.day (clock_contents f) ≡ Some f
unfolding read_clock clock_contents
read_clock_of f d =
    let hour = d.hour in let minutes = d.minutes in let seconds = d.seconds in
    rw (read_two_digits_of f.hour _ hour, read_two_digits_of f.minutes _ minutes, read_two_digits_of f.seconds _ seconds)

pub read_after_year_of : (f : Fields) → HaveDigits f → read_after_year f.year (after_year f) ≡ Some f
unfolding read_after_year after_year
read_after_year_of f d =
    rw (read_two_digits_of f.month _ d.month, read_two_digits_of f.day _ d.day) (read_clock_of f d)

pub read_generalized_of : (f : Fields) → HaveDigits f → read_generalized (generalized_contents f) ≡ Some f
unfolding read_generalized generalized_contents
read_generalized_of f d =
    let century : f.year / 100 < 100 = omega (arith, d.year) in
    let year : f.year % 100 < 100 = omega arith in
    let whole : f.year / 100 * 100 + f.year % 100 ≡ f.year = omega arith in
    rw (read_two_digits_of (f.year / 100) _ century, read_two_digits_of (f.year % 100) _ year, whole) (read_after_year_of f d)

pub read_utc_of : (f : Fields) → HaveDigits f → 1950 ≤ f.year → f.year < 2050 → read_utc (utc_contents f) ≡ Some f
unfolding read_utc utc_contents
read_utc_of f d low high =
    let year : f.year % 100 < 100 = omega arith in
    let whole : century_of (f.year % 100) ≡ f.year = grind (arith, nat_tests) in
    rw (read_two_digits_of (f.year % 100) _ year, whole) (read_after_year_of f d)

-- the text of six numbers is read as those numbers
read_octet_of : (octet : ℕ) (others : List ℕ) → read_octet octet (octet ∷ others) ≡ Some others
unfolding read_octet
read_octet_of octet others = rw (eq-eqb octet octet refl) refl

read_clock_text_of : (f : Fields) → HaveDigits f → read_clock_text f.year f.month f.day (clock_text f) ≡ Some f
unfolding read_clock_text clock_text
read_clock_text_of f d =
    rw (read_two_digits_of f.hour _ d.hour, read_octet_of 58 _, read_two_digits_of f.minutes _ d.minutes, read_octet_of 58 _, read_two_digits_of f.seconds _ d.seconds)

pub read_text_of : (f : Fields) → HaveDigits f → read_text (time_text f) ≡ Some f
unfolding read_text time_text
read_text_of f d =
    let century : f.year / 100 < 100 = omega (arith, d.year) in
    let year : f.year % 100 < 100 = omega arith in
    let whole : f.year / 100 * 100 + f.year % 100 ≡ f.year = omega arith in
    rw (read_two_digits_of (f.year / 100) _ century, read_two_digits_of (f.year % 100) _ year, read_octet_of 45 _, read_two_digits_of f.month _ d.month, read_octet_of 45 _, read_two_digits_of f.day _ d.day, read_octet_of 84 _, whole) (read_clock_text_of f d)

-- the fields of a time are a valid time
pub is_time_of : (t : DateTime) → is_time (fields_of t) ≡ true
unfolding is_time
is_time_of t =
    let year = t.year_in in let month = t.month_in in let day = t.day_in in
    let hour = t.hour_in in let minutes = t.minutes_in in let seconds = t.seconds_in in
    grind (arith, nat_tests)

pub have_digits : (t : DateTime) → HaveDigits (fields_of t)
have_digits t =
    let most = (days_in_month_bounds (pos t.year) t.month).0 in
    record {
      year = omega (arith, t.year_in.1);
      month = omega (arith, t.month_in.1);
      day = omega (arith, t.day_in.1, most);
      hour = omega (arith, t.hour_in);
      minutes = omega (arith, t.minutes_in);
      seconds = omega (arith, t.seconds_in);
    }

-- the contents octets of a time are read
pub generalized_of : (t : DateTime) → generalized_or_fault (generalized_contents (fields_of t)) ≡ Ok (generalized_contents (fields_of t))
unfolding generalized_or_fault
generalized_of t = rw (read_generalized_of (fields_of t) (have_digits t), is_time_of t) refl

pub generalized_at : (t : DateTime) (octets : List ℕ) → generalized_contents (fields_of t) ≡ octets → generalized_or_fault octets ≡ Ok octets
generalized_at t octets e = ap generalized_or_fault (sym e) ∙ generalized_of t ∙ ap (λ o. Ok o) e

pub utc_of : (t : DateTime) → t.year < 2050 → utc_or_fault (utc_contents (fields_of t)) ≡ Ok (utc_contents (fields_of t))
unfolding utc_or_fault
utc_of t most = rw (read_utc_of (fields_of t) (have_digits t) (omega (arith, t.year_in.0)) most, is_time_of t) refl

pub utc_at : (t : DateTime) (octets : List ℕ) → t.year < 2050 → utc_contents (fields_of t) ≡ octets → utc_or_fault octets ≡ Ok octets
utc_at t octets most e = ap utc_or_fault (sym e) ∙ utc_of t most ∙ ap (λ o. Ok o) e

-- octets with an error are not the contents octets of any time
pub generalized_refused : (t : DateTime) (octets : List ℕ) (kind : ErrorKind) → generalized_or_fault octets ≡ Err kind → octets ≡ generalized_contents (fields_of t) → ⊥
generalized_refused t octets kind fault own = let read = generalized_at t octets (sym own) in cc

pub utc_refused : (t : DateTime) (octets : List ℕ) (kind : ErrorKind) → t.year < 2050 → utc_or_fault octets ≡ Err kind → octets ≡ utc_contents (fields_of t) → ⊥
utc_refused t octets kind most fault own = let read = utc_at t octets most (sym own) in cc

-- no two times have the same contents octets
pub generalized_injective : (v w : DateTime) → generalized_contents (fields_of v) ≡ generalized_contents (fields_of w) → fields_of v ≡ fields_of w
generalized_injective v w e =
    same_Some _ _ (sym (read_generalized_of (fields_of v) (have_digits v)) ∙ ap read_generalized e ∙ read_generalized_of (fields_of w) (have_digits w))

pub utc_injective : (v w : DateTime) → v.year < 2050 → w.year < 2050 → utc_contents (fields_of v) ≡ utc_contents (fields_of w) → fields_of v ≡ fields_of w
utc_injective v w f g e =
    same_Some _ _ (sym (read_utc_of (fields_of v) (have_digits v) (omega (arith, v.year_in.0)) f) ∙ ap read_utc e ∙ read_utc_of (fields_of w) (have_digits w) (omega (arith, w.year_in.0)) g)

-- no two times have the same text
pub text_injective : (v w : DateTime) → time_text (fields_of v) ≡ time_text (fields_of w) → fields_of v ≡ fields_of w
text_injective v w e =
    same_Some _ _ (sym (read_text_of (fields_of v) (have_digits v)) ∙ ap read_text e ∙ read_text_of (fields_of w) (have_digits w))

-- a text is not that of any time if no six numbers are read from it, or six that are not a time
pub text_refused : (t : DateTime) (text : List ℕ) → option_and_then if_time (read_text text) ≡ None → text ≡ time_text (fields_of t) → ⊥
text_refused t text none own =
    let read : read_text text ≡ Some (fields_of t) = ap read_text own ∙ read_text_of (fields_of t) (have_digits t) in
    let time = is_time_of t in
    none-some (fields_of t) (sym none ∙ ap (option_and_then if_time) read ∙ rw time refl)

-- octets below 80
record AreAscii (xs : List ℕ) : Type 0 where
  below : IsAscii xs

ascii_cons : (x : ℕ) (xs : List ℕ) → x < 128 → AreAscii xs → AreAscii (x ∷ xs)
ascii_cons x xs h k = record { below = each }
  where
    each : IsAscii (x ∷ xs)
    each zero = h
    each (suc i) = k.below i

ascii_two_digits : (n : ℕ) (xs : List ℕ) → n < 100 → AreAscii xs → AreAscii (two_digits n ++ xs)
unfolding two_digits
ascii_two_digits n xs h k = ascii_cons (48 + n / 10) _ (omega arith) (ascii_cons (48 + n % 10) xs (omega arith) k)

ascii_text : (f : Fields) → HaveDigits f → AreAscii (time_text f)
unfolding time_text clock_text
ascii_text f d =
    ascii_two_digits (f.year / 100) _ (omega (arith, d.year)) (ascii_two_digits (f.year % 100) _ (omega arith)
    (ascii_cons 45 _ (lit< tt) (ascii_two_digits f.month _ d.month (ascii_cons 45 _ (lit< tt) (ascii_two_digits f.day _ d.day
    (ascii_cons 84 _ (lit< tt) (ascii_two_digits f.hour _ d.hour (ascii_cons 58 _ (lit< tt) (ascii_two_digits f.minutes _ d.minutes
    (ascii_cons 58 _ (lit< tt) (ascii_two_digits f.seconds _ d.seconds (ascii_cons 90 [] (lit< tt) (record { below = λ i. lit< tt })))))))))))))

-- the text of a time is UTF-8
pub text_utf8 : (t : DateTime) → IsUtf8 (time_text (fields_of t))
text_utf8 t = IsUtf8-from_ascii _ (ascii_text (fields_of t) (have_digits t)).below

-- the number of contents octets of a time
pub length_generalized : (f : Fields) → length (generalized_contents f) ≡ 15
unfolding generalized_contents after_year clock_contents two_digits
length_generalized f = refl

pub length_utc : (f : Fields) → length (utc_contents f) ≡ 13
unfolding utc_contents after_year clock_contents two_digits
length_utc f = refl

-- the errors are errors of the octets
time_of_octets : (kind : ErrorKind) (octets : List ℕ) (read : Option Fields) → IsTrue (is_of_octets kind) → IsOfOctets (octets_or kind octets read)
time_of_octets kind octets None h = h
time_of_octets kind octets (Some f) h = tt

pub generalized_of_octets : (rules : EncodingRules) (p : ℕ) (octets : List ℕ) → IsOfOctets (parse_generalized rules p octets)
unfolding generalized_or_fault
generalized_of_octets rules p octets =
    time_of_octets (generalized_fault octets) octets _ (elim (lacks_year octets) as (λ b. IsTrue (is_of_octets (if b then kinds.DateTime else kinds.Value tags.GeneralizedTime))) [ true ↦ refl | false ↦ refl ])

pub utc_of_octets : (rules : EncodingRules) (p : ℕ) (octets : List ℕ) → IsOfOctets (parse_utc rules p octets)
unfolding utc_or_fault
utc_of_octets rules p octets = time_of_octets (kinds.Value tags.UtcTime) octets _ refl
