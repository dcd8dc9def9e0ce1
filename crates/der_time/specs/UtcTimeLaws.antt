-- The laws of UTCTime.
use Rattle.std.proofs.Common.{◌≡◌, ℕ, ◌%◌, ◌≤◌, Ok, sym, ap, ◌∙◌, arith, IsTrue, ◌↔◌}
use Rattle.std.specs.Ordering.{ordering_then, nat_cmp}
use Rattle.std.proofs.lemmas.Bool.Decides.{nat_tests}
use Rattle.der_tlv.specs.Octets.{lex}
use Rattle.der_tlv.specs.OrderingLaws.{then_assoc}
use Rattle.der_time.specs.declared.utc_time.UtcTime.{UtcTime}
use Rattle.der_time.specs.Times.{utc_contents, after_year}
use Rattle.der_time.specs.TimeReading.{utc_or_fault}
use Rattle.der_time.specs.DateTime.{fields_of}
use Rattle.der_time.specs.UtcTime.{utc_time_contents}
use Rattle.der_time.specs.TimeLaws.{utc_of, utc_injective}
use Rattle.der_time.specs.TimeOrder.{fields_cmp, fields_eq, fields_eq_of, same_fields, lex_two_digits, lex_after_year, after_year_cmp}

-- the contents octets of a UTCTime are read
pub utc_time_of : (t : UtcTime) → utc_or_fault (utc_time_contents t) ≡ Ok (utc_time_contents t)
utc_time_of t = utc_of t.date_time (omega (arith, t.to_2049))

-- two are equal exactly if their contents octets are
pub utc_eq_is_contents_eq : (v w : UtcTime) → Unit {0} → (IsTrue (fields_eq v.date_time w.date_time) ↔ (utc_time_contents v ≡ utc_time_contents w))
utc_eq_is_contents_eq v w _ =
    (λ e. ap utc_contents (same_fields v.date_time w.date_time e), λ e. fields_eq_of v.date_time w.date_time (utc_injective v.date_time w.date_time (omega (arith, v.to_2049)) (omega (arith, w.to_2049)) e))

-- years from 1970 to 2049 are the same if their last two digits are
same_century : (a b : ℕ) → 1970 ≤ a → a ≤ 2049 → 1970 ≤ b → b ≤ 2049 → ordering_then (nat_cmp (a % 100) (b % 100)) (nat_cmp a b) ≡ nat_cmp (a % 100) (b % 100)
same_century a b f g h i = grind (arith, nat_tests)

-- the order of contents octets: the last two digits of the year, and then the whole time
pub utc_contents_cmp : (v w : UtcTime) → ordering_then (nat_cmp (v.date_time.year % 100) (w.date_time.year % 100)) (fields_cmp v.date_time w.date_time) ≡ lex (utc_time_contents v) (utc_time_contents w)
unfolding utc_contents
utc_contents_cmp v w =
    let a = v.date_time.year in let b = w.date_time.year in
    let rest = after_year_cmp (fields_of v.date_time) (fields_of w.date_time) in
    then_assoc (nat_cmp (a % 100) (b % 100)) (nat_cmp a b) rest
    ∙ ap (λ o. ordering_then o rest) (same_century a b v.date_time.year_in.0 v.to_2049 w.date_time.year_in.0 w.to_2049)
    ∙ sym (lex_two_digits (a % 100) (b % 100) (after_year (fields_of v.date_time)) (after_year (fields_of w.date_time)) ∙ ap (ordering_then (nat_cmp (a % 100) (b % 100))) (lex_after_year (fields_of v.date_time) (fields_of w.date_time)))
