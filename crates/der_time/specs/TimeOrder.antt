-- Order and equality of times are those of their contents octets.
use Rattle.std.proofs.Common.{◌≡◌, ℕ, ◌+◌, ◌/◌, ◌%◌, ◌==◌, ◌&&◌, Bool, true, List, ◌++◌, refl, sym, ap, ◌∙◌, arith, IsTrue, ◌↔◌}
use Rattle.std.specs.declared.cmp.Ordering.{Ordering}
use Rattle.std.specs.Ordering.{ordering_then, nat_cmp}
use Rattle.std.proofs.lemmas.Bool.{and_parts, eqb-true}
use Rattle.std.proofs.lemmas.Bool.Decides.{nat_tests}
use Rattle.der_tlv.specs.Octets.{lex}
use Rattle.der_tlv.specs.OrderingLaws.{then_assoc, then_equal}
use Rattle.der_time.specs.declared.fields.Fields.{Fields}
use Rattle.der_time.specs.declared.date_time.DateTime.{DateTime}
use Rattle.der_time.specs.Digits.{two_digits}
use Rattle.der_time.specs.Times.{generalized_contents, after_year, clock_contents}
use Rattle.der_time.specs.DateTime.{fields_of, time_contents}
use Rattle.der_time.specs.TimeLaws.{generalized_injective}

-- the fields in turn
abbrev pub fields_cmp : DateTime → DateTime → Ordering
fields_cmp v w =
    ordering_then (nat_cmp v.year w.year) (ordering_then (nat_cmp v.month w.month) (ordering_then (nat_cmp v.day w.day) (ordering_then (nat_cmp v.hour w.hour) (ordering_then (nat_cmp v.minutes w.minutes) (nat_cmp v.seconds w.seconds)))))

abbrev pub fields_eq : DateTime → DateTime → Bool
fields_eq v w =
    (v.year == w.year) && ((v.month == w.month) && ((v.day == w.day) && ((v.hour == w.hour) && ((v.minutes == w.minutes) && (v.seconds == w.seconds)))))

-- two digits are in the order of their numbers, and then the octets after them decide
order_of_digits : (a b : ℕ) → ordering_then (nat_cmp (48 + a / 10) (48 + b / 10)) (nat_cmp (48 + a % 10) (48 + b % 10)) ≡ nat_cmp a b
order_of_digits a b = grind (arith, nat_tests)

pub lex_two_digits : (a b : ℕ) (x y : List ℕ) → lex (two_digits a ++ x) (two_digits b ++ y) ≡ ordering_then (nat_cmp a b) (lex x y)
unfolding two_digits
lex_two_digits a b x y =
    then_assoc (nat_cmp (48 + a / 10) (48 + b / 10)) (nat_cmp (48 + a % 10) (48 + b % 10)) (lex x y) ∙ ap (λ o. ordering_then o (lex x y)) (order_of_digits a b)

-- numbers of four digits are in the order of their pairs of digits
order_of_pairs : (a b : ℕ) → ordering_then (nat_cmp (a / 100) (b / 100)) (nat_cmp (a % 100) (b % 100)) ≡ nat_cmp a b
order_of_pairs a b = grind (arith, nat_tests)

lex_four_digits : (a b : ℕ) (x y : List ℕ) → lex (two_digits (a / 100) ++ (two_digits (a % 100) ++ x)) (two_digits (b / 100) ++ (two_digits (b % 100) ++ y)) ≡ ordering_then (nat_cmp a b) (lex x y)
lex_four_digits a b x y =
    lex_two_digits (a / 100) (b / 100) _ _ ∙ ap (ordering_then (nat_cmp (a / 100) (b / 100))) (lex_two_digits (a % 100) (b % 100) x y)
    ∙ then_assoc (nat_cmp (a / 100) (b / 100)) (nat_cmp (a % 100) (b % 100)) (lex x y) ∙ ap (λ o. ordering_then o (lex x y)) (order_of_pairs a b)

-- the octets after the year are in the order of month, day, hour, minutes and seconds
abbrev pub after_year_cmp : Fields → Fields → Ordering
after_year_cmp f g =
    ordering_then (nat_cmp f.month g.month) (ordering_then (nat_cmp f.day g.day) (ordering_then (nat_cmp f.hour g.hour) (ordering_then (nat_cmp f.minutes g.minutes) (nat_cmp f.seconds g.seconds))))

pub lex_after_year : (f g : Fields) → lex (after_year f) (after_year g) ≡ after_year_cmp f g
unfolding after_year clock_contents
lex_after_year f g =
    rw (lex_two_digits f.month g.month, lex_two_digits f.day g.day, lex_two_digits f.hour g.hour, lex_two_digits f.minutes g.minutes, lex_two_digits f.seconds g.seconds, then_equal (nat_cmp f.seconds g.seconds)) refl

pub ord_is_contents_ord : (v w : DateTime) → fields_cmp v w ≡ lex (time_contents v) (time_contents w)
unfolding generalized_contents
ord_is_contents_ord v w =
    sym (lex_four_digits v.year w.year (after_year (fields_of v)) (after_year (fields_of w)) ∙ ap (ordering_then (nat_cmp v.year w.year)) (lex_after_year (fields_of v) (fields_of w)))

pub same_fields : (v w : DateTime) → fields_eq v w ≡ true → fields_of v ≡ fields_of w
same_fields v w e =
    let a = and_parts _ _ e in
    let b = and_parts _ _ a.1 in
    let c = and_parts _ _ b.1 in
    let d = and_parts _ _ c.1 in
    let f = and_parts _ _ d.1 in
    let year : v.year ≡ w.year = eqb-true _ _ a.0 in
    let month : v.month ≡ w.month = eqb-true _ _ b.0 in
    let day : v.day ≡ w.day = eqb-true _ _ c.0 in
    let hour : v.hour ≡ w.hour = eqb-true _ _ d.0 in
    let minutes : v.minutes ≡ w.minutes = eqb-true _ _ f.0 in
    let seconds : v.seconds ≡ w.seconds = eqb-true _ _ f.1 in
    rw (year, month, day, hour, minutes, seconds)

pub fields_eq_of : (v w : DateTime) → fields_of v ≡ fields_of w → fields_eq v w ≡ true
fields_eq_of v w e =
    let year : v.year ≡ w.year = ap (λ (f : Fields). f.year) e in
    let month : v.month ≡ w.month = ap (λ (f : Fields). f.month) e in
    let day : v.day ≡ w.day = ap (λ (f : Fields). f.day) e in
    let hour : v.hour ≡ w.hour = ap (λ (f : Fields). f.hour) e in
    let minutes : v.minutes ≡ w.minutes = ap (λ (f : Fields). f.minutes) e in
    let seconds : v.seconds ≡ w.seconds = ap (λ (f : Fields). f.seconds) e in
    grind (arith, nat_tests)

pub eq_is_contents_eq : (v w : DateTime) → Unit {0} → (IsTrue (fields_eq v w) ↔ (time_contents v ≡ time_contents w))
eq_is_contents_eq v w _ = (λ e. ap generalized_contents (same_fields v w e), λ e. fields_eq_of v w (generalized_injective v w e))
