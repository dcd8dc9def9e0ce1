-- The laws of GeneralizedTime with a fraction of a second.
use Rattle.std.proofs.Common.{◌≡◌, ℕ, ◌-◌, ◌+◌, ◌<◌, ◌==◌, ◌&&◌, nat_lt, is_ok, Bool, true, false, List, [], ◌∷◌, ◌++◌, length, get_or, take, drop, Ok, Err, refl, sym, ap, ◌∙◌, arith, append_assoc, suc}
use Rattle.std.proofs.lemmas.Bool.{and_parts, eqb-true}
use Rattle.std.proofs.lemmas.Bool.Decides.{nat_tests}
use Rattle.std.proofs.lemmas.Slice.{between_is}
use Rattle.std.proofs.lemmas.List.{take_at, drop_at, take-append-drop, take-take, length-take-le, length-append, length-drop, take_more, take_all, get_or_push, length_push}
use Rattle.der_tlv.specs.declared.error.ErrorKind.{ErrorKind}
use Rattle.der_tlv.specs.declared.error.ErrorKind.TheVariants as kinds
use Rattle.der_tlv.specs.declared.tag.Tag.{Tag}
use Rattle.der_tlv.specs.declared.tag.Tag.TheVariants as tags
use Rattle.der_tlv.specs.declared.encoding_rules.EncodingRules.{EncodingRules}
use Rattle.der_tlv.specs.declared.encoding_rules.EncodingRules.TheVariants.{Der}
use Rattle.der_tlv.specs.Identifier.{same_identifier}
use Rattle.der_tlv.specs.HeaderLaws.{same_identifier-same}
use Rattle.der_tlv.specs.OctetFaults.{IsOfOctets, of_octets_either}
use Rattle.der_time.specs.declared.generalized_time.GeneralizedTime.{GeneralizedTime}
use Rattle.der_time.specs.GeneralizedTime.{generalized_time_contents}
use Rattle.der_time.specs.Times.{clock_contents, after_year, generalized_contents}
use Rattle.der_time.specs.Digits.{two_digits}
use Rattle.der_time.specs.TimeReading.{generalized_or_fault, parse_generalized}
use Rattle.der_opaque.specs.DecodingAs.{parse_as}
use Rattle.der_time.specs.TimeLaws.{generalized_of, length_generalized}
use Rattle.der_time.specs.DateTime.{fields_of}
use Rattle.der_simple.specs.FractionalTimes.{is_fraction, after_stop, time_octets, IsFractionalTime, is_second, is_after_stop, after_second, fraction_of, is_fractional_time, HasSecond, parse_fractional_time}

-- ---- tests, and lists with a last item

both : (a b : Bool) → a ≡ true → b ≡ true → (a && b) ≡ true
both a b e f = rw (e, f) refl

less : (m n : ℕ) → nat_lt m n ≡ true → m < n
less m n e = grind (arith, nat_tests)

is_less : (m n : ℕ) → m < n → nat_lt m n ≡ true
is_less m n h = grind (arith, nat_tests)

is_false : (b : Bool) → (b ≡ true → ⊥) → b ≡ false
is_false true h = absurd (h refl)
is_false false h = refl

-- a list is its items before the last, and the last item
last_apart : (xs : List ℕ) → 0 < length xs → xs ≡ take (length xs - 1) xs ++ get_or xs (length xs - 1) 0 ∷ []
last_apart xs some =
    sym (take_all (length xs - 1 + 1) xs (omega arith)) ∙ take_more xs (length xs - 1) 0 (omega arith)

length_pushed : (xs : List ℕ) (y : ℕ) → length (xs ++ y ∷ []) - 1 ≡ length xs
length_pushed xs y = omega (arith, length_push xs y)

front_pushed : (xs : List ℕ) (y : ℕ) → take (length (xs ++ y ∷ []) - 1) (xs ++ y ∷ []) ≡ xs
front_pushed xs y = take_at xs (y ∷ []) (length (xs ++ y ∷ []) - 1) (sym (length_pushed xs y))

last_pushed : (xs : List ℕ) (y : ℕ) → get_or (xs ++ y ∷ []) (length (xs ++ y ∷ []) - 1) 0 ≡ y
last_pushed xs y = get_or_push xs y 0 (length (xs ++ y ∷ []) - 1) (sym (length_pushed xs y))

-- ---- a fraction after a full stop

-- octets that are recognised as a fraction after a full stop are a full stop and the octets after it
after_stop_of : (octets : List ℕ) → is_after_stop octets ≡ true → octets ≡ after_stop (drop 1 octets)
after_stop_of [] e = refl
after_stop_of (stop ∷ []) e = let no : false ≡ true = (and_parts (stop == 46) false e).1 in cc
after_stop_of (stop ∷ digit ∷ digits) e =
    let first : stop ≡ 46 = eqb-true stop 46 (and_parts (stop == 46) _ e).0 in ap (λ (n : ℕ). n ∷ digit ∷ digits) first

-- the octets after the full stop are a fraction
fraction_after_stop : (octets : List ℕ) → is_after_stop octets ≡ true → is_fraction (drop 1 octets) ≡ true
fraction_after_stop [] e = refl
fraction_after_stop (stop ∷ digits) e = (and_parts (nat_lt 0 (length digits)) (is_fraction digits) (and_parts (stop == 46) _ e).1).1

-- a full stop and a fraction are recognised
is_after_stop_of : (digits : List ℕ) → is_fraction digits ≡ true → is_after_stop (after_stop digits) ≡ true
is_after_stop_of [] e = refl
is_after_stop_of (digit ∷ digits) e = both (nat_lt 0 (length (digit ∷ digits))) (is_fraction (digit ∷ digits)) (is_less 0 (suc (length digits)) (omega arith)) e

-- ---- a second

-- the contents octets of a GeneralizedTime end with Z
second_and_z : (t : GeneralizedTime) → take 14 (generalized_time_contents t) ++ 90 ∷ [] ≡ generalized_time_contents t
unfolding generalized_contents after_year clock_contents two_digits
second_and_z t = refl

length_second : (t : GeneralizedTime) → length (take 14 (generalized_time_contents t)) ≡ 14
length_second t = length-take-le 14 (generalized_time_contents t) (omega (arith, length_generalized (fields_of t.date_time)))

-- the first 14 octets of a GeneralizedTime are recognised as a second
is_second_of : (t : GeneralizedTime) → is_second (take 14 (generalized_time_contents t)) ≡ true
is_second_of t = ap is_ok (ap generalized_or_fault (second_and_z t) ∙ generalized_of t.date_time)

-- ---- the whole

-- the parts of octets that are recognised
record Recognised (octets : List ℕ) : Type 0 where
  long : 14 < length octets
  z : get_or octets (length octets - 1) 0 ≡ 90
  second : is_second (take 14 octets) ≡ true
  rest : is_after_stop (after_second octets) ≡ true

recognised : (octets : List ℕ) → is_fractional_time octets ≡ true → Recognised octets
unfolding is_fractional_time
recognised octets e =
    let long = and_parts _ _ e in
    let z = and_parts _ _ long.1 in
    let second = and_parts _ _ z.1 in
    record { long = less 14 (length octets) long.0; z = eqb-true _ _ z.0; second = second.0; rest = second.1 }

recognised_of : (octets : List ℕ) → Recognised octets → is_fractional_time octets ≡ true
unfolding is_fractional_time
recognised_of octets h =
    let long : nat_lt 14 (length octets) ≡ true = is_less 14 (length octets) h.long in
    let z : (get_or octets (length octets - 1) 0 == 90) ≡ true = ap (λ (n : ℕ). n == 90) h.z in
    both _ _ long (both _ _ z (both _ _ h.second h.rest))

-- the parts, test by test
pub not_long : (octets : List ℕ) → length octets < 15 → is_fractional_time octets ≡ false
unfolding is_fractional_time
not_long octets h =
    let short : nat_lt 14 (length octets) ≡ false = grind (arith, nat_tests) in rw short refl

pub not_z : (octets : List ℕ) → (get_or octets (length octets - 1) 0 ≡ 90 → ⊥) → is_fractional_time octets ≡ false
not_z octets h = is_false (is_fractional_time octets) (λ e. h (recognised octets e).z)

pub no_second : (octets : List ℕ) → is_second (take 14 octets) ≡ false → is_fractional_time octets ≡ false
no_second octets h =
    is_false (is_fractional_time octets) (λ e. let yes : is_second (take 14 octets) ≡ true = (recognised octets e).second in let no : true ≡ false = sym yes ∙ h in cc)

-- the digits of the contents octets of a GeneralizedTime are a second
second_read : (t : GeneralizedTime) (digits : List ℕ) → generalized_time_contents t ≡ digits ++ 90 ∷ [] → is_second digits ≡ true
second_read t digits own = ap is_ok (ap generalized_or_fault (sym own) ∙ generalized_of t.date_time)

-- in octets with a second at the front and Z at the end, the octets between them decide
pub rest_decides : (t : GeneralizedTime) (octets : List ℕ) → 14 < length octets → get_or octets (length octets - 1) 0 ≡ 90 → generalized_time_contents t ≡ take 14 octets ++ 90 ∷ [] → is_fractional_time octets ≡ is_after_stop (after_second octets)
rest_decides t octets long z own = at (is_after_stop (after_second octets)) refl
  where
    at : (b : Bool) → is_after_stop (after_second octets) ≡ b → is_fractional_time octets ≡ b
    at true e = recognised_of octets (record { long = long; z = z; second = second_read t (take 14 octets) own; rest = e })
    at false e = is_false (is_fractional_time octets) (λ f. let yes : is_after_stop (after_second octets) ≡ true = (recognised octets f).rest in let no : true ≡ false = sym yes ∙ e in cc)

-- if digits and Z are refused as a GeneralizedTime, the digits are no second
pub refused_second : (tag : Tag) (octets digits : List ℕ) (kind : ErrorKind) → tag ≡ tags.GeneralizedTime → octets ≡ digits ++ 90 ∷ [] → parse_as (λ u. same_identifier u tags.GeneralizedTime) parse_generalized Der tag octets ≡ Err kind → is_second digits ≡ false
refused_second tag octets digits kind own same fault =
    let its : same_identifier tag tags.GeneralizedTime ≡ true = ap (λ (u : Tag). same_identifier u tags.GeneralizedTime) own ∙ same_identifier-same tags.GeneralizedTime in
    let read : generalized_or_fault octets ≡ Err kind = rw its at fault in
    ap is_ok (ap generalized_or_fault (sym same) ∙ read)

-- octets that are recognised are the second and the fraction that are read from them
pub put_together : (t : GeneralizedTime) (octets : List ℕ) → is_fractional_time octets ≡ true → generalized_time_contents t ≡ take 14 octets ++ 90 ∷ [] → octets ≡ time_octets t (fraction_of octets)
put_together t octets e own =
    let found = recognised octets e in
    let long : 14 < length octets = found.long in
    let front : List ℕ = take (length octets - 1) octets in
    let split : octets ≡ front ++ 90 ∷ [] = last_apart octets (omega arith) ∙ ap (λ (n : ℕ). front ++ n ∷ []) found.z in
    let second : take 14 front ≡ take 14 octets = take-take 14 (length octets - 1) octets (omega arith) in
    let digits : take 14 (generalized_time_contents t) ≡ take 14 octets = ap (take 14) own ∙ take_at (take 14 octets) (90 ∷ []) 14 (length-take-le 14 octets (omega arith)) in
    let after : drop 14 front ≡ after_second octets = sym (between_is octets 14 (length octets - 1)) in
    let parts : front ≡ take 14 (generalized_time_contents t) ++ after_stop (fraction_of octets) =
    sym (take-append-drop 14 front) ∙ ap (λ (x : List ℕ). x ++ drop 14 front) (second ∙ sym digits) ∙ ap (λ (x : List ℕ). take 14 (generalized_time_contents t) ++ x) (after ∙ after_stop_of (after_second octets) found.rest) in
    split ∙ ap (λ (x : List ℕ). x ++ 90 ∷ []) parts ∙ append_assoc (take 14 (generalized_time_contents t)) (after_stop (fraction_of octets)) (90 ∷ [])

pub is_long : (octets : List ℕ) → is_fractional_time octets ≡ true → 14 < length octets
is_long octets e = (recognised octets e).long

fraction_is : (octets : List ℕ) → is_fractional_time octets ≡ true → is_fraction (fraction_of octets) ≡ true
fraction_is octets e = fraction_after_stop (after_second octets) (recognised octets e).rest

-- the octets between the second and Z, without the first, are a fraction
pub digits_are : (octets : List ℕ) → is_fractional_time octets ≡ true → is_fraction (take (length (after_second octets) - 1) (drop 1 (after_second octets))) ≡ true
digits_are octets e =
    let all : take (length (after_second octets) - 1) (drop 1 (after_second octets)) ≡ fraction_of octets = take_all (length (after_second octets) - 1) (fraction_of octets) (omega (arith, length-drop 1 (after_second octets))) in
    ap is_fraction all ∙ fraction_is octets e

-- a second, a fraction and Z are recognised
recognised_parts : (second rest : List ℕ) → length second ≡ 14 → is_second second ≡ true → is_after_stop rest ≡ true → is_fractional_time ((second ++ rest) ++ 90 ∷ []) ≡ true
recognised_parts second rest l s r =
    let octets : List ℕ = (second ++ rest) ++ 90 ∷ [] in
    let front : take 14 octets ≡ second = ap (take 14) (append_assoc second rest (90 ∷ [])) ∙ take_at second (rest ++ 90 ∷ []) 14 l in
    let after : after_second octets ≡ rest = between_is octets 14 (length octets - 1) ∙ ap (drop 14) (front_pushed (second ++ rest) 90) ∙ drop_at second rest 14 l in
    recognised_of octets (record {
      long = omega (arith, length_push (second ++ rest) 90, length-append second rest);
      z = last_pushed (second ++ rest) 90;
      second = ap is_second front ∙ s;
      rest = ap is_after_stop after ∙ r;
    })

is_fractional_time_of : (t : GeneralizedTime) (digits : List ℕ) → is_fraction digits ≡ true → is_fractional_time (time_octets t digits) ≡ true
is_fractional_time_of t digits e =
    ap is_fractional_time (sym (append_assoc (take 14 (generalized_time_contents t)) (after_stop digits) (90 ∷ [])))
    ∙ recognised_parts (take 14 (generalized_time_contents t)) (after_stop digits) (length_second t) (is_second_of t) (is_after_stop_of digits e)

-- octets are recognised if and only if they satisfy the definition
pub recognised_time : (octets : List ℕ) → IsFractionalTime octets → is_fractional_time octets ≡ true
recognised_time octets h = ap is_fractional_time h.whole ∙ is_fractional_time_of h.second h.digits h.fraction

pub time_of_recognised : (octets : List ℕ) → is_fractional_time octets ≡ true → HasSecond octets → IsFractionalTime octets
time_of_recognised octets e second =
    record { second = second.0; digits = fraction_of octets; fraction = fraction_is octets e; whole = put_together second.0 octets e second.1 }

-- ---- reading

-- octets that are recognised are parsed unchanged
pub parse_of_fractional_time : (rules : EncodingRules) (p : ℕ) (octets c : List ℕ) → is_fractional_time octets ≡ true → c ≡ octets → parse_fractional_time rules p c ≡ Ok octets
parse_of_fractional_time rules p octets c all e = ap (parse_fractional_time rules p) e ∙ rw all refl

-- each error is an error in the octets
pub fractional_time_of_octets : (rules : EncodingRules) (p : ℕ) (octets : List ℕ) → IsOfOctets (parse_fractional_time rules p octets)
fractional_time_of_octets rules p octets = of_octets_either (is_fractional_time octets) (Ok octets) (Err (kinds.Value tags.GeneralizedTime)) tt refl
