-- Octets that are recognised as arcs are the octets of numbers, one after another (X.690 8.20.2).
use Rattle.std.proofs.Common.{◌≡◌, ℕ, ◌+◌, ◌-◌, ◌*◌, ◌/◌, ◌%◌, ◌<◌, ◌≤◌, ◌==◌, nat_le, nat_lt, not, Bool, true, false, List, [], ◌∷◌, ◌++◌, length, get_or, refl, sym, ap, ◌∙◌, arith, append_assoc, suc, zero}
use Rattle.std.specs.List.{flat_map}
use Rattle.std.specs.Int.Digits.{digits_of}
use Rattle.std.proofs.lemmas.Bool.{and_parts}
use Rattle.std.proofs.lemmas.Bool.Decides.{nat_tests}
use Rattle.std.proofs.lemmas.Int.Digits.{digits_of_step}
use Rattle.std.proofs.lemmas.List.{map-append, length-append}
use Rattle.der_tlv.specs.Identifier.{number_octets}
use Rattle.der_tlv.specs.TagDigits.{mark_digits, leading_octets}
use Rattle.der_simple.specs.Arcs.{are_arcs_after, are_arcs, IsArcs}

-- ---- the octets of a number without its last

leading_step : (n : ℕ) → 0 < n → leading_octets n ≡ leading_octets (n / 128) ++ ((128 + n % 128) ∷ [])
leading_step n h = ap mark_digits (digits_of_step 128 n (omega arith) h) ∙ map-append (λ d. 128 + d) (digits_of 128 (n / 128)) (n % 128 ∷ [])

leading_more : (n x : ℕ) → 128 ≤ x → x < 256 → 0 < n * 128 + (x - 128) → leading_octets n ++ (x ∷ []) ≡ leading_octets (n * 128 + (x - 128))
leading_more n x low high some =
    let v : ℕ = n * 128 + (x - 128) in
    let front : v / 128 ≡ n = omega arith in
    let last : 128 + v % 128 ≡ x = omega arith in
    sym (leading_step v some ∙ ap (λ (k : ℕ). leading_octets k ++ ((128 + v % 128) ∷ [])) front ∙ ap (λ (k : ℕ). leading_octets n ++ (k ∷ [])) last)

number_last : (n x : ℕ) → x < 128 → leading_octets n ++ (x ∷ []) ≡ number_octets (n * 128 + x)
unfolding number_octets
number_last n x h =
    let front : n ≡ (n * 128 + x) / 128 = omega arith in
    let last : x ≡ (n * 128 + x) % 128 = omega arith in
    ap (λ (k : ℕ). leading_octets k ++ (x ∷ [])) front ∙ ap (λ (k : ℕ). leading_octets ((n * 128 + x) / 128) ++ (k ∷ [])) last

-- ---- one octet of an arc

-- whether an arc has begun, with these digits so far
abbrev has_begun : ℕ → Bool
has_begun n = nat_lt 0 n

begun : (n : ℕ) → 0 < n → has_begun n ≡ true
begun n h = grind (arith, nat_tests)

-- an octet with bit 8 set, other than a first 80, continues an arc; one without it ends the arc
more_octet : (n x : ℕ) (xs : List ℕ) → 128 ≤ x → 0 < n * 128 + (x - 128) → are_arcs_after (has_begun n) (x ∷ xs) ≡ are_arcs_after true xs
unfolding are_arcs_after
more_octet zero x xs low some =
    let high : nat_le 128 x ≡ true = grind (arith, nat_tests) in
    let other : (x == 128) ≡ false = grind (arith, nat_tests) in
    rw (other, high) refl
more_octet (suc n) x xs low some =
    let high : nat_le 128 x ≡ true = grind (arith, nat_tests) in
    ap (λ (b : Bool). are_arcs_after b (x ∷ xs)) (begun (suc n) (omega arith)) ∙ ap (λ (b : Bool). are_arcs_after b xs) high

last_octet : (n x : ℕ) (xs : List ℕ) → x < 128 → are_arcs_after (has_begun n) (x ∷ xs) ≡ are_arcs_after false xs
unfolding are_arcs_after
last_octet zero x xs h =
    let low : nat_le 128 x ≡ false = grind (arith, nat_tests) in
    let other : (x == 128) ≡ false = grind (arith, nat_tests) in
    rw (other, low) refl
last_octet (suc n) x xs h =
    let low : nat_le 128 x ≡ false = grind (arith, nat_tests) in
    ap (λ (b : Bool). are_arcs_after b (x ∷ xs)) (begun (suc n) (omega arith)) ∙ ap (λ (b : Bool). are_arcs_after b xs) low

-- ---- octets that are recognised

-- octets after the digits of an arc so far are the octets of numbers
abbrev Joins : ℕ → List ℕ → Type 0
Joins n octets = (arcs : List ℕ) × (leading_octets n ++ octets ≡ flat_map number_octets arcs)

-- each number is an octet
abbrev AreOctets : List ℕ → Type 0
AreOctets octets = (i : ℕ) → i < length octets → get_or octets i 0 < 256

others_are : (x : ℕ) (xs : List ℕ) → AreOctets (x ∷ xs) → AreOctets xs
others_are x xs a i h = a (suc i) (omega arith)

first_is : (x : ℕ) (xs : List ℕ) → AreOctets (x ∷ xs) → x < 256
first_is x xs a = a 0 (omega arith)

some_value : (n x : ℕ) (xs : List ℕ) → 128 ≤ x → are_arcs_after (has_begun n) (x ∷ xs) ≡ true → 0 < n * 128 + (x - 128)
unfolding are_arcs_after
some_value zero x xs low e = let other = (and_parts (not (x == 128)) _ e).0 in grind (arith, nat_tests)
some_value (suc n) x xs low e = omega arith

at_least : (x : ℕ) → nat_le 128 x ≡ true → 128 ≤ x
at_least x e = grind (arith, nat_tests)

below : (x : ℕ) → nat_le 128 x ≡ false → x < 128
below x e = grind (arith, nat_tests)

joins : (n : ℕ) (octets : List ℕ) → AreOctets octets → are_arcs_after (has_begun n) octets ≡ true → Joins n octets
unfolding are_arcs_after
joins zero [] a e = ([], refl)
joins (suc n) [] a e =
    let no : false ≡ true = sym (ap (λ (b : Bool). are_arcs_after b []) (begun (suc n) (omega arith))) ∙ e in absurd (cc)
joins n (x ∷ xs) a e = at (nat_le 128 x) refl (λ v. joins v xs (others_are x xs a))
  where
    at : (b : Bool) → nat_le 128 x ≡ b → ((v : ℕ) → are_arcs_after (has_begun v) xs ≡ true → Joins v xs) → Joins n (x ∷ xs)
    at true high others =
        let low = at_least x high in
        let some = some_value n x xs low e in
        let v : ℕ = n * 128 + (x - 128) in
        let rest = others v (ap (λ (b : Bool). are_arcs_after b xs) (begun v some) ∙ sym (more_octet n x xs low some) ∙ e) in
        (rest.0, sym (append_assoc (leading_octets n) (x ∷ []) xs) ∙ ap (λ (z : List ℕ). z ++ xs) (leading_more n x low (first_is x xs a) some) ∙ rest.1)
    at false h others =
        let small = below x h in
        let rest = others zero (sym (last_octet n x xs small) ∙ e) in
        ((n * 128 + x) ∷ rest.0, sym (append_assoc (leading_octets n) (x ∷ []) xs) ∙ ap (λ (z : List ℕ). z ++ xs) (number_last n x small) ∙ ap (λ (z : List ℕ). number_octets (n * 128 + x) ++ z) rest.1)

-- ---- octets of numbers

leads : (fuel n : ℕ) (ys : List ℕ) → n ≤ fuel → are_arcs_after false (leading_octets n ++ ys) ≡ are_arcs_after (has_begun n) ys
leads fuel zero ys h = refl
leads zero (suc n) ys h = absurd (omega arith)
leads (suc fuel) (suc n) ys h =
    let z : ℕ = 128 + suc n % 128 in
    ap (λ (x : List ℕ). are_arcs_after false (x ++ ys)) (leading_step (suc n) (omega arith))
    ∙ ap (are_arcs_after false) (append_assoc (leading_octets (suc n / 128)) (z ∷ []) ys)
    ∙ leads fuel (suc n / 128) (z ∷ ys) (omega arith)
    ∙ more_octet (suc n / 128) z ys (omega arith) (omega arith)
    ∙ ap (λ (b : Bool). are_arcs_after b ys) (sym (begun (suc n) (omega arith)))

number_leads : (v : ℕ) (ys : List ℕ) → are_arcs_after false (number_octets v ++ ys) ≡ are_arcs_after false ys
unfolding number_octets
number_leads v ys =
    ap (are_arcs_after false) (append_assoc (leading_octets (v / 128)) (v % 128 ∷ []) ys)
    ∙ leads (v / 128) (v / 128) (v % 128 ∷ ys) (omega arith) ∙ last_octet (v / 128) (v % 128) ys (omega arith)

numbers_are_arcs : (arcs : List ℕ) → are_arcs_after false (flat_map number_octets arcs) ≡ true
unfolding are_arcs_after
numbers_are_arcs [] = refl
numbers_are_arcs (arc ∷ arcs) = number_leads arc (flat_map number_octets arcs) ∙ numbers_are_arcs arcs

some_octets : (v : ℕ) (ys : List ℕ) → 0 < length (number_octets v ++ ys)
unfolding number_octets
some_octets v ys = omega (arith, length-append (number_octets v) ys, length-append (leading_octets (v / 128)) (v % 128 ∷ []))

-- ---- both directions

pub arcs_of_recognised : (octets : List ℕ) → AreOctets octets → are_arcs octets ≡ true → IsArcs octets
arcs_of_recognised octets a e =
    let parts = and_parts (nat_lt 0 (length octets)) (are_arcs_after false octets) e in
    let found = joins zero octets a parts.1 in
    at found.0 found.1
  where
    at : (arcs : List ℕ) → octets ≡ flat_map number_octets arcs → IsArcs octets
    at [] whole = let none : nat_lt 0 (length octets) ≡ false = ap (λ (x : List ℕ). nat_lt 0 (length x)) whole in let no : true ≡ false = sym (and_parts (nat_lt 0 (length octets)) (are_arcs_after false octets) e).0 ∙ none in absurd (cc)
    at (first ∷ others) whole = record { first = first; others = others; whole = whole }

pub recognised_arcs : (octets : List ℕ) → IsArcs octets → are_arcs octets ≡ true
recognised_arcs octets h =
    let some : nat_lt 0 (length (flat_map number_octets (h.first ∷ h.others))) ≡ true = begun _ (some_octets h.first (flat_map number_octets h.others)) in
    ap are_arcs h.whole ∙ rw some (numbers_are_arcs (h.first ∷ h.others))
