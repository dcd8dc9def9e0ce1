-- A number in base 128 at the front of octets (X.690 8.19.2), of which some octets were read.
use Rattle.std.proofs.Common.{Bool, true, false, nat_lt, ◌≡◌, ◌⊎◌, ℕ, ◌+◌, ◌-◌, ◌*◌, ◌/◌, ◌%◌, ◌^◌, ◌<◌, ◌≤◌, List, [], ◌∷◌, ◌++◌, length, get_or, take, drop, refl, sym, ap, ◌∙◌, arith, append_assoc, suc, zero, inl, inr, add-one, drop-cons, subst, Fits, w8}
use Rattle.std.specs.Int.Digits.{digits_of}
use Rattle.std.proofs.lemmas.Int.Digits.{digits_of_step, first_digits_of}
use Rattle.std.proofs.lemmas.List.{map-append, length-append, take-append-drop, take_all, take_more, take_rest, get_or-drop}
use borrow.Author.Tests.{ltb-true, ltb-false}
use Rattle.der_tlv.specs.Identifier.{number_octets}
use Rattle.der_tlv.specs.IdentifierLaws.{number_octets-unique}
use Rattle.der_tlv.specs.TagDigits.{mark_digits, leading_octets}

below_or_not : (a b : ℕ) → (a < b) ⊎ (b ≤ a)
below_or_not a b = at (nat_lt a b) refl
  where
    at : (t : Bool) → nat_lt a b ≡ t → (a < b) ⊎ (b ≤ a)
    at true e = inl (ltb-true a b e)
    at false e = inr (ltb-false a b e)

-- each number is an octet
abbrev pub AreOctets : List ℕ → Type 0
AreOctets octets = (i : ℕ) → Fits w8 (get_or octets i 0)

leading_step : (n : ℕ) → 0 < n → leading_octets n ≡ leading_octets (n / 128) ++ ((128 + n % 128) ∷ [])
leading_step n h = ap mark_digits (digits_of_step 128 n (omega arith) h) ∙ map-append (λ d. 128 + d) (digits_of 128 (n / 128)) (n % 128 ∷ [])

-- an octet with bit 8 set continues a number
pub leading_more : (n x : ℕ) → 128 ≤ x → x < 256 → 0 < n * 128 + x % 128 → leading_octets n ++ (x ∷ []) ≡ leading_octets (n * 128 + x % 128)
leading_more n x low high some =
    let v : ℕ = n * 128 + x % 128 in
    let front : v / 128 ≡ n = omega arith in
    let last : 128 + v % 128 ≡ x = omega arith in
    sym (leading_step v some ∙ ap (λ (k : ℕ). leading_octets k ++ ((128 + v % 128) ∷ [])) front ∙ ap (λ (k : ℕ). leading_octets n ++ (k ∷ [])) last)

-- an octet without bit 8 ends a number
pub number_last : (n x : ℕ) → x < 128 → leading_octets n ++ (x ∷ []) ≡ number_octets (n * 128 + x)
unfolding number_octets
number_last n x h =
    let front : n ≡ (n * 128 + x) / 128 = omega arith in
    let last : x ≡ (n * 128 + x) % 128 = omega arith in
    ap (λ (k : ℕ). leading_octets k ++ (x ∷ [])) front ∙ ap (λ (k : ℕ). leading_octets ((n * 128 + x) / 128) ++ (k ∷ [])) last

-- the first octet of a number is not 80 (8.19.2)
digit_first : (ds : List ℕ) (r : ℕ) (xs ys : List ℕ) → 0 < length ds → 0 < get_or ds 0 0 → (mark_digits ds ++ (r ∷ [])) ++ ys ≡ 128 ∷ xs → ⊥
digit_first [] r xs ys some first e = omega arith
digit_first (d ∷ ds) r xs ys some first e = let same : 128 + d ≡ 128 = cc in omega arith

no_digits : (ds : List ℕ) (r : ℕ) (xs ys : List ℕ) → ds ≡ [] → r < 128 → (mark_digits ds ++ (r ∷ [])) ++ ys ≡ 128 ∷ xs → ⊥
no_digits [] r xs ys none low e = let same : r ≡ 128 = cc in omega arith
no_digits (d ∷ ds) r xs ys none low e = absurd (cc)

begins_80 : (q r : ℕ) (xs ys : List ℕ) → r < 128 → (leading_octets q ++ (r ∷ [])) ++ ys ≡ 128 ∷ xs → ⊥
begins_80 zero r xs ys low e = no_digits (digits_of 128 0) r xs ys refl low e
begins_80 (suc q) r xs ys low e =
    let first : 0 < get_or (digits_of 128 (suc q)) 0 0 = first_digits_of 128 (suc q) (omega arith) (omega arith) in
    digit_first (digits_of 128 (suc q)) r xs ys (some (digits_of 128 (suc q)) first) first e
  where
    some : (ds : List ℕ) → 0 < get_or ds 0 0 → 0 < length ds
    some [] h = absurd (omega arith)
    some (d ∷ ds) h = omega arith

pub not_80 : (n : ℕ) (xs ys : List ℕ) → number_octets n ++ ys ≡ 128 ∷ xs → ⊥
unfolding number_octets
not_80 n xs ys e = begins_80 (n / 128) (n % 128) xs ys (omega arith) e

-- octets with bit 8 set do not end a number
pub not_ended : (a n : ℕ) (ys : List ℕ) → leading_octets a ≡ number_octets n ++ ys → ⊥
not_ended a n ys e =
    let longer : number_octets (a * 128 + 0) ++ [] ≡ number_octets n ++ (ys ++ (0 ∷ [])) =
    ap (λ z. z ++ []) (sym (number_last a 0 (omega arith))) ∙ append_assoc (leading_octets a) (0 ∷ []) [] ∙ ap (λ z. z ++ (0 ∷ [])) e ∙ append_assoc (number_octets n) ys (0 ∷ []) in
    let ends : [] ≡ ys ++ (0 ∷ []) = (number_octets-unique (a * 128 + 0) n [] (ys ++ (0 ∷ [])) longer).1 in
    let l = ap length ends in
    omega (arith, l, length-append ys (0 ∷ []))

others_are : (x : ℕ) (xs : List ℕ) → AreOctets (x ∷ xs) → AreOctets xs
others_are x xs a i = a (suc i)

first_is : (x : ℕ) (xs : List ℕ) → AreOctets (x ∷ xs) → x < 256
first_is x xs a = let f = a 0 in omega arith

append_nil : (xs : List ℕ) → xs ++ [] ≡ xs
append_nil [] = refl
append_nil (x ∷ xs) = ap (λ z. x ∷ z) (append_nil xs)

-- a number that goes on has at least one more digit
pub at_least : (xs : List ℕ) (a n : ℕ) (ys : List ℕ) → AreOctets xs → 0 < a → leading_octets a ++ xs ≡ number_octets n ++ ys → a * 128 ≤ n
at_least [] a n ys are some e = absurd (not_ended a n ys (sym (append_nil (leading_octets a)) ∙ e))
at_least (x ∷ xs) a n ys are some e =
    elim (below_or_not x 128) [
      | inl low ↦
          let same : number_octets (a * 128 + x) ++ xs ≡ number_octets n ++ ys = ap (λ z. z ++ xs) (sym (number_last a x low)) ∙ append_assoc (leading_octets a) (x ∷ []) xs ∙ e in
          let is = (number_octets-unique (a * 128 + x) n xs ys same).0 in
          omega arith
      | inr high ↦
          let more : leading_octets (a * 128 + x % 128) ++ xs ≡ number_octets n ++ ys = ap (λ z. z ++ xs) (sym (leading_more a x high (first_is x xs are) (omega arith))) ∙ append_assoc (leading_octets a) (x ∷ []) xs ∙ e in
          let below = at_least xs (a * 128 + x % 128) n ys (others_are x xs are) (omega arith) more in
          omega arith
    ]

-- the octets that were read are the front of a number
stands : (octets : List ℕ) (i number : ℕ) → take i octets ≡ leading_octets number → leading_octets number ++ drop i octets ≡ octets
stands octets i number e = ap (λ z. z ++ drop i octets) (sym e) ∙ take-append-drop i octets

stands_at : (octets : List ℕ) (i number : ℕ) → take i octets ≡ leading_octets number → i < length octets → leading_octets number ++ (get_or octets i 0 ∷ drop (i + 1) octets) ≡ octets
stands_at octets i number e h =
    let split : drop i octets ≡ get_or octets i 0 ∷ drop (i + 1) octets = drop-cons octets i 0 h ∙ ap (λ k. get_or octets i 0 ∷ drop k octets) (sym (add-one i)) in
    ap (λ z. leading_octets number ++ z) (sym split) ∙ stands octets i number e

octet_is : (octets : List ℕ) (i : ℕ) → AreOctets octets → get_or octets i 0 < 256
octet_is octets i are = let f = are i in omega arith

behind_are : (octets : List ℕ) (i : ℕ) → AreOctets octets → AreOctets (drop i octets)
behind_are octets i are j = let F : ℕ → Type 0 = λ k. Fits w8 k in subst F (sym (get_or-drop i octets j 0)) (are (i + j))

-- a number whose digits so far are those of 2 ^ 57 or more is not below 2 ^ 64
pub too_great : (octets : List ℕ) (i number : ℕ) → AreOctets octets → take i octets ≡ leading_octets number → 2 ^ 57 ≤ number → (n : ℕ) (others : List ℕ) → octets ≡ number_octets n ++ others → 2 ^ 64 ≤ n
too_great octets i number are e great n others whole =
    let least = at_least (drop i octets) number n others (behind_are octets i are) (omega arith) (stands octets i number e ∙ whole) in
    omega arith

-- a number does not begin with 80
pub begins_with_80 : (octets : List ℕ) (i number : ℕ) → AreOctets octets → take i octets ≡ leading_octets number → i < length octets → 128 ≤ get_or octets i 0 → number * 128 + get_or octets i 0 % 128 ≡ 0 → (n : ℕ) (others : List ℕ) → octets ≡ number_octets n ++ others → 2 ^ 64 ≤ n
begins_with_80 octets i number are e h high none n others whole =
    let zero_number : number ≡ 0 = omega arith in
    let small : get_or octets i 0 < 256 = octet_is octets i are in
    let is_80 : get_or octets i 0 ≡ 128 = omega arith in
    let front : number_octets n ++ others ≡ 128 ∷ drop (i + 1) octets =
    sym whole ∙ sym (stands_at octets i number e h) ∙ ap (λ k. leading_octets k ++ (get_or octets i 0 ∷ drop (i + 1) octets)) zero_number ∙ ap (λ k. k ∷ drop (i + 1) octets) is_80 in
    absurd (not_80 n (drop (i + 1) octets) others front)

-- a number ends within the octets
pub ends_never : (octets : List ℕ) (i number : ℕ) → length octets ≤ i → take i octets ≡ leading_octets number → (n : ℕ) (others : List ℕ) → octets ≡ number_octets n ++ others → 2 ^ 64 ≤ n
ends_never octets i number all e n others whole =
    absurd (not_ended number n others (sym e ∙ take_all i octets all ∙ whole))

-- the octet that ends a number
pub number_found : (octets : List ℕ) (i number v : ℕ) → take i octets ≡ leading_octets number → i < length octets → get_or octets i 0 < 128 → v ≡ number * 128 + get_or octets i 0 % 128 → octets ≡ number_octets v ++ take (length octets - (i + 1)) (drop (i + 1) octets)
number_found octets i number v e h low is =
    let x : ℕ = get_or octets i 0 in
    let value : number * 128 + x ≡ v = omega arith in
    sym (stands_at octets i number e h) ∙ sym (append_assoc (leading_octets number) (x ∷ []) (drop (i + 1) octets)) ∙ ap (λ z. z ++ drop (i + 1) octets) (number_last number x low)
    ∙ ap (λ k. number_octets k ++ drop (i + 1) octets) value ∙ ap (λ z. number_octets v ++ z) (sym (take_rest octets (i + 1)))

-- the octet that continues a number
pub number_goes_on : (octets : List ℕ) (i number v : ℕ) → AreOctets octets → take i octets ≡ leading_octets number → i < length octets → 128 ≤ get_or octets i 0 → v ≡ number * 128 + get_or octets i 0 % 128 → 0 < v → take (i + 1) octets ≡ leading_octets v
number_goes_on octets i number v are e h high is some =
    let x : ℕ = get_or octets i 0 in
    take_more octets i 0 h ∙ ap (λ z. z ++ (x ∷ [])) e ∙ leading_more number x high (octet_is octets i are) (omega arith) ∙ ap leading_octets (sym is)
