-- The encoding at the front of octets is what `front_of` finds.
use Rattle.std.proofs.Common.{◌≡◌, ℕ, zero, suc, ◌+◌, ◌*◌, ◌^◌, ◌<◌, ◌≤◌, Bool, true, false, List, [], ◌∷◌, ◌++◌, length, take, drop, Some, None, cond, nat_lt, nat_le, refl, ap, ◌∙◌, append_assoc, arith, lit≤}
use Rattle.std.proofs.lemmas.List.{length-append}
use Rattle.std.proofs.lemmas.Bool.Decides.{nat_tests}
use Rattle.std.proofs.Math.Seq.{drop-append_seam, take-append_seam}
use Rattle.std.specs.Int.Digits.{digits_of, number_from_digits, number_from_digits_after}
use Rattle.std.proofs.lemmas.Int.Digits.{length-digits_of-le, number_digits_of}
use Rattle.der_tlv.specs.declared.tag.Tag.{Tag}
use Rattle.der_tlv.specs.HeaderOctets.{tlv}
use Rattle.der_tlv.specs.Identifier.{identifier}
use Rattle.der_tlv.specs.LengthOctets.{length_octets}
use Rattle.der_verify.specs.Elements.{after_length, front_of, split_at, split_long, with_identifier_octet}

-- as many octets as there are before others
split_here : (c x : List ℕ) → split_at (length c) (c ++ x) ≡ Some (c, x)
split_here c x =
    let enough : nat_le (length c) (length (c ++ x)) ≡ true = let l = length-append c x in grind (arith, nat_tests) in
    ap (λ b. cond b (Some (take (length c) (c ++ x), drop (length c) (c ++ x))) None) enough ∙ ap (λ t. Some (t, drop (length c) (c ++ x))) (take-append_seam c x) ∙ ap (λ d. Some (c, d)) (drop-append_seam c x)

-- the digits of a length are those of its number
split_digits : (ds : List ℕ) (n : ℕ) (rest : List ℕ) → split_long (length ds) n (ds ++ rest) ≡ split_at (number_from_digits_after 256 n ds) rest
split_digits [] n rest = refl
split_digits (d ∷ ds) n rest = split_digits ds (n * 256 + d) rest

-- the long form with one, two or three octets
split_counted : (k : ℕ) (octets : List ℕ) → 0 < k → k ≤ 3 → after_length (128 + k) octets ≡ split_long k 0 octets
split_counted zero octets some few = absurd (omega arith)
split_counted (suc zero) octets some few = refl
split_counted (suc (suc zero)) octets some few = refl
split_counted (suc (suc (suc zero))) octets some few = refl
split_counted (suc (suc (suc (suc k)))) octets some few = absurd (omega arith)

-- the short form
split_short : (n : ℕ) (octets : List ℕ) → nat_lt n 128 ≡ true → after_length n octets ≡ split_at n octets
split_short n octets e = rw e refl

some_digit : (ds : List ℕ) (n : ℕ) → number_from_digits 256 ds ≡ n → 128 ≤ n → 0 < length ds
some_digit [] n is long = absurd (omega arith)
some_digit (d ∷ ds) n is long = omega arith

-- the contents octets after their length octets
after : (i : ℕ) (c x : List ℕ) → length c < 2 ^ 24 → front_of (i ∷ (length_octets (length c) ++ (c ++ x))) ≡ Some (i, c, x)
unfolding length_octets
after i c x short = at (nat_lt (length c) 128) refl
  where
    either : Bool → List ℕ
    either b = cond b (length c ∷ []) ((128 + length (digits_of 256 (length c))) ∷ digits_of 256 (length c))

    at : (b : Bool) → nat_lt (length c) 128 ≡ b → front_of (i ∷ (either (nat_lt (length c) 128) ++ (c ++ x))) ≡ Some (i, c, x)
    at true e =
        ap (λ b. front_of (i ∷ (either b ++ (c ++ x)))) e
        ∙ ap (with_identifier_octet i) (split_short (length c) (c ++ x) e ∙ split_here c x)
    at false e =
        let long : 128 ≤ length c = grind (arith, nat_tests) in
        let few : length (digits_of 256 (length c)) ≤ 3 = length-digits_of-le 256 3 (length c) (lit≤ tt) short in
        let number : number_from_digits 256 (digits_of 256 (length c)) ≡ length c = number_digits_of 256 (length c) (lit≤ tt) in
        ap (λ b. front_of (i ∷ (either b ++ (c ++ x)))) e
        ∙ ap (with_identifier_octet i) (split_counted (length (digits_of 256 (length c))) (digits_of 256 (length c) ++ (c ++ x)) (some_digit (digits_of 256 (length c)) (length c) number long) few ∙ split_digits (digits_of 256 (length c)) 0 (c ++ x) ∙ ap (λ n. split_at n (c ++ x)) number ∙ split_here c x)

pub agrees : (t : Tag) (i : ℕ) (c x : List ℕ) → identifier t ≡ i ∷ [] → length c < 2 ^ 24 → front_of (tlv t c ++ x) ≡ Some (i, c, x)
agrees t i c x one short =
    ap (λ o. front_of (((o ++ length_octets (length c)) ++ c) ++ x)) one
    ∙ ap (λ o. front_of (i ∷ o)) (append_assoc (length_octets (length c)) c x)
    ∙ after i c x short
