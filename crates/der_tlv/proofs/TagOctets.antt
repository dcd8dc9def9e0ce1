-- The octets of a number in base 128, one after another.
use Rattle.std.proofs.Common.{◌≡◌, ℕ, ◌+◌, ◌/◌, ◌%◌, ◌<◌, ◌≤◌, ◌^◌, List, [], ◌∷◌, ◌++◌, length, sym, ap, ◌∙◌, arith, append_assoc, length-append}
use Rattle.std.proofs.lemmas.List.{length-map, map-append}
use Rattle.std.specs.Int.Digits.{digits_of}
use Rattle.std.proofs.lemmas.Int.Digits.{digits_of_step, length-digits_of-le}
use Rattle.der_tlv.specs.declared.tag.Tag.{Tag}
use Rattle.der_tlv.specs.TagParts.{class_of, is_constructed, number_of}
use Rattle.der_tlv.specs.Identifier.{first_octet, number_octets, identifier}
use Rattle.der_tlv.specs.IdentifierLaws.{identifier-is, low_bits, sized}
use Rattle.der_tlv.specs.IdentifierLaws.Sized.{short, long}
use Rattle.der_tlv.specs.TagDigits.{mark_digits, leading_octets}

-- the last of the octets with bit 8 set
pub leading_octets-step : (n : ℕ) → 0 < n → leading_octets n ≡ leading_octets (n / 128) ++ ((128 + n % 128) ∷ [])
leading_octets-step n h = ap mark_digits (digits_of_step 128 n (omega arith) h) ∙ map-append (λ k. 128 + k) (digits_of 128 (n / 128)) (n % 128 ∷ [])

-- each digit adds one octet
pub length-leading_octets-step : (n : ℕ) → 0 < n → length (leading_octets n) ≡ length (leading_octets (n / 128)) + 1
length-leading_octets-step n h = ap length (leading_octets-step n h) ∙ length-append (leading_octets (n / 128)) ((128 + n % 128) ∷ [])

-- appending one octet to the leading octets of a number without its last digit
pub leading_pushed : (old before new : List ℕ) (n : ℕ) → 0 < n → before ≡ old ++ leading_octets (n / 128) → new ≡ before ++ ((128 + n % 128) ∷ []) → new ≡ old ++ leading_octets n
leading_pushed old before new n h e f =
    f ∙ ap (λ z. z ++ ((128 + n % 128) ∷ [])) e ∙ append_assoc old (leading_octets (n / 128)) ((128 + n % 128) ∷ []) ∙ ap (λ z. old ++ z) (sym (leading_octets-step n h))

-- at most four octets come before the last
pub length-leading_octets : (n : ℕ) → n < 2 ^ 32 → length (leading_octets (n / 128)) ≤ 4
length-leading_octets n h = let a = length-map (digits_of 128 (n / 128)) (λ k. 128 + k) in let b : length (digits_of 128 (n / 128)) ≤ 4 = length-digits_of-le 128 4 (n / 128) (omega arith) (omega arith) in omega arith

-- the last octet of a number
pub number_pushed : (old before new : List ℕ) (n : ℕ) → before ≡ old ++ leading_octets (n / 128) → new ≡ before ++ ((n % 128) ∷ []) → new ≡ old ++ number_octets n
unfolding number_octets
number_pushed old before new n e f = f ∙ ap (λ z. z ++ ((n % 128) ∷ [])) e ∙ append_assoc old (leading_octets (n / 128)) ((n % 128) ∷ [])

-- the first identifier octet, which is the only one for a number of at most 30
pub identifier_pushed : (old new : List ℕ) (t : Tag) (octet : ℕ) → number_of t < 31 → octet ≡ first_octet (class_of t) (is_constructed t) (low_bits (number_of t)) → new ≡ old ++ (octet ∷ []) → new ≡ old ++ identifier t
identifier_pushed old new t octet small e pushed =
    elim (sized (number_of t)) [
      | short l m none ↦ pushed ∙ ap (λ k. old ++ (k ∷ [])) e ∙ ap (λ z. old ++ (first_octet (class_of t) (is_constructed t) (low_bits (number_of t)) ∷ z)) (sym none) ∙ ap (λ z. old ++ z) (sym (identifier-is t))
      | long l m others ↦ absurd (omega arith)
    ]

-- the first identifier octet, and then those of the number
pub long_identifier_pushed : (old before new : List ℕ) (t : Tag) (n octet : ℕ) → n ≡ number_of t → 31 ≤ n → octet ≡ first_octet (class_of t) (is_constructed t) (low_bits (number_of t)) → before ≡ old ++ (octet ∷ []) → new ≡ before ++ number_octets n → new ≡ old ++ identifier t
long_identifier_pushed old before new t n octet same great e pushed others =
    let first : ℕ = first_octet (class_of t) (is_constructed t) (low_bits (number_of t)) in
    elim (sized (number_of t)) [
      | short l m none ↦ absurd (omega arith)
      | long l m later ↦ others ∙ ap (λ z. z ++ number_octets n) (pushed ∙ ap (λ k. old ++ (k ∷ [])) e) ∙ append_assoc old (first ∷ []) (number_octets n)
          ∙ ap (λ z. old ++ (first ∷ z)) (ap number_octets same ∙ sym later) ∙ ap (λ z. old ++ z) (sym (identifier-is t))
    ]
