-- The sizes of an encoding, from its first octets.
use Rattle.std.proofs.Common.{◌≡◌, ℕ, ◌+◌, ◌*◌, ◌%◌, ◌<◌, ◌++◌, Bool, true, false, List, [], ◌∷◌, length, get_or, nat_lt, refl, sym, ap, ◌∙◌, arith, append_assoc, lit≤}
use Rattle.std.proofs.lemmas.List.{get_or-append-add, length-append}
use Rattle.std.proofs.lemmas.Bool.Decides.{nat_tests}
use Rattle.std.proofs.lemmas.Int.Digits.{number_digits_of}
use Rattle.std.specs.Int.Digits.{digits_of, number_from_digits}
use Rattle.der_tlv.specs.declared.tag.Tag.{Tag}
use Rattle.der_tlv.specs.HeaderOctets.{header_octets}
use Rattle.der_tlv.specs.Identifier.{first_octet, identifier}
use Rattle.der_tlv.specs.IdentifierLaws.{Sized, form_bit-small, identifier-is, low_bits, low_bits-small, sized}
use Rattle.der_tlv.specs.IdentifierLaws.Sized.{short, long}
use Rattle.der_tlv.specs.LengthOctets.{length_octets}
use Rattle.der_tlv.specs.TagParts.{class_of, is_constructed, number_of}
use Rattle.der_places.specs.declared.walk.Sizes.{Sizes}
use Rattle.der_places.specs.Walking.{HasSizes, IsEncoding, StandAt}

-- the octets from an offset on
octet_there : (octets : List ℕ) (offset : ℕ) (own : List ℕ) (s : StandAt octets offset own) (k : ℕ) → get_or octets (offset + k) 0 ≡ get_or (own ++ s.after) k 0
octet_there octets offset own s k =
    ap (λ o. get_or o (offset + k) 0) s.octets_are ∙ ap (λ n. get_or (s.before ++ (own ++ s.after)) (n + k) 0) (sym s.offset_is) ∙ get_or-append-add s.before (own ++ s.after) k 0

-- an identifier whose first octet has not all of bits 5 to 1 has no other octet
one_octet : (t : Tag) (x : ℕ) → first_octet (class_of t) (is_constructed t) (low_bits (number_of t)) ≡ x → (x % 32 ≡ 31 → ⊥) → identifier t ≡ x ∷ []
one_octet t x is low = elim (sized (number_of t)) [
  | short l a b ↦ identifier-is t ∙ ap (λ o. first_octet (class_of t) (is_constructed t) (low_bits (number_of t)) ∷ o) b ∙ ap (λ y. y ∷ []) is
  | long l a b ↦ absurd (low (omega arith))
]

-- length octets of one, two and three octets
one_there : (n : ℕ) (rest : List ℕ) → get_or (length_octets n ++ rest) 0 0 < 128 → (length (length_octets n) ≡ 1) × (n ≡ get_or (length_octets n ++ rest) 0 0)
unfolding length_octets
one_there n rest = at (nat_lt n 128) refl
  where
    at : (b : Bool) → nat_lt n 128 ≡ b → get_or (length_octets n ++ rest) 0 0 < 128 → (length (length_octets n) ≡ 1) × (n ≡ get_or (length_octets n ++ rest) 0 0)
    at true e h = rw (e) (refl, refl)
    at false e h = let k = rw (e) at h in absurd (omega arith)

two_there : (n : ℕ) (rest : List ℕ) → get_or (length_octets n ++ rest) 0 0 ≡ 129 → (length (length_octets n) ≡ 2) × (n ≡ get_or (length_octets n ++ rest) 1 0)
unfolding length_octets
two_there n rest = at (nat_lt n 128) refl
  where
    digit : (ds : List ℕ) → length ds ≡ 1 → number_from_digits 256 ds ≡ n → n ≡ get_or (ds ++ rest) 0 0
    digit [] l is = absurd (omega arith)
    digit (d ∷ []) l is = omega arith
    digit (d ∷ f ∷ ds) l is = absurd (omega arith)

    at : (b : Bool) → nat_lt n 128 ≡ b → get_or (length_octets n ++ rest) 0 0 ≡ 129 → (length (length_octets n) ≡ 2) × (n ≡ get_or (length_octets n ++ rest) 1 0)
    at true e h =
        let k = rw (e) at h in
        let small : n < 128 = grind (arith, nat_tests) in
        absurd (omega arith)
    at false e h =
        let k : 128 + length (digits_of 256 n) ≡ 129 = rw (e) at h in
        let one : length (digits_of 256 n) ≡ 1 = omega arith in
        let is = digit (digits_of 256 n) one (number_digits_of 256 n (lit≤ tt)) in
        rw (e) (omega arith, is)

three_there : (n : ℕ) (rest : List ℕ) → get_or (length_octets n ++ rest) 0 0 ≡ 130 → (length (length_octets n) ≡ 3) × (n ≡ get_or (length_octets n ++ rest) 1 0 * 256 + get_or (length_octets n ++ rest) 2 0)
unfolding length_octets
three_there n rest = at (nat_lt n 128) refl
  where
    digits : (ds : List ℕ) → length ds ≡ 2 → number_from_digits 256 ds ≡ n → n ≡ get_or (ds ++ rest) 0 0 * 256 + get_or (ds ++ rest) 1 0
    digits [] l is = absurd (omega arith)
    digits (d ∷ []) l is = absurd (omega arith)
    digits (d ∷ f ∷ []) l is = omega arith
    digits (d ∷ f ∷ g ∷ ds) l is = absurd (omega arith)

    at : (b : Bool) → nat_lt n 128 ≡ b → get_or (length_octets n ++ rest) 0 0 ≡ 130 → (length (length_octets n) ≡ 3) × (n ≡ get_or (length_octets n ++ rest) 1 0 * 256 + get_or (length_octets n ++ rest) 2 0)
    at true e h =
        let k = rw (e) at h in
        let small : n < 128 = grind (arith, nat_tests) in
        absurd (omega arith)
    at false e h =
        let k : 128 + length (digits_of 256 n) ≡ 130 = rw (e) at h in
        let two : length (digits_of 256 n) ≡ 2 = omega arith in
        let is = digits (digits_of 256 n) two (number_digits_of 256 n (lit≤ tt)) in
        rw (e) (omega arith, is)

-- an encoding at an offset whose identifier is one octet
record OneOctet (octets : List ℕ) (offset : ℕ) (own : List ℕ) (e : IsEncoding own) : Type 0 where
  rest : List ℕ
  header_is : length (header_octets e.tag (length e.contents)) ≡ 1 + length (length_octets (length e.contents))
  second : get_or octets (offset + 1) 0 ≡ get_or (length_octets (length e.contents) ++ rest) 0 0
  third : get_or octets (offset + 2) 0 ≡ get_or (length_octets (length e.contents) ++ rest) 1 0
  fourth : get_or octets (offset + 3) 0 ≡ get_or (length_octets (length e.contents) ++ rest) 2 0

one_octet_there : (octets : List ℕ) (offset : ℕ) → (get_or octets offset 0 % 32 ≡ 31 → ⊥) → (own : List ℕ) (e : IsEncoding own) → StandAt octets offset own → OneOctet octets offset own e
one_octet_there octets offset low own e s =
    let t = e.tag in
    let n = length e.contents in
    let counts = length_octets n in
    let x = get_or octets offset 0 in
    let start : offset + 0 ≡ offset = omega arith in
    let first : x ≡ first_octet (class_of t) (is_constructed t) (low_bits (number_of t)) = ap (λ k. get_or octets k 0) (sym start) ∙ octet_there octets offset own s 0 ∙ ap (λ o. get_or (o ++ s.after) 0 0) e.octets_are ∙ ap (λ o. get_or (((o ++ counts) ++ e.contents) ++ s.after) 0 0) (identifier-is t) in
    let is : identifier t ≡ x ∷ [] = one_octet t x (sym first) low in
    let spread : own ++ s.after ≡ x ∷ (counts ++ (e.contents ++ s.after)) = ap (λ o. o ++ s.after) e.octets_are ∙ ap (λ o. ((o ++ counts) ++ e.contents) ++ s.after) is ∙ ap (λ o. x ∷ o) (append_assoc counts e.contents s.after) in
    let head = ap (λ o. length (o ++ counts)) is in
    record {
      rest = e.contents ++ s.after;
      header_is = omega arith;
      second = octet_there octets offset own s 1 ∙ ap (λ o. get_or o 1 0) spread;
      third = octet_there octets offset own s 2 ∙ ap (λ o. get_or o 2 0) spread;
      fourth = octet_there octets offset own s 3 ∙ ap (λ o. get_or o 3 0) spread;
    }

-- the sizes after one identifier octet, by the number of length octets
pub of_one : (octets : List ℕ) (offset count : ℕ) → (get_or octets offset 0 % 32 ≡ 31 → ⊥) → get_or octets (offset + 1) 0 < 128 → count ≡ get_or octets (offset + 1) 0 → HasSizes octets offset (record { header = 2; contents = count })
of_one octets offset count low small is own e s =
    let o = one_octet_there octets offset low own e s in
    let second = o.second in
    let below : get_or (length_octets (length e.contents) ++ o.rest) 0 0 < 128 = omega arith in
    let (counts, number) = one_there (length e.contents) o.rest below in
    let head = o.header_is in
    (omega arith, is ∙ second ∙ sym number)

pub of_two : (octets : List ℕ) (offset count : ℕ) → (get_or octets offset 0 % 32 ≡ 31 → ⊥) → get_or octets (offset + 1) 0 ≡ 129 → count ≡ get_or octets (offset + 2) 0 → HasSizes octets offset (record { header = 3; contents = count })
of_two octets offset count low two is own e s =
    let o = one_octet_there octets offset low own e s in
    let (counts, number) = two_there (length e.contents) o.rest (sym o.second ∙ two) in
    let head = o.header_is in
    (omega arith, is ∙ o.third ∙ sym number)

pub of_three : (octets : List ℕ) (offset count : ℕ) → (get_or octets offset 0 % 32 ≡ 31 → ⊥) → get_or octets (offset + 1) 0 ≡ 130 → count ≡ get_or octets (offset + 2) 0 * 256 + get_or octets (offset + 3) 0 → HasSizes octets offset (record { header = 4; contents = count })
of_three octets offset count low three is own e s =
    let o = one_octet_there octets offset low own e s in
    let (counts, number) = three_there (length e.contents) o.rest (sym o.second ∙ three) in
    let head = o.header_is in
    let third = o.third in
    let fourth = o.fourth in
    (omega arith, omega arith)
