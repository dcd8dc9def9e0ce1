-- A header with one identifier octet, and two or three length octets.
use Rattle.std.proofs.Common.{◌≡◌, ℕ, zero, suc, ◌+◌, ◌*◌, ◌<◌, ◌≤◌, ◌^◌, false, List, [], ◌∷◌, ◌++◌, length, take, drop, get_or, Some, nat_lt, refl, sym, ap, ◌∙◌, arith, lit≤}
use Rattle.std.proofs.lemmas.List.{take-append-drop, length-take}
use Rattle.std.proofs.lemmas.Bool.Decides.{nat_tests}
use Rattle.std.specs.Int.Digits.{digits_of, number_from_digits}
use Rattle.der_tlv.specs.declared.tag.Tag.{Tag}
use Rattle.der_tlv.specs.TagParts.{IsTag}
use Rattle.der_tlv.specs.Identifier.{identifier}
use Rattle.der_tlv.specs.LengthOctets.{length_octets}
use Rattle.der_tlv.specs.LengthLaws.{digits_of-number}
use Rattle.der_tlv.specs.HeaderOctets.{header_octets}
use Rattle.der_tlv.specs.HeaderReading.{read_tag, read_header, header}
use Rattle.der_tlv.specs.HeaderLaws.{read_header-octets}
use Rattle.der_tlv.specs.ReaderState.{ReaderState, IsReaderState, rest, after_read}
use Rattle.der_tlv.specs.Reading.{OctetRead, HeadRead}
use Rattle.der_tlv.specs.ShortTags.{short_tag}
use Rattle.der_tlv.proofs.ReaderStates.{rest_first}
use Rattle.der_tlv.proofs.Lengths.{after_more}
use Rattle.der_tlv.proofs.ShortReads.{short_tag_read}

-- the length octets of a length from 128 to 255
pub one_octet : (first last : ℕ) → 128 ≤ first → first < 256 → take 2 (129 ∷ first ∷ last ∷ []) ≡ length_octets first
unfolding length_octets
one_octet first last long small =
    let e : nat_lt first 128 ≡ false = grind (arith, nat_tests) in
    let n : first ≡ number_from_digits 256 (first ∷ []) = omega arith in
    let ds : digits_of 256 first ≡ first ∷ [] = ap (digits_of 256) n ∙ digits_of-number 256 first [] (lit≤ tt) (omega arith) (small, tt) in
    rw (e, ds) refl

-- the length octets of a length from 256 to 65535
pub two_octets : (first last n : ℕ) → 0 < first → first < 256 → last < 256 → n ≡ first * 256 + last → take 3 (130 ∷ first ∷ last ∷ []) ≡ length_octets n
unfolding length_octets
two_octets first last n some small below is =
    let e : nat_lt n 128 ≡ false = grind (arith, nat_tests) in
    let number : n ≡ number_from_digits 256 (first ∷ last ∷ []) = omega arith in
    let ds : digits_of 256 n ≡ first ∷ last ∷ [] = ap (digits_of 256) number ∙ digits_of-number 256 first (last ∷ []) (lit≤ tt) some (small, (below, tt)) in
    rw (e, ds) refl

-- the octets that come next
octet_next : (s : ReaderState) → IsReaderState s → s.position < s.end → {x : ℕ} → get_or s.input s.position 0 ≡ x → rest s ≡ x ∷ rest (after_read s 1)
octet_next s sound more is = rest_first s sound more ∙ ap (λ x. x ∷ rest (after_read s 1)) is

-- an identifier of one octet
identifier_is : {old : ReaderState} {x : ℕ} {t : Tag} {others : List ℕ} → rest old ≡ x ∷ others → HeadRead read_tag (identifier t) old (after_read old 1) t → identifier t ≡ x ∷ []
identifier_is {old} {x} {t} {others} left head =
    let position : old.position + 1 ≡ old.position + length (identifier t) = ap (λ (s : ReaderState). s.position) head.after in
    let one : length (identifier t) ≡ 1 = omega arith in
    sym head.taken ∙ ap (λ k. take k (rest old)) one ∙ ap (take 1) left

pub long_header_read : {old new : ReaderState} {x c f l m n : ℕ} {t : Tag} → IsReaderState old → old.failed ≡ false → old.position + 4 ≤ old.end → get_or old.input old.position 0 ≡ x → get_or old.input (old.position + 1) 0 ≡ c → get_or old.input (old.position + 2) 0 ≡ f → get_or old.input (old.position + 3) 0 ≡ l → x < 256 → short_tag x ≡ Some t → IsTag t → take m (c ∷ f ∷ l ∷ []) ≡ length_octets n → m ≤ 3 → n < 2 ^ 32 → new ≡ after_read old (1 + m) → HeadRead read_header (header_octets t n) old new (header t n)
long_header_read {old = old} {new = new} {x = x} {c = c} {f = f} {l = l} {m = m} {n = n} {t = t} sound ready room is_x is_c is_f is_l small tag numbered length_is few below after =
    let in_input = sound.inside in
    let s1 : ReaderState = after_read old 1 in
    let s2 : ReaderState = after_read old 2 in
    let s3 : ReaderState = after_read old 3 in
    let sound1 : IsReaderState s1 = record { ordered = omega arith; inside = sound.inside; short = sound.short } in
    let sound2 : IsReaderState s2 = record { ordered = omega arith; inside = sound.inside; short = sound.short } in
    let sound3 : IsReaderState s3 = record { ordered = omega arith; inside = sound.inside; short = sound.short } in
    let left3 : rest s3 ≡ l ∷ rest (after_read s3 1) = octet_next s3 sound3 (omega arith) is_l in
    let left2 : rest s2 ≡ f ∷ rest s3 = octet_next s2 sound2 (omega arith) is_f ∙ ap (λ s. f ∷ rest s) (after_more old 2 1) in
    let left1 : rest s1 ≡ c ∷ rest s2 = octet_next s1 sound1 (omega arith) is_c ∙ ap (λ s. c ∷ rest s) (after_more old 1 1) in
    let left : rest old ≡ x ∷ rest s1 = octet_next old sound (omega arith) is_x in
    let all : rest old ≡ x ∷ c ∷ f ∷ l ∷ rest (after_read s3 1) = left ∙ ap (λ z. x ∷ z) (left1 ∙ ap (λ z. c ∷ z) (left2 ∙ ap (λ z. f ∷ z) left3)) in
    let first : OctetRead old s1 x = record { ready = ready; first = left; after = refl } in
    let identified : identifier t ≡ x ∷ [] = identifier_is left (short_tag_read first small tag) in
    let octets : header_octets t n ≡ x ∷ take m (c ∷ f ∷ l ∷ []) = ap (λ i. i ++ length_octets n) identified ∙ ap (λ z. x ∷ z) (sym length_is) in
    let count : length (header_octets t n) ≡ 1 + m = ap length octets ∙ omega (arith, length-take m (c ∷ f ∷ l ∷ [])) in
    let front : header_octets t n ≡ take (1 + m) (rest old) = octets ∙ front_of m (rest (after_read s3 1)) few ∙ ap (take (1 + m)) (sym all) in
    let whole : rest old ≡ header_octets t n ++ drop (1 + m) (rest old) = sym (take-append-drop (1 + m) (rest old)) ∙ ap (λ o. o ++ drop (1 + m) (rest old)) (sym front) in
    record {
      ready = ready;
      parsed = ap (read_header old.position) whole ∙ read_header-octets t n old.position (drop (1 + m) (rest old)) numbered below;
      taken = ap (λ k. take k (rest old)) count ∙ sym front;
      after = after ∙ ap (after_read old) (sym count);
    }
  where
    front_of : (m : ℕ) (z : List ℕ) → m ≤ 3 → x ∷ take m (c ∷ f ∷ l ∷ []) ≡ take (1 + m) (x ∷ c ∷ f ∷ l ∷ z)
    front_of zero z h = refl
    front_of (suc zero) z h = refl
    front_of (suc (suc zero)) z h = refl
    front_of (suc (suc (suc zero))) z h = refl
    front_of (suc (suc (suc (suc m)))) z h = absurd (omega arith)
