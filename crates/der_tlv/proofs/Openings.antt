-- A header of two octets, with the octets after it.
use Rattle.std.proofs.Common.{◌≡◌, ℕ, ◌+◌, ◌<◌, ◌≤◌, false, true, [], ◌∷◌, ◌++◌, length, take, get_or, subst, List, Some, drop, refl, sym, ap, ◌∙◌, arith}
use Rattle.std.proofs.lemmas.Bool.Decides.{nat_tests}
use Rattle.std.proofs.Math.Seq.{take-append_seam}
use Rattle.std.proofs.lemmas.List.{drop-take, length-take, length-drop}
use Rattle.der_tlv.specs.declared.tag.Tag.{Tag}
use Rattle.der_tlv.specs.TagParts.{class_of, is_constructed, number_of}
use Rattle.der_tlv.specs.Identifier.{first_octet}
use Rattle.der_tlv.specs.IdentifierLaws.{low_bits}
use Rattle.der_tlv.specs.HeaderOctets.{header_octets}
use Rattle.der_tlv.specs.HeaderReading.{read_header, header}
use Rattle.der_tlv.specs.HeaderLaws.{read_header-octets}
use Rattle.der_tlv.specs.ReaderState.{ReaderState, IsReaderState, rest, can_read, after_read, after_nest}
use Rattle.der_tlv.specs.Reading.{Nested, OctetsRead}
use Rattle.der_tlv.specs.Opening.{Opened, ContentsRead}
use Rattle.der_tlv.proofs.ReaderStates.{rest_first, rest-after_nest}
use Rattle.der_tlv.proofs.Lengths.{after_more}
use Rattle.der_tlv.specs.ShortTags.{short_tag}
use Rattle.der_tlv.proofs.ShortHeaders.{short_header}
use Rattle.der_tlv.proofs.ShortReads.{short_header_read}

-- two octets that are a header with this tag, and n octets after them
pub short_opened : {old new : ReaderState} {t : Tag} {x n end : ℕ} → IsReaderState old → old.failed ≡ false → old.position + 2 + n ≤ old.end → get_or old.input old.position 0 ≡ x → get_or old.input (old.position + 1) 0 ≡ n → x ≡ first_octet (class_of t) (is_constructed t) (low_bits (number_of t)) → number_of t < 31 → n < 128 → new ≡ after_nest (after_read old 2) n → end ≡ old.end → Opened t old new (header t n) end
short_opened {old = old} {new = new} {t = t} {x = x} {n = n} {end = end} sound ready room tag_octet length_octet is_first small short after end_is =
    let mid : ReaderState = after_read old 1 in
    let still : IsReaderState mid = record { ordered = omega arith; inside = sound.inside; short = sound.short } in
    let octets : x ∷ n ∷ [] ≡ header_octets t n = short_header t n x small short is_first in
    let two : 2 ≡ length (header_octets t n) = ap length octets in
    let behind = rest (after_read old 2) in
    let second : rest mid ≡ n ∷ behind = rest_first mid still (omega arith) ∙ ap (λ z. z ∷ rest (after_read mid 1)) length_octet ∙ ap (λ s. n ∷ rest s) (after_more old 1 1) in
    let left : rest old ≡ header_octets t n ++ behind = rest_first old sound (omega arith) ∙ ap (λ z. z ∷ rest mid) tag_octet ∙ ap (λ z. x ∷ z) second ∙ ap (λ o. o ++ behind) octets in
    let nested : Nested (after_read old 2) new n end = record { readable = can_read_there ready; end_is = end_is; after = after } in
    record {
      head = record {
        ready = ready;
        parsed = ap (read_header old.position) left ∙ read_header-octets t n old.position behind (omega arith) (omega arith);
        taken = ap (take (length (header_octets t n))) left ∙ take-append_seam (header_octets t n) behind;
        after = refl;
      };
      tag_is = refl;
      nested = subst (λ k. Nested (after_read old k) new n end) two nested;
    }
  where
    can_read_there : old.failed ≡ false → can_read (after_read old 2) n ≡ true
    can_read_there e = rw e (grind (arith, nat_tests))

-- two octets that are a header, and n octets after them
pub short_contents : {old new : ReaderState} {t : Tag} {x n : ℕ} {contents : List ℕ} → IsReaderState old → old.failed ≡ false → old.position + 2 + n ≤ old.end → get_or old.input old.position 0 ≡ x → get_or old.input (old.position + 1) 0 ≡ n → x < 256 → short_tag x ≡ Some t → n < 128 → new ≡ after_read (after_read old 2) n → contents ≡ take n (drop (old.position + 2) old.input) → ContentsRead old new (header t n) contents
short_contents {old = old} {new = new} {t = t} {n = n} {contents = contents} sound ready room tag_octet length_octet small tag short after contents_are =
    let behind : ReaderState = after_read old 2 in
    let inside = sound.inside in
    let head = short_header_read sound ready (omega arith) tag_octet length_octet small tag short refl in
    let value : contents ≡ take n (rest behind) = contents_are ∙ sym (drop-take behind.position n behind.input) ∙ rest-after_nest behind n room in
    let count : length contents ≡ n = ap length contents_are ∙ omega (arith, length-take n (drop (old.position + 2) old.input), length-drop (old.position + 2) old.input) in
    let read : OctetsRead behind new n contents = record { readable = can_read_there ready; value = value; count = count; after = after } in
    record {
      head = record { ready = head.ready; parsed = head.parsed; taken = head.taken; after = refl };
      contents_are = subst (λ s. OctetsRead s new n contents) head.after read;
    }
  where
    can_read_there : old.failed ≡ false → can_read (after_read old 2) n ≡ true
    can_read_there e = rw e (grind (arith, nat_tests))
