-- Decoding a field that may be absent, by a tag of its class and number.
use Rattle.std.proofs.Common.{◌≡◌, ℕ, ◌+◌, ◌<◌, ◌^◌, List, [], ◌∷◌, ◌++◌, length, take, drop, Bool, true, false, Result, Ok, Err, refl, sym, ap, ◌∙◌, subst, append_assoc, ◌==◌}
use Rattle.std.specs.Prelude.{IsOk}
use borrow.Author.Tests.{eqb-true}
use Rattle.std.proofs.lemmas.Bool.{and_parts}
use Rattle.std.proofs.lemmas.List.{take-append-drop}
use Rattle.der_tlv.specs.declared.error.ErrorKind.{ErrorKind}
use Rattle.der_tlv.specs.declared.header.Header.{Header}
use Rattle.der_tlv.specs.declared.tag.Tag.{Tag}
use Rattle.der_tlv.specs.declared.tag.mode.TagMode.{TagMode}
use Rattle.der_tlv.specs.TagParts.{IsTag, is_constructed, number_of, class_of}
use Rattle.der_tlv.specs.Identifier.{identifier, class_index}
use Rattle.der_tlv.specs.LengthOctets.{length_octets}
use Rattle.der_tlv.specs.HeaderOctets.{tlv}
use Rattle.der_tlv.specs.HeaderReading.{read_tag, read_length, read_header, header_with_tag, header_with_length}
use Rattle.der_tlv.specs.TagMatching.{has_number, match_tag, match_read}
use Rattle.der_tlv.specs.TagReadingLaws.{read_tag-identifier}
use Rattle.der_tlv.specs.declared.encoding_rules.EncodingRules.{EncodingRules}
use Rattle.der_tlv.specs.ReaderState.{ReaderState, rest, unless_failed}
use Rattle.der_elem.specs.Parsing.{Parse}
use Rattle.der_elem.specs.declared.form.Form as form
use Rattle.der_wrap.specs.TaggedValues.{parse_optional_field, parse_explicit, tag_of_mode, contents_of_mode, AcceptsExplicit}
use Rattle.der_wrap.specs.ClassTags.{class_of_bits, class_tag}
use Rattle.der_wrap.specs.TaggedValueLaws.{class_tag-number, class_tag-with}

-- a tag with a class and a number is determined by its form
pub class_tag-match_read : (bits n : ℕ) (t : Tag) → has_number (class_of_bits bits) n t ≡ true → t ≡ class_tag bits (is_constructed t) n
class_tag-match_read bits n t h =
    let parts = and_parts (class_index (class_of t) == class_index (class_of_bits bits)) (number_of t == n) h in
    class_tag-with bits t (is_constructed t) n refl parts.0 (sym (eqb-true (number_of t) n parts.1))

tag_of_header : (count : ℕ) (t : Tag) (r : Result (ℕ × ℕ) ErrorKind) (all : ℕ) (h : Header) → header_with_length count t r ≡ Ok (all, h) → h.tag ≡ t
tag_of_header count t (Err k) all h e = absurd (cc)
tag_of_header count t (Ok (more, n)) all h e = ap tag_in (sym e)
  where
    tag_in : Result (ℕ × Header) ErrorKind → Tag
    tag_in (Ok (m, g)) = g.tag
    tag_in (Err k) = t

module _ (bits n p : ℕ) where
  matched_header : (octets : List ℕ) (all : ℕ) (h : Header) (r : Result (ℕ × Tag) ErrorKind) → match_read (class_of_bits bits) n r ≡ Ok true → header_with_tag p octets r ≡ Ok (all, h) → has_number (class_of_bits bits) n h.tag ≡ true
  matched_header octets all h (Err k) m e = absurd (cc)
  matched_header octets all h (Ok (count, t)) m e =
      let same = tag_of_header count t (read_length (p + count) (drop count octets)) all h e in
      ap (has_number (class_of_bits bits) n) same ∙ ap answer m
    where
      answer : Result Bool ErrorKind → Bool
      answer (Ok b) = b
      answer (Err k) = false

  -- if the next tag has the class and number, so has that of the header
  pub header_matched : (octets : List ℕ) (all : ℕ) (h : Header) → match_tag (class_of_bits bits) n p octets ≡ Ok true → read_header p octets ≡ Ok (all, h) → h.tag ≡ class_tag bits (is_constructed h.tag) n
  unfolding read_header
  header_matched [] all h m e = absurd (cc)
  header_matched (x ∷ xs) all h m e = class_tag-match_read bits n h.tag (matched_header (x ∷ xs) all h (read_tag p (x ∷ xs)) m e)

  -- if a field is found, its parse is that of the field itself
  pub found_field : (parse : Parse) (rules : EncodingRules) (octets : List ℕ) → match_tag (class_of_bits bits) n p octets ≡ Ok true → parse_optional_field bits n parse rules p octets ≡ parse rules p octets
  found_field parse rules octets m = rw m refl

-- an error of a reader that found a field
pub found_fault : (bits n : ℕ) (s : ReaderState) → s.failed ≡ false → match_tag (class_of_bits bits) n s.position (rest s) ≡ Ok true → (parse : Parse) (rules : EncodingRules) {kind : ErrorKind} → unless_failed (parse rules) s ≡ Err kind → unless_failed (parse_optional_field bits n parse rules) s ≡ Err kind
found_fault bits n s ready m parse rules {kind} e =
    let there : parse rules s.position (rest s) ≡ Err kind = rw ready at e in
    rw ready (found_field bits n s.position parse rules (rest s) m ∙ there)

pub found_faultless : (bits n : ℕ) (s : ReaderState) → s.failed ≡ false → match_tag (class_of_bits bits) n s.position (rest s) ≡ Ok true → (parse : Parse) (rules : EncodingRules) → IsOk (unless_failed (parse rules) s) → IsOk (unless_failed (parse_optional_field bits n parse rules) s)
found_faultless bits n s ready m parse rules ok =
    let there : IsOk (parse rules s.position (rest s)) = rw ready at ok in
    rw (ready, found_field bits n s.position parse rules (rest s) m) there

-- the number of an encoding at the front of octets, if it matches
pub number_matched : (bits n m p : ℕ) (constructed : Bool) (octets inner : List ℕ) (taken : ℕ) → m < 2 ^ 32 → take taken octets ≡ tlv (class_tag bits constructed m) inner → match_tag (class_of_bits bits) n p octets ≡ Ok true → m ≡ n
number_matched bits n m p constructed octets inner taken small e found =
    let t = class_tag bits constructed m in
    let is_tag : IsTag t = subst (λ k. k < 2 ^ 32) (sym (class_tag-number constructed m bits)) small in
    let begins : octets ≡ identifier t ++ ((length_octets (length inner) ++ inner) ++ drop taken octets) = sym (take-append-drop taken octets) ∙ ap (λ o. o ++ drop taken octets) e ∙ ap (λ o. o ++ drop taken octets) (append_assoc (identifier t) (length_octets (length inner)) inner) ∙ append_assoc (identifier t) (length_octets (length inner) ++ inner) (drop taken octets) in
    let tag : read_tag p octets ≡ Ok (length (identifier t), t) = ap (read_tag p) begins ∙ read_tag-identifier t p ((length_octets (length inner) ++ inner) ++ drop taken octets) is_tag in
    sym (class_tag-number constructed m bits) ∙ at octets tag found
  where
    answer : Result Bool ErrorKind → Bool
    answer (Ok b) = b
    answer (Err k) = false

    at : (octets : List ℕ) → read_tag p octets ≡ Ok (length (identifier (class_tag bits constructed m)), class_tag bits constructed m) → match_tag (class_of_bits bits) n p octets ≡ Ok true → number_of (class_tag bits constructed m) ≡ n
    at [] tag found = absurd (cc)
    at (x ∷ xs) tag found =
        let t = class_tag bits constructed m in
        let h : has_number (class_of_bits bits) n t ≡ true = sym (ap answer (ap (match_read (class_of_bits bits) n) tag)) ∙ ap answer found in
        eqb-true (number_of t) n (and_parts (class_index (class_of t) == class_index (class_of_bits bits)) (number_of t == n) h).1

module _ {T : Type 0} (F : form.Ghosts T) (bits n m p : ℕ) (mode : TagMode) (v : T) (own : Tag) (contents : List ℕ) (rules : EncodingRules) (octets : List ℕ) (taken : ℕ) (found : match_tag (class_of_bits bits) n p octets ≡ Ok true) (a : AcceptsExplicit F.accepts bits m mode v rules (take taken octets)) where
  -- the decoded value has the number that was looked for
  pub explicit_number : m ≡ n
  explicit_number = number_matched bits n m p true octets a.inner taken a.numbered a.octets_are found

  pub accepted_field : AcceptsExplicit F.accepts bits n mode v rules (take taken octets)
  accepted_field = subst (λ k. AcceptsExplicit F.accepts bits k mode v rules (take taken octets)) explicit_number a

  pub parsed_field : parse_explicit bits F.parse rules p octets ≡ Ok (taken, tlv (tag_of_mode bits mode m own) (contents_of_mode mode (F.encoding v) contents)) → parse_optional_field bits n (parse_explicit bits F.parse) rules p octets ≡ Ok (taken, tlv (class_tag bits true n) (F.encoding v))
  parsed_field parsed =
      let e = a.mode_is in
      let encoded : tlv (tag_of_mode bits mode m own) (contents_of_mode mode (F.encoding v) contents) ≡ tlv (class_tag bits true m) (F.encoding v) = rw e refl in
      found_field bits n p (parse_explicit bits F.parse) rules octets found ∙ parsed ∙ ap (λ o. Ok (taken, o)) encoded ∙ ap (λ k. Ok (taken, tlv (class_tag bits true k) (F.encoding v))) explicit_number
