-- Decoding explicit tagging: its errors, and its value.
use Rattle.std.proofs.Common.{◌≡◌, ℕ, ◌+◌, ◌-◌, ◌<◌, ◌^◌, List, length, take, Bool, true, false, Result, Ok, Err, refl, sym, ap, ◌∙◌, subst, arith, inl, inr, nat_le, ◌==◌, ◌&&◌, not, eq-eqb}
use borrow.Author.Tests.{eqb-true}
use Rattle.std.proofs.lemmas.List.{length-drop}
use Rattle.std.proofs.lemmas.Bool.Decides.{nat_tests}
use Rattle.std.proofs.Math.Seq.{take-length}
use Rattle.der_tlv.specs.declared.error.ErrorKind.{ErrorKind}
use Rattle.der_tlv.specs.declared.error.ErrorKind.TheVariants.{Failed, TrailingData}
use Rattle.der_tlv.specs.declared.encoding_rules.EncodingRules.{EncodingRules}
use Rattle.der_tlv.specs.declared.header.Header.{Header}
use Rattle.der_tlv.specs.declared.tag.mode.TagMode.TheVariants.{Explicit}
use Rattle.der_tlv.specs.HeaderOctets.{tlv}
use Rattle.der_tlv.specs.HeaderReading.{read_header, octets_of}
use Rattle.der_tlv.specs.Reading.{HeadFault, OctetsRefused, Unnested, UnnestRefused}
use Rattle.der_tlv.specs.ReaderState.{ReaderState, IsReaderState, rest, unless_failed, after_read, can_unnest, unnest_fault}
use Rattle.der_tlv.proofs.ReaderStates.{rest-after_read, length-rest}
use Rattle.der_elem.specs.declared.form.Form as form
use Rattle.der_elem.specs.Parsing.{Parse, tagged_contents}
use Rattle.der_elem.specs.Decoding.{Faults, OtherHeader, Decoded, NotDecoded}
use Rattle.der_elem.proofs.OtherTags.{next_is_other}
use Rattle.der_elem.proofs.AtContents.{AtHeader, AtContents, parse_after, parse_too_long, shown_ready, shown_rules, parse_shown, taken, after_contents, unnest_possible}
use Rattle.der_wrap.specs.ClassTags.{class_tag, in_class}
use Rattle.der_wrap.specs.TaggedValues.{all_of, one_encoding, in_explicit, explicit_with_header, parse_explicit, AcceptsExplicit}
use Rattle.der_wrap.specs.TaggedValueLaws.{class_tag-constructed, class_tag-class}

-- an error of the header is the error of the whole encoding
pub header_fault_explicit : {old new : ReaderState} {kind : ErrorKind} → HeadFault read_header old new kind → (bits : ℕ) (parse : Parse) (rules : EncodingRules) → unless_failed (parse_explicit bits parse rules) old ≡ Err kind
unfolding parse_explicit
header_fault_explicit {old} {new} {kind} fault bits parse rules = at old.failed refl
  where
    at : (b : Bool) → old.failed ≡ b → unless_failed (parse_explicit bits parse rules) old ≡ Err kind
    at true e = let there = rw e at fault.fault_is in let k : Failed ≡ kind = cc in rw e (ap Err k)
    at false e =
        let there : read_header old.position (rest old) ≡ Err kind = rw e at fault.fault_is in
        rw e (ap (explicit_with_header bits parse rules old.position (rest old)) there)

module _ {header : Header} {old mid : ReaderState} (at : AtHeader header old mid) (bits : ℕ) (parse : Parse) (rules : EncodingRules) where
  parse_is : parse_explicit bits parse rules old.position (rest old) ≡ in_explicit bits header.tag (parse_after (one_encoding parse) rules old header)
  unfolding parse_explicit
  parse_is = ap (explicit_with_header bits parse rules old.position (rest old)) at.head.parsed

  -- a tag that is refused
  pub tag_fault_explicit : (kind : ErrorKind) → ((parsed : Result (ℕ × List ℕ) ErrorKind) → in_explicit bits header.tag parsed ≡ Err kind) → unless_failed (parse_explicit bits parse rules) old ≡ Err kind
  tag_fault_explicit kind refused = rw at.head.ready (parse_is ∙ refused _)

  -- a tag that is accepted
  module _ (n : ℕ) (tag_is : header.tag ≡ class_tag bits true n) where
    behind : parse_explicit bits parse rules old.position (rest old) ≡ parse_after (one_encoding parse) rules old header
    behind =
        parse_is ∙ ap (λ t. in_explicit bits t (parse_after (one_encoding parse) rules old header)) tag_is ∙ rw (class_tag-constructed true n bits, class_tag-class true n bits) refl

    -- contents octets longer than the octets left
    pub too_long_explicit : {new : ReaderState} {kind : ErrorKind} → OctetsRefused mid new header.length kind → unless_failed (parse_explicit bits parse rules) old ≡ Err kind
    too_long_explicit refused = rw at.head.ready (behind ∙ parse_too_long at refused (one_encoding parse) rules)

-- a header with an accepted tag has no tag of another class
pub no_other_class : {header : Header} {old mid : ReaderState} {A : Type 0} → AtHeader header old mid → (bits n : ℕ) → header.tag ≡ class_tag bits true n → OtherHeader (in_class bits) old → A
no_other_class at bits n tag_is other =
    let e = sym (ap (in_class bits) tag_is ∙ class_tag-class true n bits) ∙ next_is_other at other in absurd (cc)

module _ {T : Type 0} (F : form.Ghosts T) {header : Header} {old mid shown : ReaderState} {end : ℕ} (c : AtContents header old mid shown end) (bits n : ℕ) (tag_is : header.tag ≡ class_tag bits true n) where
  parse_inner : parse_explicit bits F.parse old.rules old.position (rest old) ≡ tagged_contents header.tag (length (octets_of header) + header.length) (all_of shown.position (length (rest shown)) (F.parse shown.rules shown.position (rest shown)))
  parse_inner =
      behind c.at bits F.parse old.rules n tag_is ∙ parse_shown c (one_encoding F.parse) old.rules ∙ ap (λ rules. tagged_contents header.tag (length (octets_of header) + header.length) (all_of shown.position (length (rest shown)) (F.parse rules shown.position (rest shown)))) (sym (shown_rules c))

  as_fault : {kind : ErrorKind} → all_of shown.position (length (rest shown)) (F.parse shown.rules shown.position (rest shown)) ≡ Err kind → unless_failed (parse_explicit bits F.parse old.rules) old ≡ Err kind
  as_fault e =
      rw c.at.head.ready (parse_inner ∙ ap (tagged_contents header.tag (length (octets_of header) + header.length)) e)

  -- an error of the value
  pub value_fault_explicit : {new : ReaderState} {kind : ErrorKind} → NotDecoded F shown new kind → Faults F.TAKES_MEMORY false (unless_failed (parse_explicit bits F.parse old.rules) old) kind
  value_fault_explicit {new} {kind} told =
      elim told.reason [
        | inl m ↦ inl (record { kind_is = m.kind_is; takes = m.takes; faultless = λ h. absurd (cc) })
        | inr e ↦
            let there : F.parse shown.rules shown.position (rest shown) ≡ Err kind = rw (shown_ready c) at e in
            inr (as_fault (ap (all_of shown.position (length (rest shown))) there))
      ]

  module _ {after : ReaderState} {v : T} (told : Decoded F shown after v) (sound : IsReaderState shown) (sound_after : IsReaderState after) where
    left : length (rest after) ≡ length (rest shown) - told.taken
    left =
        ap (λ s. length (rest s)) told.after ∙ ap length (rest-after_read shown told.taken) ∙ length-drop told.taken (rest shown)

    end_after : after.end ≡ shown.end
    end_after = ap (λ s. s.end) told.after

    position_after : after.position ≡ shown.position + told.taken
    position_after = ap (λ s. s.position) told.after

    ready_after : after.failed ≡ false
    ready_after = ap (λ s. s.failed) told.after ∙ told.ready

    parsed_taken : all_of shown.position (length (rest shown)) (F.parse shown.rules shown.position (rest shown)) ≡ all_of shown.position (length (rest shown)) (Ok (told.taken, F.encoding v))
    parsed_taken = ap (all_of shown.position (length (rest shown))) told.parsed

    all_taken : told.taken ≡ length (rest shown) → after ≡ after_read shown (length (rest shown))
    all_taken e = told.after ∙ ap (after_read shown) e

    fault_after : {kind : ErrorKind} → (told.taken == length (rest shown)) ≡ false → kind ≡ unnest_fault after → unless_failed (parse_explicit bits F.parse old.rules) old ≡ Err kind
    fault_after {kind} other fault =
        let l = length-rest shown sound in
        let p = position_after in
        let e = end_after in
        let not_end : (after.position == after.end) ≡ false = grind (arith, nat_tests) in
        let k : kind ≡ TrailingData after.position (length (rest after)) = fault ∙ rw (ready_after, not_end) refl in
        let there : TrailingData (shown.position + told.taken) (length (rest shown) - told.taken) ≡ kind = ap (λ p. TrailingData p (length (rest shown) - told.taken)) (sym position_after) ∙ ap (TrailingData after.position) (sym left) ∙ sym k in
        as_fault (parsed_taken ∙ rw other (ap Err there))

    -- octets are left over after the value
    pub left_over_explicit : {new : ReaderState} {kind : ErrorKind} → UnnestRefused after new end kind → unless_failed (parse_explicit bits F.parse old.rules) old ≡ Err kind
    left_over_explicit {new} {kind} refused = by_count (told.taken == length (rest shown)) refl
      where
        by_count : (b : Bool) → (told.taken == length (rest shown)) ≡ b → unless_failed (parse_explicit bits F.parse old.rules) old ≡ Err kind
        by_count true e =
            let all = all_taken (eqb-true told.taken (length (rest shown)) e) in
            let possible = unnest_possible c all in
            let impossible = refused.impossible in
            absurd (cc)
        by_count false e = fault_after e refused.fault_is

    both : (a b d e : Bool) → (a && b && d && e) ≡ true → b ≡ true
    both true true d e h = refl
    both true false d e h = absurd (cc)
    both false b d e h = absurd (cc)

    -- if the end can be restored, the value takes all of the octets
    pub taken_all : can_unnest after end ≡ true → told.taken ≡ length (rest shown)
    taken_all possible =
        let here : (after.position == after.end) ≡ true = both (not after.failed) (after.position == after.end) (nat_le after.end end) (nat_le end (length after.input)) possible in
        let at_end = eqb-true after.position after.end here in
        omega (arith, length-rest shown sound, position_after, end_after, at_end)

    module _ (all : told.taken ≡ length (rest shown)) where
      pub parsed_explicit : parse_explicit bits F.parse old.rules old.position (rest old) ≡ Ok (length (octets_of header) + header.length, tlv (class_tag bits true n) (F.encoding v))
      parsed_explicit =
          let same : (told.taken == length (rest shown)) ≡ true = eq-eqb told.taken (length (rest shown)) all in
          let there : all_of shown.position (length (rest shown)) (F.parse shown.rules shown.position (rest shown)) ≡ Ok (F.encoding v) = parsed_taken ∙ rw same refl in
          parse_inner ∙ ap (tagged_contents header.tag (length (octets_of header) + header.length)) there ∙ ap (λ t. Ok (length (octets_of header) + header.length, tlv t (F.encoding v))) tag_is

      pub accepted_explicit : n < 2 ^ 32 → AcceptsExplicit F.accepts bits n Explicit v old.rules (take (length (octets_of header) + header.length) (rest old))
      accepted_explicit numbered =
          record {
            mode_is = refl;
            numbered = numbered;
            inner = rest shown;
            octets_are = taken c ∙ ap (λ t. tlv t (rest shown)) tag_is;
            accepted = subst (λ rules. F.accepts rules v (rest shown)) (shown_rules c) (subst (F.accepts shown.rules v) (ap (λ n. take n (rest shown)) all ∙ take-length (rest shown)) told.accepted);
          }

      pub after_explicit : {new : ReaderState} → Unnested after new end → new ≡ after_read old (length (octets_of header) + header.length)
      after_explicit after_unnest = after_contents c (all_taken all) after_unnest.after
