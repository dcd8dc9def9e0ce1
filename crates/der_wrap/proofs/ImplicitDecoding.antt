-- Decoding implicit tagging: its errors, and its value.
use Rattle.std.proofs.Common.{◌≡◌, ℕ, ◌+◌, List, length, take, Bool, true, false, Result, Ok, Err, refl, sym, ap, ◌∙◌, subst, inl, inr}
use Rattle.std.specs.Prelude.{IsOk}
use Rattle.der_tlv.specs.declared.error.ErrorKind.{ErrorKind}
use Rattle.der_tlv.specs.declared.error.ErrorKind.TheVariants.{Failed}
use Rattle.der_tlv.specs.declared.encoding_rules.EncodingRules.{EncodingRules}
use Rattle.der_tlv.specs.declared.header.Header.{Header}
use Rattle.der_tlv.specs.declared.tag.Tag.{Tag}
use Rattle.der_tlv.specs.TagParts.{is_constructed}
use Rattle.der_tlv.specs.HeaderOctets.{tlv}
use Rattle.der_tlv.specs.HeaderReading.{read_header, octets_of}
use Rattle.der_tlv.specs.Reading.{HeadFault, OctetsRefused}
use Rattle.der_tlv.specs.ReaderState.{ReaderState, rest, unless_failed}
use Rattle.der_elem.specs.ContentsFormat.{ContentsFormat}
use Rattle.der_elem.specs.Parsing.{ContentsParse, tagged_contents}
use Rattle.der_elem.specs.Decoding.{Faults, ValueDecoded, ValueNotDecoded}
use Rattle.der_elem.proofs.AtContents.{AtHeader, AtContents, parse_after_as, parse_too_long_as, shown_ready, shown_rules, parse_shown_as, taken}
use Rattle.der_wrap.specs.ClassTags.{class_tag}
use Rattle.der_wrap.specs.TaggedValues.{form_allowed, in_implicit, implicit_with_header, parse_implicit, AcceptsImplicit}

-- an error of the header is the error of the whole encoding
pub header_fault_implicit : {old new : ReaderState} {kind : ErrorKind} → HeadFault read_header old new kind → (t : Tag) (own : Bool) (parse : ContentsParse) (rules : EncodingRules) → unless_failed (parse_implicit t own parse rules) old ≡ Err kind
unfolding parse_implicit
header_fault_implicit {old} {new} {kind} fault t own parse rules = at old.failed refl
  where
    at : (b : Bool) → old.failed ≡ b → unless_failed (parse_implicit t own parse rules) old ≡ Err kind
    at true e = let there = rw e at fault.fault_is in let k : Failed ≡ kind = cc in rw e (ap Err k)
    at false e =
        let there : read_header old.position (rest old) ≡ Err kind = rw e at fault.fault_is in
        rw e (ap (implicit_with_header t own parse rules old.position (rest old)) there)

module _ {header : Header} {old mid : ReaderState} (at : AtHeader header old mid) (t : Tag) (own : Bool) (parse : ContentsParse) (rules : EncodingRules) where
  parse_is : parse_implicit t own parse rules old.position (rest old) ≡ in_implicit rules own header.tag (parse_after_as t parse rules old header)
  unfolding parse_implicit
  parse_is = ap (implicit_with_header t own parse rules old.position (rest old)) at.head.parsed

  -- a form that is refused
  pub form_fault_implicit : (kind : ErrorKind) → ((parsed : Result (ℕ × List ℕ) ErrorKind) → in_implicit rules own header.tag parsed ≡ Err kind) → unless_failed (parse_implicit t own parse rules) old ≡ Err kind
  form_fault_implicit kind refused = rw at.head.ready (parse_is ∙ refused _)

  -- a form that is accepted
  module _ (allowed : form_allowed rules (is_constructed header.tag) own ≡ true) where
    behind : parse_implicit t own parse rules old.position (rest old) ≡ parse_after_as t parse rules old header
    behind = parse_is ∙ rw allowed refl

    -- contents octets longer than the octets left
    pub too_long_implicit : {new : ReaderState} {kind : ErrorKind} → OctetsRefused mid new header.length kind → unless_failed (parse_implicit t own parse rules) old ≡ Err kind
    too_long_implicit refused = rw at.head.ready (behind ∙ parse_too_long_as at refused t parse rules)

module _ {T : Type 0} (F : ContentsFormat T) {header : Header} {old mid shown : ReaderState} {end : ℕ} (c : AtContents header old mid shown end) (t : Tag) (own : Bool) (allowed : form_allowed old.rules (is_constructed header.tag) own ≡ true) where
  parse_inner : parse_implicit t own F.parse old.rules old.position (rest old) ≡ tagged_contents t (length (octets_of header) + header.length) (F.parse shown.rules shown.position (rest shown))
  parse_inner =
      behind c.at t own F.parse old.rules allowed ∙ parse_shown_as c t F.parse old.rules ∙ ap (λ rules. tagged_contents t (length (octets_of header) + header.length) (F.parse rules shown.position (rest shown))) (sym (shown_rules c))

  -- contents octets without an error are those of an encoding without one
  faultless : IsOk (unless_failed (F.parse shown.rules) shown) → IsOk (unless_failed (parse_implicit t own F.parse old.rules) old)
  faultless ok =
      let there : IsOk (F.parse shown.rules shown.position (rest shown)) = rw (shown_ready c) at ok in
      rw (c.at.head.ready, parse_inner) (still (F.parse shown.rules shown.position (rest shown)) there)
    where
      still : (r : Result (List ℕ) ErrorKind) → IsOk r → IsOk (tagged_contents t (length (octets_of header) + header.length) r)
      still (Ok contents) h = h
      still (Err k) h = absurd (cc)

  -- an error of the contents octets
  pub contents_fault_implicit : {kind : ErrorKind} → ValueNotDecoded F shown kind → Faults F.TAKES_MEMORY F.FAULTS_FIRST (unless_failed (parse_implicit t own F.parse old.rules) old) kind
  contents_fault_implicit {kind} told =
      elim told.reason [
        | inl m ↦ inl (record { kind_is = m.kind_is; takes = m.takes; faultless = λ first. faultless (m.faultless first) })
        | inr e ↦
            let there : F.parse shown.rules shown.position (rest shown) ≡ Err kind = rw (shown_ready c) at e in
            inr (rw c.at.head.ready (parse_inner ∙ ap (tagged_contents t (length (octets_of header) + header.length)) there))
      ]

  module _ {after : ReaderState} {v : T} (told : ValueDecoded F header shown after v) where
    -- the value
    pub parsed_implicit : parse_implicit t own F.parse old.rules old.position (rest old) ≡ Ok (length (octets_of header) + header.length, tlv t (F.contents v))
    parsed_implicit = parse_inner ∙ ap (tagged_contents t (length (octets_of header) + header.length)) told.parsed

    pub accepted_implicit : (bits n : ℕ) → header.tag ≡ class_tag bits (is_constructed header.tag) n → AcceptsImplicit F.accepts bits n own v old.rules (take (length (octets_of header) + header.length) (rest old))
    accepted_implicit bits n tag_is =
        record {
          constructed = is_constructed header.tag;
          allowed = allowed;
          inner = rest shown;
          octets_are = taken c ∙ ap (λ t. tlv t (rest shown)) tag_is;
          accepted = subst (λ rules. F.accepts rules v (rest shown)) (shown_rules c) told.accepted;
        }
