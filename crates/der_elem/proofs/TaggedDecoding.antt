-- Decoding an encoding with one tag: its errors, and its value.
use Rattle.std.proofs.Common.{◌≡◌, ℕ, ◌+◌, List, length, take, Bool, true, false, Result, Ok, Err, Some, refl, sym, ap, ◌∙◌, subst, ◌⊎◌, inl, inr}
use Rattle.std.specs.Prelude.{IsOk}
use Rattle.der_tlv.specs.declared.error.ErrorKind.{ErrorKind}
use Rattle.der_tlv.specs.declared.error.ErrorKind.TheVariants.{Failed, TagUnexpected}
use Rattle.der_tlv.specs.declared.encoding_rules.EncodingRules.{EncodingRules}
use Rattle.der_tlv.specs.declared.header.Header.{Header}
use Rattle.der_tlv.specs.declared.tag.Tag.{Tag}
use Rattle.der_tlv.specs.Identifier.{same_identifier}
use Rattle.der_tlv.specs.HeaderOctets.{tlv}
use Rattle.der_tlv.specs.HeaderReading.{read_header, octets_of}
use Rattle.der_tlv.specs.Reading.{HeadFault, OctetsRefused, Refused}
use Rattle.der_tlv.specs.Opening.{OtherTag, TooLong}
use Rattle.der_tlv.specs.ReaderState.{ReaderState, IsReaderState, rest, unless_failed}
use Rattle.der_tlv.proofs.Refusals.{refused_octets}
use Rattle.der_elem.specs.ContentsFormat.{ContentsFormat}
use Rattle.der_elem.specs.Parsing.{ContentsParse, parse_tagged, parse_with_tag, tagged_contents}
use Rattle.der_elem.specs.Accepting.{accepts_tagged}
use Rattle.der_elem.specs.Decoding.{Faults, OtherHeader, ValueDecoded, ValueNotDecoded}
use Rattle.der_elem.proofs.OtherTags.{end_without_header, end_at_header, no_other_tag}
use Rattle.der_elem.proofs.AtContents.{AtHeader, AtContents, at_header, refused_at_header, refused_after_header, parse_own_tag, parse_other_tag, parse_too_long, shown_ready, shown_rules, parse_shown, taken}

-- the header's error is that of the whole encoding
pub header_fault : {old new : ReaderState} {kind : ErrorKind} → HeadFault read_header old new kind → (t : Tag) (parse : ContentsParse) (rules : EncodingRules) → unless_failed (parse_tagged t parse rules) old ≡ Err kind
unfolding parse_tagged
header_fault {old} {new} {kind} fault t parse rules = at old.failed refl
  where
    at : (b : Bool) → old.failed ≡ b → unless_failed (parse_tagged t parse rules) old ≡ Err kind
    at true e = let there = rw e at fault.fault_is in let k : Failed ≡ kind = cc in rw e (ap Err k)
    at false e =
        let there : read_header old.position (rest old) ≡ Err kind = rw e at fault.fault_is in
        rw e (ap (parse_with_tag t parse rules old.position (rest old)) there)

pub other_tag_fault : {header : Header} {old mid : ReaderState} → AtHeader header old mid → (t : Tag) → same_identifier header.tag t ≡ false → (parse : ContentsParse) (rules : EncodingRules) → unless_failed (parse_tagged t parse rules) old ≡ Err (TagUnexpected (Some t) header.tag)
other_tag_fault at t e parse rules = rw at.head.ready (parse_other_tag at t e parse rules)

pub too_long_fault : {header : Header} {old mid new : ReaderState} {kind : ErrorKind} → AtHeader header old mid → OctetsRefused mid new header.length kind → (t : Tag) → header.tag ≡ t → (parse : ContentsParse) (rules : EncodingRules) → unless_failed (parse_tagged t parse rules) old ≡ Err kind
too_long_fault at refused t e parse rules = rw at.head.ready (parse_own_tag at t e parse rules ∙ parse_too_long at refused parse rules)

-- a refusal to read the header of an encoding with this tag is the error of the encoding; another tag leaves the end unchanged
pub record NotOpened (t : Tag) (parse : ContentsParse) (old new : ReaderState) (kind : ErrorKind) : Type 0 where
  pub fault : unless_failed (parse_tagged t parse old.rules) old ≡ Err kind
  pub reader : Refused old new kind
  pub other_tag : OtherHeader (λ u. same_identifier u t) old → new.end ≡ old.end

pub not_opened : {old new : ReaderState} {kind : ErrorKind} (t : Tag) (parse : ContentsParse) → IsReaderState old → HeadFault read_header old new kind ⊎ (OtherTag t old new kind ⊎ TooLong t old new kind) → NotOpened t parse old new kind
not_opened {old} {new} {kind} t parse sound (inl fault) = record { fault = header_fault fault t parse old.rules; reader = fault.reader; other_tag = λ o. end_without_header fault o }
not_opened {old} {new} {kind} t parse sound (inr (inl tag)) =
    let at = at_header sound tag.head in
    record { fault = other_tag_fault at t tag.other parse old.rules ∙ ap Err (sym tag.kind_is); reader = refused_at_header at tag.after; other_tag = λ o. end_at_header at tag.after }
not_opened {old} {new} {kind} t parse sound (inr (inr long)) =
    let at = at_header sound long.head in
    record { fault = too_long_fault at long.refused t long.tag_is parse old.rules; reader = refused_after_header at (refused_octets long.refused); other_tag = λ o. no_other_tag at t long.tag_is o }

module _ {T : Type 0} (F : ContentsFormat T) (t : Tag) {header : Header} {old mid shown : ReaderState} {end : ℕ} (c : AtContents header old mid shown end) (same : header.tag ≡ t) where
  parse_all : parse_tagged t F.parse old.rules old.position (rest old) ≡ tagged_contents header.tag (length (octets_of header) + header.length) (F.parse old.rules shown.position (rest shown))
  parse_all = parse_own_tag c.at t same F.parse old.rules ∙ parse_shown c F.parse old.rules

  seen : F.parse shown.rules shown.position (rest shown) ≡ F.parse old.rules shown.position (rest shown)
  seen = ap (λ rules. F.parse rules shown.position (rest shown)) (shown_rules c)

  -- contents octets without an error are those of an encoding without an error
  faultless : IsOk (unless_failed (F.parse shown.rules) shown) → IsOk (unless_failed (parse_tagged t F.parse old.rules) old)
  faultless ok =
      let there : IsOk (F.parse old.rules shown.position (rest shown)) = subst IsOk seen (let s = rw (shown_ready c) at ok in s) in
      rw (c.at.head.ready, parse_all) (still (F.parse old.rules shown.position (rest shown)) there)
    where
      still : (r : Result (List ℕ) ErrorKind) → IsOk r → IsOk (tagged_contents header.tag (length (octets_of header) + header.length) r)
      still (Ok contents) h = h
      still (Err k) h = absurd (cc)

  -- the error of the contents octets
  pub contents_fault : {kind : ErrorKind} → ValueNotDecoded F shown kind → Faults F.TAKES_MEMORY F.FAULTS_FIRST (unless_failed (parse_tagged t F.parse old.rules) old) kind
  contents_fault {kind} told =
      elim told.reason [
        | inl m ↦ inl (record { kind_is = m.kind_is; takes = m.takes; faultless = λ first. faultless (m.faultless first) })
        | inr e ↦
            let there : F.parse old.rules shown.position (rest shown) ≡ Err kind = ap (λ rules. F.parse rules shown.position (rest shown)) (sym (shown_rules c)) ∙ (let s = rw (shown_ready c) at e in s) in
            inr (rw c.at.head.ready (parse_all ∙ ap (tagged_contents header.tag (length (octets_of header) + header.length)) there))
      ]

  -- the value
  pub parsed_value : {after : ReaderState} {v : T} → ValueDecoded F header shown after v → parse_tagged t F.parse old.rules old.position (rest old) ≡ Ok (length (octets_of header) + header.length, tlv t (F.contents v))
  parsed_value {after} {v} told =
      let there : F.parse old.rules shown.position (rest shown) ≡ Ok (F.contents v) = ap (λ rules. F.parse rules shown.position (rest shown)) (sym (shown_rules c)) ∙ told.parsed in
      parse_all ∙ ap (tagged_contents header.tag (length (octets_of header) + header.length)) there ∙ ap (λ t. Ok (length (octets_of header) + header.length, tlv t (F.contents v))) same

  pub accepted_value : {after : ReaderState} {v : T} → ValueDecoded F header shown after v → accepts_tagged t F.accepts old.rules v (take (length (octets_of header) + header.length) (rest old))
  accepted_value {after} {v} told =
      (rest shown, taken c ∙ ap (λ t. tlv t (rest shown)) same, subst (λ rules. F.accepts rules v (rest shown)) (shown_rules c) told.accepted)
