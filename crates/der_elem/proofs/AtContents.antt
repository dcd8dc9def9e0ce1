-- A reader that has read a header, and shows only the contents octets.
use Rattle.std.proofs.Common.{◌≡◌, ℕ, ◌+◌, ◌≤◌, ◌^◌, List, ◌++◌, length, take, drop, true, false, Result, Err, refl, sym, ap, ◌∙◌, arith, nat_lt, nat_le, ◌==◌, Some, if◌then◌else◌}
use Rattle.std.proofs.lemmas.List.{length-take}
use Rattle.std.proofs.Math.Seq.{take-add}
use Rattle.std.proofs.lemmas.Bool.Decides.{nat_tests}
use Rattle.der_tlv.specs.declared.error.ErrorKind.{ErrorKind}
use Rattle.der_tlv.specs.declared.error.ErrorKind.TheVariants.{TagUnexpected, Incomplete, Overflow}
use Rattle.der_tlv.specs.declared.encoding_rules.EncodingRules.{EncodingRules}
use Rattle.der_tlv.specs.declared.header.Header.{Header}
use Rattle.der_tlv.specs.declared.tag.Tag.{Tag}
use Rattle.der_tlv.specs.Identifier.{same_identifier}
use Rattle.der_tlv.specs.HeaderOctets.{header_octets, tlv}
use Rattle.der_tlv.specs.HeaderReading.{read_header, octets_of}
use Rattle.der_tlv.specs.HeaderLaws.{same_identifier-same}
use Rattle.der_tlv.specs.Opening.{HeaderStands, Opened, after_header}
use Rattle.der_tlv.specs.Reading.{HeadRead, Nested, OctetsRefused, Refused}
use Rattle.der_tlv.specs.ReaderState.{ReaderState, IsReaderState, rest, after_read, after_fault, after_unnest, read_fault, read_fault_at, can_unnest}
use Rattle.der_tlv.proofs.ReaderStates.{rest-after_read, length-rest, rest-after_nest, room_from_can_read}
use Rattle.der_tlv.proofs.Refusals.{went_on, went_inside, refused_at, refused_since}
use Rattle.der_elem.specs.Parsing.{ContentsParse, parse_tagged, parse_with_tag, parse_contents, tagged_contents}

-- the error of reading n octets at p, for a reader with this end
fault_before : ℕ → ℕ → ℕ → ErrorKind
fault_before p n end = if nat_lt (p + n) (2 ^ 32) then Incomplete (p + n) end else Overflow

fault_of_ready : (s : ReaderState) (n : ℕ) → s.failed ≡ false → read_fault s n ≡ fault_before s.position n s.end
unfolding fault_before
fault_of_ready s n ready = rw ready refl

fault_of_left : (p n left : ℕ) → fault_before p n (p + left) ≡ read_fault_at p n left
unfolding fault_before
fault_of_left p n left = refl

not_short : (m n : ℕ) → n ≤ m → nat_lt m n ≡ false
not_short m n h = grind (arith, nat_tests)

-- the header has been read, by a sound reader
pub record AtHeader (header : Header) (old mid : ReaderState) : Type 0 where
  pub head : HeadRead read_header (octets_of header) old mid header
  pub sound : IsReaderState mid

-- a reader that is sound before a header is sound after it
pub at_header : {header : Header} {old : ReaderState} → IsReaderState old → HeaderStands old header → AtHeader header old (after_header old header)
at_header {header} {old} sound head =
    let all : length (take (length (octets_of header)) (rest old)) ≡ length (octets_of header) = ap length head.taken in
    let l = length-rest old sound in
    record { head = head; sound = record { ordered = omega (arith, length-take (length (octets_of header)) (rest old)); inside = sound.inside; short = sound.short } }

-- the result of parsing after the header, for an encoding that is written with this tag
abbrev pub parse_after_as : Tag → ContentsParse → EncodingRules → ReaderState → Header → Result (ℕ × List ℕ) ErrorKind
parse_after_as t parse rules old h =
    parse_contents t parse rules (length (octets_of h)) (old.position + length (octets_of h)) h.length (drop (length (octets_of h)) (rest old))

-- the result of parsing after the header, for an encoding that is written with the header's tag
abbrev pub parse_after : ContentsParse → EncodingRules → ReaderState → Header → Result (ℕ × List ℕ) ErrorKind
parse_after parse rules old h = parse_after_as h.tag parse rules old h

module _ {header : Header} {old mid : ReaderState} (at : AtHeader header old mid) where
  rest_mid : rest mid ≡ drop (length (octets_of header)) (rest old)
  rest_mid = ap rest at.head.after ∙ rest-after_read old (length (octets_of header))

  position_mid : mid.position ≡ old.position + length (octets_of header)
  position_mid = ap (λ s. s.position) at.head.after

  pub ready_mid : mid.failed ≡ false
  ready_mid = ap (λ s. s.failed) at.head.after ∙ at.head.ready

  -- the state after an error that is found after the header
  pub refused_after_header : {new : ReaderState} {kind : ErrorKind} → Refused mid new kind → Refused old new kind
  refused_after_header refused = refused_since at.head.ready (went_on _ at.head.after) refused

  pub refused_at_header : {new : ReaderState} {kind : ErrorKind} → new ≡ after_fault mid → Refused old new kind
  refused_at_header e = refused_at at.head.ready (went_on _ at.head.after) ready_mid e

  -- with its own tag, an encoding is parsed by its contents octets
  pub parse_own_tag : (t : Tag) → header.tag ≡ t → (parse : ContentsParse) (rules : EncodingRules) → parse_tagged t parse rules old.position (rest old) ≡ parse_after parse rules old header
  unfolding parse_tagged
  parse_own_tag t e parse rules =
      ap (parse_with_tag t parse rules old.position (rest old)) at.head.parsed ∙ rw (← e, same_identifier-same header.tag) refl

  -- an encoding with another tag is refused
  pub parse_other_tag : (t : Tag) → same_identifier header.tag t ≡ false → (parse : ContentsParse) (rules : EncodingRules) → parse_tagged t parse rules old.position (rest old) ≡ Err (TagUnexpected (Some t) header.tag)
  unfolding parse_tagged
  parse_other_tag t e parse rules =
      ap (parse_with_tag t parse rules old.position (rest old)) at.head.parsed ∙ rw e refl

  -- more contents octets than are left
  pub parse_too_long_as : {new : ReaderState} {kind : ErrorKind} → OctetsRefused mid new header.length kind → (t : Tag) (parse : ContentsParse) (rules : EncodingRules) → parse_after_as t parse rules old header ≡ Err kind
  parse_too_long_as {new} {kind} refused t parse rules =
      let l = length-rest mid at.sound in
      let ready = ready_mid in
      let s = at.sound in
      let unreadable : nat_le (mid.position + header.length) mid.end ≡ false = rw ready at refused.unreadable in
      let short : nat_lt (length (rest mid)) header.length ≡ true = grind (arith, nat_tests) in
      let end : mid.end ≡ mid.position + length (rest mid) = omega arith in
      let fault : kind ≡ read_fault_at mid.position header.length (length (rest mid)) = refused.fault_is ∙ fault_of_ready mid header.length ready ∙ ap (fault_before mid.position header.length) end ∙ fault_of_left mid.position header.length (length (rest mid)) in
      let e = sym rest_mid in
      let p = sym position_mid in
      rw (e, p, short) (ap Err (sym fault))

  pub parse_too_long : {new : ReaderState} {kind : ErrorKind} → OctetsRefused mid new header.length kind → (parse : ContentsParse) (rules : EncodingRules) → parse_after parse rules old header ≡ Err kind
  parse_too_long refused parse rules = parse_too_long_as refused header.tag parse rules

pub record AtContents (header : Header) (old mid shown : ReaderState) (end : ℕ) : Type 0 where
  pub at : AtHeader header old mid
  pub nest : Nested mid shown header.length end

-- a header whose tag is known has been read
pub at_contents : {header : Header} {tag : Tag} {old shown : ReaderState} {end : ℕ} → IsReaderState old → Opened tag old shown header end → AtContents header old (after_header old header) shown end
at_contents sound opened = record { at = at_header sound opened.head; nest = opened.nested }

module _ {header : Header} {old mid shown : ReaderState} {end : ℕ} (c : AtContents header old mid shown end) where
  room : mid.position + header.length ≤ mid.end
  room = room_from_can_read mid header.length c.nest.readable

  shown_rest : rest shown ≡ take header.length (rest mid)
  shown_rest = ap rest c.nest.after ∙ rest-after_nest mid header.length room

  enough : header.length ≤ length (rest mid)
  enough = let r = room in omega (arith, length-rest mid c.at.sound)

  pub shown_length : length (rest shown) ≡ header.length
  shown_length = let e = enough in rw shown_rest (omega (arith, length-take header.length (rest mid)))

  pub shown_ready : shown.failed ≡ false
  shown_ready = ap (λ s. s.failed) c.nest.after ∙ ready_mid c.at

  -- the state after a refusal of the contents octets
  pub refused_inside : {new : ReaderState} {kind : ErrorKind} → Refused shown new kind → Refused old new kind
  refused_inside refused = refused_after_header c.at (refused_since (ready_mid c.at) (went_inside _ c.nest.readable c.nest.after) refused)

  shown_position : shown.position ≡ old.position + length (octets_of header)
  shown_position = ap (λ s. s.position) c.nest.after ∙ position_mid c.at

  pub shown_rules : shown.rules ≡ old.rules
  shown_rules = ap (λ s. s.rules) c.nest.after ∙ ap (λ s. s.rules) c.at.head.after

  pub parse_shown_as : (t : Tag) (parse : ContentsParse) (rules : EncodingRules) → parse_after_as t parse rules old header ≡ tagged_contents t (length (octets_of header) + header.length) (parse rules shown.position (rest shown))
  parse_shown_as t parse rules =
      let e = sym (rest_mid c.at) in
      rw (e, not_short (length (rest mid)) header.length enough, shown_rest, shown_position) refl

  pub parse_shown : (parse : ContentsParse) (rules : EncodingRules) → parse_after parse rules old header ≡ tagged_contents header.tag (length (octets_of header) + header.length) (parse rules shown.position (rest shown))
  parse_shown parse rules = parse_shown_as header.tag parse rules

  pub taken : take (length (octets_of header) + header.length) (rest old) ≡ tlv header.tag (rest shown)
  taken =
      take-add (length (octets_of header)) header.length (rest old) ∙ ap (λ o. o ++ take header.length (drop (length (octets_of header)) (rest old))) c.at.head.taken ∙ ap (λ o. octets_of header ++ take header.length o) (sym (rest_mid c.at)) ∙ ap (λ o. octets_of header ++ o) (sym shown_rest) ∙ ap (λ n. header_octets header.tag n ++ rest shown) (sym shown_length)

  pub after_contents : {after new : ReaderState} → after ≡ after_read shown (length (rest shown)) → new ≡ after_unnest after end → new ≡ after_read old (length (octets_of header) + header.length)
  after_contents {after} {new} e f =
      f ∙ rw (e, shown_length, c.nest.after, c.nest.end_is, c.at.head.after) (ap (λ p. record old { position = p }) (let q : old.position + length (octets_of header) + header.length ≡ old.position + (length (octets_of header) + header.length) = omega arith in q))

  -- the end can be restored after the contents octets are read
  pub unnest_possible : {after : ReaderState} → after ≡ after_read shown (length (rest shown)) → can_unnest after end ≡ true
  unnest_possible {after} e =
      let r = room in
      let s = c.at.sound in
      let l = shown_length in
      let inside = s.inside in
      let here : (mid.position + header.length == mid.position + header.length) ≡ true = grind (arith, nat_tests) in
      let above : nat_le (mid.position + header.length) mid.end ≡ true = grind (arith, nat_tests) in
      let within : nat_le mid.end (length mid.input) ≡ true = grind (arith, nat_tests) in
      rw (e, shown_length, c.nest.after, c.nest.end_is, ready_mid c.at, here, above, within) refl
