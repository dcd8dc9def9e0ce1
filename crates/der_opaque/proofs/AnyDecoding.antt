-- Decoding an encoding with any tag: its errors, and its value.
use Rattle.std.proofs.Common.{◌≡◌, ℕ, ◌+◌, List, length, take, Bool, true, false, Ok, Err, inl, inr, refl, sym, ap, ◌∙◌}
use Rattle.der_tlv.specs.declared.error.ErrorKind.{ErrorKind}
use Rattle.der_tlv.specs.declared.error.ErrorKind.TheVariants.{Failed}
use Rattle.der_tlv.specs.declared.encoding_rules.EncodingRules.{EncodingRules}
use Rattle.der_tlv.specs.declared.header.Header.{Header}
use Rattle.der_tlv.specs.HeaderOctets.{tlv}
use Rattle.der_tlv.specs.HeaderReading.{read_header, octets_of}
use Rattle.der_tlv.specs.Reading.{HeadFault, OctetsRead, OctetsRefused, Refused}
use Rattle.der_tlv.specs.Opening.{ContentsRefused}
use Rattle.der_tlv.proofs.Refusals.{refused_octets}
use Rattle.der_tlv.specs.ReaderState.{ReaderState, IsReaderState, rest, after_read, after_nest, unless_failed}
use Rattle.der_tlv.proofs.ReaderStates.{rest-after_nest, room_from_can_read}
use Rattle.der_elem.proofs.AtContents.{AtHeader, AtContents, at_header, refused_after_header, parse_after, parse_too_long, parse_shown, shown_length, taken, after_contents}
use Rattle.der_opaque.specs.Opaque.{parse_octets}
use Rattle.der_opaque.specs.AnyForm.{parse_any, parse_after_header}

-- an error of the header is an error of the whole encoding
header_fault_any : {old new : ReaderState} {kind : ErrorKind} → HeadFault read_header old new kind → (rules : EncodingRules) → unless_failed (parse_any rules) old ≡ Err kind
unfolding parse_any
header_fault_any {old} {new} {kind} fault rules = at old.failed refl
  where
    at : (b : Bool) → old.failed ≡ b → unless_failed (parse_any rules) old ≡ Err kind
    at true e = let there = rw e at fault.fault_is in let k : Failed ≡ kind = cc in rw e (ap Err k)
    at false e =
        let there : read_header old.position (rest old) ≡ Err kind = rw e at fault.fault_is in
        rw e (ap (parse_after_header rules old.position (rest old)) there)

module _ {header : Header} {old mid : ReaderState} (at : AtHeader header old mid) (rules : EncodingRules) where
  parse_is : parse_any rules old.position (rest old) ≡ parse_after parse_octets rules old header
  unfolding parse_any
  parse_is = ap (parse_after_header rules old.position (rest old)) at.head.parsed

  -- contents octets that are longer than what is left
  too_long_any : {new : ReaderState} {kind : ErrorKind} → OctetsRefused mid new header.length kind → unless_failed (parse_any rules) old ≡ Err kind
  too_long_any refused = rw at.head.ready (parse_is ∙ parse_too_long at refused parse_octets rules)

-- an error of a header and its contents octets is an error of the whole encoding
pub not_read_any : {old new : ReaderState} {kind : ErrorKind} → IsReaderState old → (rules : EncodingRules) → ContentsRefused old new kind → (unless_failed (parse_any rules) old ≡ Err kind) × Refused old new kind
not_read_any sound rules (inl fault) = (header_fault_any fault rules, fault.reader)
not_read_any sound rules (inr missing) =
    let at = at_header sound missing.head in
    (too_long_any at rules missing.refused, refused_after_header at (refused_octets missing.refused))

module _ {header : Header} {old mid new : ReaderState} {octets : List ℕ} (at : AtHeader header old mid) (read : OctetsRead mid new header.length octets) where
  within : AtContents header old mid (after_nest mid header.length) mid.end
  within = record { at = at; nest = record { readable = read.readable; end_is = refl; after = refl } }

  octets_shown : rest (after_nest mid header.length) ≡ octets
  octets_shown =
      rest-after_nest mid header.length (room_from_can_read mid header.length read.readable) ∙ sym read.value

  pub parsed_any : (rules : EncodingRules) → parse_any rules old.position (rest old) ≡ Ok (length (octets_of header) + header.length, tlv header.tag octets)
  parsed_any rules =
      parse_is at rules ∙ parse_shown within parse_octets rules ∙ ap (λ o. Ok (length (octets_of header) + header.length, tlv header.tag o)) octets_shown

  pub taken_any : take (length (octets_of header) + header.length) (rest old) ≡ tlv header.tag octets
  taken_any = taken within ∙ ap (tlv header.tag) octets_shown

  pub after_any : new ≡ after_read old (length (octets_of header) + header.length)
  after_any =
      after_contents within {after = after_read (after_nest mid header.length) (length (rest (after_nest mid header.length)))} refl (read.after ∙ ap (after_read mid) (sym (shown_length within)))
