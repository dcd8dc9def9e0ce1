-- The end after a refusal, if the next header has a tag that the type does not have.
use Rattle.std.proofs.Common.{◌≡◌, ℕ, List, length, Bool, true, false, Err, refl, sym, ap, ◌∙◌}
use Rattle.der_tlv.specs.declared.error.ErrorKind.{ErrorKind}
use Rattle.der_tlv.specs.declared.header.Header.{Header}
use Rattle.der_tlv.specs.declared.tag.Tag.{Tag}
use Rattle.der_tlv.specs.Identifier.{same_identifier}
use Rattle.der_tlv.specs.HeaderLaws.{same_identifier-same}
use Rattle.der_tlv.specs.HeaderReading.{read_tag, header_with_tag, read_header, octets_of}
use Rattle.der_tlv.specs.Reading.{HeadFault, Refused}
use Rattle.der_tlv.specs.ReaderState.{ReaderState, rest, after_fault}
use Rattle.der_elem.specs.Decoding.{OtherHeader}
use Rattle.der_elem.proofs.AtContents.{AtHeader}

-- a reader that had failed is unchanged
pub end_of_failed : {old new : ReaderState} {kind : ErrorKind} → Refused old new kind → old.failed ≡ true → new.end ≡ old.end
end_of_failed refused failed = ap (λ (s : ReaderState). s.end) (refused.again failed).1

-- if there is no header, no header has another tag
pub end_without_header : {tags : Tag → Bool} {old new : ReaderState} {kind : ErrorKind} → HeadFault read_header old new kind → OtherHeader tags old → new.end ≡ old.end
end_without_header {tags} {old} {new} {kind} fault other = at old.failed refl
  where
    at : (b : Bool) → old.failed ≡ b → new.end ≡ old.end
    at true e = end_of_failed fault.reader e
    at false e = let there : read_header old.position (rest old) ≡ Err kind = rw e at fault.fault_is in let none = sym other.is_next ∙ there in absurd (cc)

-- if there is no tag, there is no header
no_header : (p : ℕ) (octets : List ℕ) {kind : ErrorKind} → read_tag p octets ≡ Err kind → read_header p octets ≡ Err kind
unfolding read_header
no_header p octets e = ap (header_with_tag p octets) e

pub end_without_tag : {tags : Tag → Bool} {old new : ReaderState} {kind : ErrorKind} → HeadFault read_tag old new kind → OtherHeader tags old → new.end ≡ old.end
end_without_tag {tags} {old} {new} {kind} fault other = at old.failed refl
  where
    at : (b : Bool) → old.failed ≡ b → new.end ≡ old.end
    at true e = end_of_failed fault.reader e
    at false e = let there : read_tag old.position (rest old) ≡ Err kind = rw e at fault.fault_is in let none = sym other.is_next ∙ no_header old.position (rest old) there in absurd (cc)

module _ {header : Header} {old mid : ReaderState} (at : AtHeader header old mid) where
  -- an error after the header
  pub end_at_header : {new : ReaderState} → new ≡ after_fault mid → new.end ≡ old.end
  end_at_header e = ap (λ (s : ReaderState). s.end) e ∙ ap (λ (s : ReaderState). s.end) at.head.after

  -- the next header is the one that was read
  pub next_is_other : {tags : Tag → Bool} → OtherHeader tags old → tags header.tag ≡ false
  next_is_other {tags} other =
      let pair : (other.count, other.header) ≡ (length (octets_of header), header) = let e = sym other.is_next ∙ at.head.parsed in cc in
      let same : other.header ≡ header = ap (λ (q : ℕ × Header). q.1) pair in
      ap (λ (h : Header). tags h.tag) (sym same) ∙ other.is_other

  -- a header with the type's own tag has no other tag
  pub no_other_tag : {A : Type 0} (t : Tag) → header.tag ≡ t → OtherHeader (λ u. same_identifier u t) old → A
  no_other_tag t same other =
      let e = sym (ap (λ u. same_identifier u t) same ∙ same_identifier-same t) ∙ next_is_other other in absurd (cc)
