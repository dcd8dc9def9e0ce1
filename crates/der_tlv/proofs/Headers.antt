-- A header, from its tag and its length.
use Rattle.std.proofs.Common.{◌≡◌, ℕ, ◌+◌, ◌++◌, length, take, drop, Ok, Err, Bool, true, false, refl, sym, ap, ◌∙◌}
use Rattle.std.proofs.lemmas.List.{length-append}
use Rattle.std.proofs.Math.Seq.{take-add}
use Rattle.der_tlv.specs.declared.error.ErrorKind.{ErrorKind}
use Rattle.der_tlv.specs.declared.error.ErrorKind.TheVariants.{Failed}
use Rattle.der_tlv.specs.declared.tag.Tag.{Tag}
use Rattle.der_tlv.specs.Identifier.{identifier}
use Rattle.der_tlv.specs.LengthOctets.{length_octets}
use Rattle.der_tlv.specs.HeaderOctets.{header_octets}
use Rattle.der_tlv.specs.ReaderState.{ReaderState, rest, after_read, unless_failed}
use Rattle.der_tlv.specs.HeaderReading.{read_tag, read_length, read_header, header, header_with_tag, header_with_length}
use Rattle.der_tlv.specs.Reading.{HeadFault, HeadRead}
use Rattle.der_tlv.proofs.Refusals.{went_on, refused_since}
use Rattle.der_tlv.proofs.ReaderStates.{rest-after_read}
use Rattle.der_tlv.proofs.Lengths.{after_more}

position_after : (old mid : ReaderState) (n : ℕ) → mid ≡ after_read old n → mid.position ≡ old.position + n
position_after old mid n e = ap (λ s. s.position) e

left_after : (old mid : ReaderState) (n : ℕ) → mid ≡ after_read old n → rest mid ≡ drop n (rest old)
left_after old mid n e = ap rest e ∙ rest-after_read old n

-- reading the length, after the tag has been read
module _ {old mid : ReaderState} {t : Tag} (tag : HeadRead read_tag (identifier t) old mid t) where
  length_seen : read_length (old.position + length (identifier t)) (drop (length (identifier t)) (rest old)) ≡ read_length mid.position (rest mid)
  length_seen =
      ap (λ p. read_length p (drop (length (identifier t)) (rest old))) (sym (position_after old mid (length (identifier t)) tag.after)) ∙ ap (read_length mid.position) (sym (left_after old mid (length (identifier t)) tag.after))

  header_seen : read_header old.position (rest old) ≡ header_with_length (length (identifier t)) t (read_length mid.position (rest mid))
  unfolding read_header
  header_seen =
      ap (header_with_tag old.position (rest old)) tag.parsed ∙ ap (header_with_length (length (identifier t)) t) length_seen

  pub header_read : {new : ReaderState} {n : ℕ} → HeadRead read_length (length_octets n) mid new n → HeadRead read_header (header_octets t n) old new (header t n)
  header_read {new} {n} len =
      let count = length-append (identifier t) (length_octets n) in
      record {
        ready = tag.ready;
        parsed = header_seen ∙ ap (header_with_length (length (identifier t)) t) len.parsed ∙ ap (λ k. Ok (k, header t n)) (sym count);
        taken =
            ap (λ k. take k (rest old)) count ∙ take-add (length (identifier t)) (length (length_octets n)) (rest old) ∙ ap (λ c. c ++ take (length (length_octets n)) (drop (length (identifier t)) (rest old))) tag.taken ∙ ap (λ c. identifier t ++ take (length (length_octets n)) c) (sym (left_after old mid (length (identifier t)) tag.after)) ∙ ap (λ c. identifier t ++ c) len.taken;
        after = len.after ∙ ap (λ s. after_read s (length (length_octets n))) tag.after ∙ after_more old (length (identifier t)) (length (length_octets n)) ∙ ap (after_read old) (sym count);
      }

  pub header_length_fault : {new : ReaderState} {kind : ErrorKind} → HeadFault read_length mid new kind → HeadFault read_header old new kind
  header_length_fault {new} {kind} fault =
      let ready : mid.failed ≡ false = ap (λ s. s.failed) tag.after ∙ tag.ready in
      let there : read_length mid.position (rest mid) ≡ Err kind = rw ready at fault.fault_is in
      record { fault_is = rw tag.ready (header_seen ∙ ap (header_with_length (length (identifier t)) t) there); reader = refused_since tag.ready (went_on _ tag.after) fault.reader }

pub header_tag_fault : {old new : ReaderState} {kind : ErrorKind} → HeadFault read_tag old new kind → HeadFault read_header old new kind
unfolding read_header
header_tag_fault {old} {new} {kind} fault = record { fault_is = at old.failed refl; reader = fault.reader }
  where
    at : (b : Bool) → old.failed ≡ b → unless_failed read_header old ≡ Err kind
    at true e = let there = rw e at fault.fault_is in let k : Failed ≡ kind = cc in rw e (ap Err k)
    at false e = let there : read_tag old.position (rest old) ≡ Err kind = rw e at fault.fault_is in rw e (ap (header_with_tag old.position (rest old)) there)
