-- A header of two octets, read at once.
use Rattle.std.proofs.Common.{◌≡◌, ℕ, ◌+◌, ◌%◌, ◌<◌, ◌≤◌, ◌==◌, Bool, true, false, if◌then◌else◌, ◌∷◌, get_or, Some, None, Result, Ok, Err, refl, sym, ap, ◌∙◌, arith}
use Rattle.std.proofs.lemmas.Bool.Decides.{nat_tests}
use Rattle.der_tlv.specs.declared.error.ErrorKind.{ErrorKind}
use Rattle.der_tlv.specs.declared.tag.Tag.{Tag}
use Rattle.der_tlv.specs.ReaderState.{ReaderState, IsReaderState, rest, after_read}
use Rattle.der_tlv.specs.Identifier.{identifier}
use Rattle.der_tlv.specs.HeaderOctets.{header_octets}
use Rattle.der_tlv.specs.HeaderReading.{tag_of_octets, read_tag, read_header, header}
use Rattle.der_tlv.specs.Reading.{OctetRead, HeadRead}
use Rattle.der_tlv.specs.ShortTags.{tag_if_any, short_tag}
use Rattle.der_tlv.proofs.ReaderStates.{rest_first}
use Rattle.der_tlv.proofs.Lengths.{after_more}
use Rattle.der_tlv.proofs.Headers.{header_read}
use Rattle.der_tlv.proofs.ShortLengths.{short_length}
use Rattle.der_tlv.proofs.TagHeads.{tag_read}
use Rattle.der_tlv.proofs.TagHeads.NumberRead.{in_first}

-- an octet that is the identifier of a tag has its number in bits 5 to 1
short_tag-is : (first : ℕ) (t : Tag) → short_tag first ≡ Some t → (first % 32 < 31) × (tag_of_octets first (first % 32) ≡ Ok t)
short_tag-is first t e = at (first % 32 == 31) refl (tag_of_octets first (first % 32)) refl e
  where
    at : (b : Bool) → (first % 32 == 31) ≡ b → (r : Result Tag ErrorKind) → tag_of_octets first (first % 32) ≡ r → (if b then None else tag_if_any r) ≡ Some t → (first % 32 < 31) × (tag_of_octets first (first % 32) ≡ Ok t)
    at true f r g h = absurd (cc)
    at false f (Ok u) g h = (grind (arith, nat_tests, f), g ∙ (cc))
    at false f (Err k) g h = absurd (cc)

-- an octet that was read and is the identifier of a tag
pub short_tag_read : {old new : ReaderState} {x : ℕ} {t : Tag} → OctetRead old new x → x < 256 → short_tag x ≡ Some t → HeadRead read_tag (identifier t) old new t
short_tag_read {x = x} {t = t} read small tag = let is = short_tag-is x t tag in tag_read (in_first read small is.0 refl) is.1

-- a tag of one octet and a length of one octet
pub short_header_read : {old new : ReaderState} {x n : ℕ} {t : Tag} → IsReaderState old → old.failed ≡ false → old.position + 2 ≤ old.end → get_or old.input old.position 0 ≡ x → get_or old.input (old.position + 1) 0 ≡ n → x < 256 → short_tag x ≡ Some t → n < 128 → new ≡ after_read old 2 → HeadRead read_header (header_octets t n) old new (header t n)
short_header_read {old = old} {new = new} {x = x} {n = n} {t = t} sound ready room tag_octet length_octet small tag short after =
    let mid : ReaderState = after_read old 1 in
    let still : IsReaderState mid = record { ordered = omega arith; inside = sound.inside; short = sound.short } in
    let end : new ≡ after_read mid 1 = after ∙ sym (after_more old 1 1) in
    let first : OctetRead old mid x = record { ready = ready; first = rest_first old sound (omega arith) ∙ ap (λ z. z ∷ rest mid) tag_octet; after = refl } in
    let second : OctetRead mid new n = record { ready = ready; first = rest_first mid still (omega arith) ∙ ap (λ z. z ∷ rest (after_read mid 1)) length_octet ∙ ap (λ s. n ∷ rest s) (sym end); after = end } in
    header_read (short_tag_read first small tag) (short_length second short)
