-- Kept contents octets that a new reader reads.
use Rattle.std.proofs.Common.{◌≡◌, ℕ, List, true, inl, inr, Result, Ok, Err, sym, ap, ◌∙◌, subst}
use Rattle.std.specs.Prelude.{IsOk}
use Rattle.std.proofs.Math.Seq.{take-length}
use Rattle.der_tlv.specs.declared.error.ErrorKind.{ErrorKind}
use Rattle.der_tlv.specs.declared.error.Error.{Error}
use Rattle.der_tlv.specs.declared.encoding_rules.EncodingRules.{EncodingRules}
use Rattle.der_tlv.specs.declared.header.Header.{Header}
use Rattle.der_tlv.specs.ReaderState.{ReaderState, rest, new_reader}
use Rattle.der_elem.specs.ContentsFormat.{ContentsFormat}
use Rattle.der_elem.specs.declared.form.Form as form
use Rattle.der_elem.specs.Accepting.{Fits}
use Rattle.der_elem.specs.Decoding.{DecodesValue}
use Rattle.der_opaque.specs.DecodingAs.{DecodesAs, NotDecodedAs}

-- a new reader has all of the octets left
pub rest_opened : (octets : List ℕ) (rules : EncodingRules) {s : ReaderState} → s ≡ new_reader octets rules → rest s ≡ octets
rest_opened octets rules opens = ap rest opens ∙ take-length octets

module _ {T : Type 0} (C : form.Ghosts T) (F : ContentsFormat T) (rules : EncodingRules) (header : Header) (octets : List ℕ) (fits : Fits octets) (allowed : C.tags header.tag ≡ true) where
  not_decoded : (kind : ErrorKind) → F.parse rules 0 octets ≡ Err kind → NotDecodedAs C F rules header.tag octets kind
  not_decoded kind e =
      record {
        fault = rw allowed e;
        nothing = λ t w accepted. let k = sym (F.parse_of_accepted rules w 0 octets accepted fits) ∙ e in absurd (cc);
      }

  at_opened : (new : ReaderState) (r : Result T Error) → DecodesValue F header (new_reader octets rules) new r → DecodesAs C F rules header.tag octets r
  at_opened new (Ok v) told =
      record {
        allowed = allowed;
        parsed = ap (F.parse rules 0) (sym (take-length octets)) ∙ told.parsed;
        accepted = subst (F.accepts rules v) (take-length octets) told.accepted;
        tag = told.tag;
      }
  at_opened new (Err e) told =
      elim told.reason [
        | inl m ↦ inl (allowed, record { kind_is = m.kind_is; takes = m.takes; faultless = λ first. subst (λ octets. IsOk (F.parse rules 0 octets)) (take-length octets) (m.faultless first) })
        | inr f ↦ inr (not_decoded e.kind (ap (F.parse rules 0) (sym (take-length octets)) ∙ f))
      ]

  -- the result of decoding the octets as the type
  pub decodes_as : (s new : ReaderState) (r : Result T Error) → s ≡ new_reader octets rules → DecodesValue F header s new r → DecodesAs C F rules header.tag octets r
  decodes_as s new r opens told = at_opened new r (subst (λ s. DecodesValue F header s new r) opens told)
