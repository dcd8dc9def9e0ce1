-- The laws of encodings with any tag.
use Rattle.std.proofs.Common.{◌≡◌, ℕ, ◌+◌, List, ◌∷◌, ◌++◌, length, drop, Bool, true, Result, Ok, Err, refl, sym, ap, ◌∙◌, subst, append_assoc, ◌↔◌, IsTrue, ◌&&◌}
use Rattle.std.proofs.lemmas.List.{length-append}
use Rattle.std.proofs.lemmas.Bool.{and_parts, and_from}
use Rattle.std.proofs.Math.Seq.{take-append_seam, drop-append_seam}
use Rattle.std.specs.Bool.{Decides}
use Rattle.der_tlv.specs.declared.encoding_rules.EncodingRules.{EncodingRules}
use Rattle.der_tlv.specs.declared.error.ErrorKind.{ErrorKind}
use Rattle.der_tlv.specs.declared.header.Header.{Header}
use Rattle.der_tlv.specs.declared.tag.Tag.{Tag}
use Rattle.der_tlv.specs.TagParts.{IsTag}
use Rattle.der_tlv.specs.Identifier.{identifier}
use Rattle.der_tlv.specs.LengthOctets.{length_octets}
use Rattle.der_tlv.specs.LengthLaws.{not_short}
use Rattle.der_tlv.specs.HeaderOctets.{header_octets, tlv}
use Rattle.der_tlv.specs.HeaderLaws.{read_header-octets, tlv-injective}
use Rattle.der_elem.specs.Accepting.{Fits, BeginsWith, MayFollow}
use Rattle.der_tlv.specs.HeaderReading.{read_header}
use Rattle.der_tlv.specs.OctetFaults.{IsOfOctets, header_of_octets_read}
use Rattle.der_elem.specs.TaggedLaws.{contents_fit, contents_of_octets}
use Rattle.der_elem.specs.FirstTags.{BeginsWithTag}
use Rattle.der_opaque.specs.AnyForm.{accepts_any, parse_any, parse_after_header}
use Rattle.der_opaque.specs.Opaque.{parse_octets}

-- an encoding is parsed as itself, whatever follows it
pub parse_any-tlv : (t : Tag) (rules : EncodingRules) (p : ℕ) (c x : List ℕ) → IsTag t → Fits (tlv t c) → parse_any rules p (tlv t c ++ x) ≡ Ok (length (tlv t c), tlv t c)
unfolding parse_any
parse_any-tlv t rules p c x is_tag fits =
    let h = header_octets t (length c) in
    let regroup : tlv t c ++ x ≡ h ++ (c ++ x) = append_assoc h c x in
    let head = read_header-octets t (length c) p (c ++ x) is_tag (contents_fit t c fits) in
    ap (parse_any rules p) regroup ∙ ap (parse_after_header rules p (h ++ (c ++ x))) head ∙ rw (drop-append_seam h (c ++ x), not_short c x, take-append_seam c x) (ap (λ n. Ok (n, tlv t c)) (sym (length-append h c)))

-- the errors are errors of the octets
any_after_header : (rules : EncodingRules) (p : ℕ) (octets : List ℕ) (r : Result (ℕ × Header) ErrorKind) → IsOfOctets r → IsOfOctets (parse_after_header rules p octets r)
any_after_header rules p octets (Err k) h = h
any_after_header rules p octets (Ok (count, header)) h =
    contents_of_octets header.tag parse_octets (λ rules p c. tt) rules count (p + count) header.length (drop count octets)

pub any_of_octets : (rules : EncodingRules) (p : ℕ) (octets : List ℕ) → IsOfOctets (parse_any rules p octets)
unfolding parse_any
any_of_octets rules p octets = any_after_header rules p octets (read_header p octets) (header_of_octets_read p octets)

module _ {T : Type 0} (tag_of : T → Tag) (contents : T → List ℕ) where
  pub parse_of_any : (rules : EncodingRules) (v : T) (p : ℕ) (b x : List ℕ) → accepts_any tag_of contents rules v b → Fits b → MayFollow (λ t. true) b x → parse_any rules p (b ++ x) ≡ Ok (length b, tlv (tag_of v) (contents v))
  parse_of_any rules v p b x (is_tag, e) fits follows =
      subst (λ b. parse_any rules p (b ++ x) ≡ Ok (length b, tlv (tag_of v) (contents v))) (sym e) (parse_any-tlv (tag_of v) rules p (contents v) x is_tag (subst Fits e fits))

  pub begins_any : (rules : EncodingRules) (v : T) (z : ℕ) (b : List ℕ) → accepts_any tag_of contents rules v (z ∷ b) → BeginsWith (λ t. true) true (z ∷ b)
  begins_any rules v z b (is_tag, e) =
      record { tag = tag_of v; others = length_octets (length (contents v)) ++ contents v; octets_are = e ∙ append_assoc (identifier (tag_of v)) (length_octets (length (contents v))) (contents v); is_tag = is_tag; is_one = refl }

  pub same_length_any : (rules : EncodingRules) (v : T) (b : List ℕ) → accepts_any tag_of contents rules v b → length (tlv (tag_of v) (contents v)) ≡ length b
  same_length_any rules v b (is_tag, e) = ap length (sym e)

-- values with any tag are equal exactly if their encodings are
pub encoding_eq_any : (same_tag same_contents : Bool) (t u : Tag) (c d : List ℕ) → Decides same_tag (t ≡ u) → Decides same_contents (c ≡ d) → IsTrue (same_tag && same_contents) ↔ (tlv t c ≡ tlv u d)
encoding_eq_any same_tag same_contents t u c d tags contents =
    (λ h. let both = and_parts same_tag same_contents h in ap (λ v. tlv v c) (tags.0 both.0) ∙ ap (tlv u) (contents.0 both.1), λ e. let same = tlv-injective t u c d e in and_from same_tag same_contents (tags.1 same.0) (contents.1 same.1))

pub begins_first_any : {T : Type 0} (tag_of : T → Tag) (contents : T → List ℕ) (rules : EncodingRules) (v : T) (b : List ℕ) → accepts_any tag_of contents rules v b → BeginsWithTag (tag_of v) b
begins_first_any tag_of contents rules v b a =
    record { others = length_octets (length (contents v)) ++ contents v; octets_are = a.1 ∙ append_assoc (identifier (tag_of v)) (length_octets (length (contents v))) (contents v); is_tag = a.0 }
