-- No header and no encoding is a proper prefix of another, and a header that was written is read back.
use Rattle.std.proofs.Common.{◌≡◌, ℕ, ◌+◌, ◌<◌, ◌^◌, Bool, true, false, List, [], ◌++◌, length, Ok, refl, sym, ap, ◌∙◌, subst, append_assoc, IsTrue, ◌↔◌}
use Rattle.std.proofs.lemmas.List.{length-append}
use Rattle.std.proofs.Math.Seq.{drop-append_seam}
use Rattle.std.specs.Cmp.Lexicographic.{bytes_decides}
use Rattle.der_tlv.specs.declared.tag.Tag.{Tag}
use Rattle.der_tlv.specs.TagParts.{IsTag}
use Rattle.der_tlv.specs.Identifier.{identifier, same_identifier}
use Rattle.der_tlv.specs.IdentifierLaws.{identifier-unique, identifier-injective}
use Rattle.der_tlv.specs.LengthOctets.{length_octets}
use Rattle.der_tlv.specs.LengthLaws.{length_octets-unique, read_length-octets, split_same_length}
use Rattle.der_tlv.specs.HeaderOctets.{header_octets, tlv}
use Rattle.der_tlv.specs.TagReadingLaws.{read_tag-identifier}
use Rattle.der_tlv.specs.HeaderReading.{read_header, read_length, header, header_with_tag, header_with_length}

-- octets begin with at most one header
pub header_octets-unique : (t u : Tag) (m n : ℕ) (x y : List ℕ) → header_octets t m ++ x ≡ header_octets u n ++ y → (t ≡ u) × (m ≡ n) × (x ≡ y)
header_octets-unique t u m n x y e =
    let f = sym (append_assoc (identifier t) (length_octets m) x) ∙ e ∙ append_assoc (identifier u) (length_octets n) y in
    let tags = identifier-unique t u (length_octets m ++ x) (length_octets n ++ y) f in
    let lengths = length_octets-unique m n x y tags.1 in
    (tags.0, lengths.0, lengths.1)

-- octets begin with at most one encoding
pub tlv-unique : (t u : Tag) (c d x y : List ℕ) → tlv t c ++ x ≡ tlv u d ++ y → (t ≡ u) × (c ≡ d) × (x ≡ y)
tlv-unique t u c d x y e =
    let f = sym (append_assoc (header_octets t (length c)) c x) ∙ e ∙ append_assoc (header_octets u (length d)) d y in
    let headers = header_octets-unique t u (length c) (length d) (c ++ x) (d ++ y) f in
    let contents = split_same_length c d x y headers.1 headers.2 in
    (headers.0, contents.0, contents.1)

pub tlv-injective : (t u : Tag) (c d : List ℕ) → tlv t c ≡ tlv u d → (t ≡ u) × (c ≡ d)
tlv-injective t u c d e = let same = tlv-unique t u c d [] [] (ap (λ o. o ++ []) e) in (same.0, same.1)

pub same_identifier-same : (t : Tag) → same_identifier t t ≡ true
unfolding same_identifier
same_identifier-same t = (bytes_decides (identifier t) (identifier t)).1 refl

pub same_identifier-true : (t u : Tag) → same_identifier t u ≡ true → t ≡ u
unfolding same_identifier
same_identifier-true t u h = identifier-injective t u ((bytes_decides (identifier t) (identifier u)).0 h)

-- a header that was written is read back, whatever follows it
pub read_header-octets : (t : Tag) (n p : ℕ) (x : List ℕ) → IsTag t → n < 2 ^ 32 → read_header p (header_octets t n ++ x) ≡ Ok (length (header_octets t n), header t n)
unfolding read_header
read_header-octets t n p x small short =
    let regroup : header_octets t n ++ x ≡ identifier t ++ (length_octets n ++ x) = append_assoc (identifier t) (length_octets n) x in
    let tag = ap (header_with_tag p (identifier t ++ (length_octets n ++ x))) (read_tag-identifier t p (length_octets n ++ x) small) in
    let left = ap (λ o. header_with_length (length (identifier t)) t (read_length (p + length (identifier t)) o)) (drop-append_seam (identifier t) (length_octets n ++ x)) in
    let len = ap (header_with_length (length (identifier t)) t) (read_length-octets n (p + length (identifier t)) x short) in
    ap (read_header p) regroup ∙ tag ∙ left ∙ len ∙ ap (λ k. Ok (k, header t n)) (sym (length-append (identifier t) (length_octets n)))

-- a test that is true exactly when two tags are the same equals the test of their identifier octets
pub same_identifier-test : (b : Bool) (t u : Tag) → (IsTrue b ↔ (t ≡ u)) → b ≡ same_identifier t u
same_identifier-test b t u h = at b (same_identifier t u) refl refl
  where
    at : (x y : Bool) → b ≡ x → same_identifier t u ≡ y → b ≡ same_identifier t u
    at true true e f = e ∙ sym f
    at false false e f = e ∙ sym f
    at true false e f = let k : same_identifier t u ≡ true = subst (λ v. same_identifier t v ≡ true) (h.0 e) (same_identifier-same t) in absurd (cc)
    at false true e f = let k : b ≡ true = h.1 (same_identifier-true t u f) in absurd (cc)
