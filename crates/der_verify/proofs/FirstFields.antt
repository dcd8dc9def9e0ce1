-- In an encoding whose contents octets begin with another, that first encoding is found.
use Rattle.std.proofs.Common.{◌≡◌, ℕ, ◌<◌, ◌^◌, List, [], ◌++◌, length, Result, Ok, Err, IsOkAnd, sym, ap, ◌∙◌, subst, append-nil, lit<, arith}
use Rattle.std.proofs.lemmas.List.{length-append}
use Rattle.std.specs.Borrow.{Bor}
use Rattle.der_tlv.specs.declared.error.Error.{Error}
use Rattle.der_tlv.specs.declared.tag.Tag.{Tag}
use Rattle.der_tlv.specs.declared.tag.Tag.TheVariants.{Sequence}
use Rattle.der_tlv.specs.HeaderOctets.{header_octets, tlv}
use Rattle.der_verify.specs.Signed.{BeginsWith, HasFirst, ReadsFirst}

module _ (octets : List ℕ) (t u : Tag) (c others : List ℕ) (h : HasFirst octets t u c others) where
  pub outer_begins : BeginsWith octets t (tlv u c ++ others) []
  outer_begins = record { is_tag = h.is_outer; short = h.short; octets_are = h.octets_are ∙ sym (append-nil (tlv t (tlv u c ++ others))) }

  pub inner_begins : (contents : List ℕ) → contents ≡ tlv u c ++ others → BeginsWith contents u c others
  inner_begins contents e =
      let n = ap length h.octets_are in let k = length-append (header_octets t (length (tlv u c ++ others))) (tlv u c ++ others) in let m = ap length e in let s = h.short in
      record { is_tag = h.is_inner; short = omega arith; octets_are = e }

-- if the first field of a SEQUENCE is a SEQUENCE that is read, it is found
pub first_read : (octets contents front others own : List ℕ) (reads : List ℕ → Type 0) (result : Result (Bor (List ℕ)) Error) → octets ≡ tlv Sequence contents → contents ≡ front ++ others → front ≡ tlv Sequence own → reads front → length octets < 2 ^ 32 → ((t u : Tag) → (c behind : List ℕ) → HasFirst octets t u c behind → IsOkAnd result (λ found. found.now ≡ tlv u c)) → IsOkAnd result (λ signed. ReadsFirst reads octets signed.now)
first_read octets contents front others own reads (Ok found) o c f read short first =
    let parts = o ∙ ap (tlv Sequence) c in
    let has : HasFirst octets Sequence Sequence own others = record { is_outer = lit< tt; is_inner = lit< tt; short = short; octets_are = parts ∙ ap (λ k. tlv Sequence (k ++ others)) f } in
    let same : front ≡ found.now = f ∙ sym (first Sequence Sequence own others has) in
    record { others = others; octets_are = parts ∙ ap (λ k. tlv Sequence (k ++ others)) same; read = subst reads same read }
first_read octets contents front others own reads (Err e) o c f read short first =
    let parts = o ∙ ap (tlv Sequence) c in
    first Sequence Sequence own others (record { is_outer = lit< tt; is_inner = lit< tt; short = short; octets_are = parts ∙ ap (λ k. tlv Sequence (k ++ others)) f })
