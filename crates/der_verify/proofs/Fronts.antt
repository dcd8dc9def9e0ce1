-- A new reader of octets that begin with an encoding reads this encoding.
use Rattle.std.proofs.Common.{◌≡◌, ℕ, ◌+◌, ◌-◌, ◌<◌, ◌^◌, List, ◌++◌, length, take, drop, true, Ok, Err, ap, ◌∙◌, subst, append_assoc, arith}
use Rattle.std.specs.Prelude.{slice_range}
use Rattle.std.proofs.lemmas.List.{length-append}
use Rattle.std.proofs.lemmas.Bool.Decides.{nat_tests}
use Rattle.std.proofs.Math.Seq.{take-length, drop-append_seam, take-append_seam}
use Rattle.der_tlv.specs.declared.tag.Tag.{Tag}
use Rattle.der_tlv.specs.declared.error.ErrorKind.{ErrorKind}
use Rattle.der_tlv.specs.declared.header.Header.{Header}
use Rattle.der_tlv.specs.declared.encoding_rules.EncodingRules.TheVariants.{Der}
use Rattle.der_tlv.specs.ReaderState.{ReaderState, rest, new_reader, after_read, can_read}
use Rattle.der_tlv.specs.Reading.{HeadRead, HeadFault, OctetsRead, OctetsRefused}
use Rattle.der_tlv.specs.HeaderOctets.{header_octets, tlv}
use Rattle.der_tlv.specs.HeaderReading.{read_header, octets_of, header}
use Rattle.der_tlv.specs.HeaderLaws.{read_header-octets}
use Rattle.der_tlv.proofs.ReaderStates.{rest-after_read}
use Rattle.der_verify.specs.Signed.{BeginsWith}

module _ (octets : List ℕ) (t : Tag) (c others : List ℕ) (b : BeginsWith octets t c others) where
  abbrev pub head : List ℕ
  head = header_octets t (length c)

  grouped : octets ≡ head ++ (c ++ others)
  grouped = b.octets_are ∙ append_assoc head c others

  counted : length octets ≡ length head + (length c + length others)
  counted = ap length grouped ∙ length-append head (c ++ others) ∙ ap (λ n. length head + n) (length-append c others)

  fits : length c < 2 ^ 32
  fits = let n = counted in let s = b.short in omega arith

  -- the header is read
  header_there : read_header 0 (rest (new_reader octets Der)) ≡ Ok (length head, header t (length c))
  header_there =
      ap (read_header 0) (take-length octets ∙ grouped) ∙ read_header-octets t (length c) 0 (c ++ others) b.is_tag fits

  -- reading the header does not fail
  pub no_header_fault : (old new : ReaderState) (kind : ErrorKind) → old ≡ new_reader octets Der → HeadFault read_header old new kind → ⊥
  no_header_fault old new kind e f =
      let g = subst (λ s. HeadFault read_header s new kind) e f in
      let k : read_header 0 (rest (new_reader octets Der)) ≡ Err kind = g.fault_is in
      let h = header_there in
      absurd (cc)

  module _ (old mid : ReaderState) (h : Header) (e : old ≡ new_reader octets Der) (r : HeadRead read_header (octets_of h) old mid h) where
    read_there : HeadRead read_header (octets_of h) (new_reader octets Der) mid h
    read_there = subst (λ s. HeadRead read_header (octets_of h) s mid h) e r

    header_is : h ≡ header t (length c)
    header_is =
        let k : read_header 0 (rest (new_reader octets Der)) ≡ Ok (length (octets_of h), h) = read_there.parsed in
        let there = header_there in
        let same : ◌≡◌ {A = ℕ × Header} (length (octets_of h), h) (length head, header t (length c)) = cc in
        ap (λ (p : ℕ × Header). p.1) same

    stands : mid ≡ after_read (new_reader octets Der) (length head)
    stands = read_there.after ∙ ap (λ (k : Header). after_read (new_reader octets Der) (length (octets_of k))) header_is

    left : rest mid ≡ c ++ others
    left =
        ap rest stands ∙ rest-after_read (new_reader octets Der) (length head)
        ∙ ap (drop (length head)) (take-length octets ∙ grouped) ∙ drop-append_seam head (c ++ others)

    enough : can_read mid h.length ≡ true
    enough =
        let n = counted in
        ap (λ s. can_read s h.length) stands ∙ ap (λ (k : Header). can_read (after_read (new_reader octets Der) (length head)) k.length) header_is
        ∙ grind (arith, nat_tests)

    pub no_slice_fault : (new : ReaderState) (kind : ErrorKind) → OctetsRefused mid new h.length kind → ⊥
    no_slice_fault new kind f = let k = enough in let g = f.unreadable in absurd (cc)

    pub contents_are : (new : ReaderState) (found : List ℕ) → OctetsRead mid new h.length found → found ≡ c
    contents_are new found f =
        f.value ∙ ap (λ (k : Header). take k.length (rest mid)) header_is ∙ ap (take (length c)) left ∙ take-append_seam c others

    pub whole_is : (new : ReaderState) (found whole : List ℕ) → OctetsRead mid new h.length found → whole ≡ slice_range octets 0 new.position → whole ≡ tlv t c
    whole_is new found whole f w =
        let after : new.position ≡ mid.position + h.length = ap (λ (s : ReaderState). s.position) f.after in
        let before : mid.position ≡ 0 + length head = ap (λ (s : ReaderState). s.position) stands in
        let count : h.length ≡ length c = ap (λ (k : Header). k.length) header_is in
        let at : new.position ≡ length head + length c = omega arith in
        let all : length (tlv t c) ≡ length head + length c = length-append head c in
        let from_first : new.position - 0 ≡ length (tlv t c) = omega arith in
        w ∙ ap (λ n. take n octets) from_first ∙ ap (take (length (tlv t c))) b.octets_are ∙ take-append_seam (tlv t c) others
