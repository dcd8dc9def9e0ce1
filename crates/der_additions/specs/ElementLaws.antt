-- The laws of whole encodings, one after another.
use Rattle.std.proofs.Common.{◌≡◌, ℕ, ◌<◌, ◌^◌, List, [], ◌∷◌, ◌++◌, length, drop, Bool, true, false, Option, Some, None, Result, Ok, Err, inl, inr, refl, sym, ap, ◌∙◌, subst, append_assoc}
use Rattle.std.proofs.Math.Logic.{∥∥₁_elim}
use Rattle.std.proofs.Math.Seq.{drop-append_seam}
use Rattle.std.proofs.Props.{props}
use Rattle.der_tlv.specs.declared.encoding_rules.EncodingRules.{EncodingRules}
use Rattle.der_tlv.specs.declared.encoding_rules.EncodingRules.TheVariants.{Der}
use Rattle.der_tlv.specs.declared.error.ErrorKind.{ErrorKind}
use Rattle.der_tlv.specs.declared.tag.Tag.{Tag}
use Rattle.der_tlv.specs.HeaderLaws.{read_header-octets}
use Rattle.der_tlv.specs.HeaderOctets.{header_octets, tlv}
use Rattle.der_tlv.specs.HeaderReading.{read_header, read_tag}
use Rattle.der_tlv.specs.Identifier.{identifier}
use Rattle.der_tlv.specs.LengthOctets.{length_octets}
use Rattle.der_tlv.specs.OctetFaults.{IsOfOctets}
use Rattle.der_tlv.specs.TagParts.{IsTag}
use Rattle.der_elem.specs.Decoding.{Faults}
use Rattle.der_elem.specs.FirstTags.{BeginsWithFirst, BeginsWithTag, Starts}
use Rattle.der_nest.specs.BorrowedSequences.{items_format, parse_all_items}
use Rattle.der_nest.specs.KeptFormat.{as_they_came, kept_of_octets}
use Rattle.der_nest.specs.ListLaws.{parse_each-end}
use Rattle.der_nest.specs.Lists.{AcceptsEach, join_encodings}
use Rattle.der_opaque.specs.AnyForm.{parse_any}
use Rattle.der_opaque.specs.declared.any_ref.AnyRef.{AnyRef}
use Rattle.der_opaque.specs.contracts.any_ref.AnyRefForm.TheImpl.{ghosts as any_form}
use Rattle.der_additions.specs.Elements.{AreElements, first_tag, parse_elements, tag_of_header}

-- ---- parsing

abbrev is_ok : Result (List ℕ) ErrorKind → Bool
is_ok (Ok contents) = true
is_ok (Err kind) = false

kept_as_they_came : (octets : List ℕ) (r : Result (List ℕ) ErrorKind) → is_ok r ≡ true → as_they_came octets r ≡ Ok octets
kept_as_they_came octets (Ok contents) e = refl
kept_as_they_came octets (Err kind) e = let none : false ≡ true = e in absurd (cc)

-- octets of whole encodings are parsed unchanged
pub elements_parsed : (octets : List ℕ) → ∥ AreElements octets ∥₁ → length octets < 2 ^ 32 → (rules : EncodingRules) (p : ℕ) → parse_elements rules p octets ≡ Ok octets
elements_parsed octets elements fits rules p =
    let parse = parse_all_items parse_any Der 0 octets in
    kept_as_they_came octets parse (∥∥₁_elim elements (hlevel props) (λ are. ap is_ok ((items_format any_form).parse_of_accepted Der are.value 0 octets are.accepted fits)))

-- empty octets are parsed unchanged
pub none_parsed : (rules : EncodingRules) (p : ℕ) → parse_elements rules p [] ≡ Ok []
none_parsed rules p = ap (λ r. as_they_came [] (join_encodings r)) (parse_each-end 0 parse_any Der 0)

-- no error is that memory ran out
pub fault_alone : {A : Type 0} (parsed : Result A ErrorKind) (kind : ErrorKind) → Faults false false parsed kind → Faults false true parsed kind
fault_alone parsed kind (inl out) = let never : false ≡ true = out.takes in absurd (cc)
fault_alone parsed kind (inr fault) = inr fault

pub elements_of_octets : (rules : EncodingRules) (p : ℕ) (octets : List ℕ) → IsOfOctets (parse_elements rules p octets)
elements_of_octets rules p octets = kept_of_octets octets (parse_all_items parse_any Der 0 octets) ((items_format any_form).faults_of_octets Der 0 octets)

-- ---- the first tag

first_of_none : first_tag [] ≡ None
unfolding read_header read_tag
first_of_none = refl

first_of_one : (t : Tag) (c others : List ℕ) → IsTag t → length c < 2 ^ 32 → first_tag (tlv t c ++ others) ≡ Some t
first_of_one t c others is_tag short =
    let head = header_octets t (length c) in
    ap first_tag (append_assoc head c others) ∙ ap tag_of_header (read_header-octets t (length c) 0 (c ++ others) is_tag short)

begins_with_one : (t : Tag) (c others : List ℕ) → IsTag t → BeginsWithTag t (tlv t c ++ others)
begins_with_one t c others is_tag = record {
  others = (length_octets (length c) ++ c) ++ others;
  octets_are = ap (λ o. o ++ others) (append_assoc (identifier t) (length_octets (length c)) c) ∙ append_assoc (identifier t) (length_octets (length c) ++ c) others;
  is_tag = is_tag;
}

-- the octets of elements begin with the tag of the first
begins : (vs : List AnyRef) (octets : List ℕ) → AcceptsEach (any_form.accepts Der) vs octets → BeginsWithFirst (first_tag octets) octets
begins [] octets none = subst (λ o. BeginsWithFirst (first_tag o) o) (sym none) (subst (λ first. BeginsWithFirst first []) (sym first_of_none) refl)
begins (v ∷ vs) octets (first, others, all, ((is_tag, own), some), rest) =
    let whole : octets ≡ tlv v.tag v.value.now ++ others = all ∙ ap (λ o. o ++ others) own in
    let tag = first_of_one v.tag v.value.now others is_tag v.short in
    subst (λ o. BeginsWithFirst (first_tag o) o) (sym whole) (subst (λ first. BeginsWithFirst first (tlv v.tag v.value.now ++ others)) (sym tag) (begins_with_one v.tag v.value.now others is_tag))

begins_rebuilt : (t : Tag) (octets : List ℕ) → BeginsWithTag t octets → octets ≡ identifier t ++ drop (length (identifier t)) octets
begins_rebuilt t octets b = b.octets_are ∙ ap (λ o. identifier t ++ o) (sym (ap (drop (length (identifier t))) b.octets_are ∙ drop-append_seam (identifier t) b.others))

module _ (octets : List ℕ) (elements : ∥ AreElements octets ∥₁) where
  begins_with : (first : Option Tag) → first_tag octets ≡ first → BeginsWithFirst first octets
  begins_with None e = ∥∥₁_elim elements (hlevel props) (λ are. subst (λ first. BeginsWithFirst first octets) e (begins are.value octets are.accepted))
  begins_with (Some t) e = record {
    others = drop (length (identifier t)) octets;
    octets_are = ∥∥₁_elim elements (hlevel props) (λ are. begins_rebuilt t octets (subst (λ first. BeginsWithFirst first octets) e (begins are.value octets are.accepted)));
    is_tag = ∥∥₁_elim elements (hlevel props) (λ are. let b : BeginsWithTag t octets = subst (λ first. BeginsWithFirst first octets) e (begins are.value octets are.accepted) in b.is_tag);
  }

  pub begins_with_first : BeginsWithFirst (first_tag octets) octets
  begins_with_first = begins_with (first_tag octets) refl

starts : (first : Option Tag) (octets : List ℕ) → BeginsWithFirst first octets → Starts first octets
starts None octets none = none
starts (Some t) octets b = record { others = b.others; octets_are = b.octets_are }

pub starts_with_first : (octets : List ℕ) → ∥ AreElements octets ∥₁ → Starts (first_tag octets) octets
starts_with_first octets elements = starts (first_tag octets) octets (begins_with_first octets elements)
