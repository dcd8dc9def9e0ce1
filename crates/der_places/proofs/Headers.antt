-- The header at an offset is read there.
use Rattle.std.proofs.Common.{◌≡◌, ℕ, ◌+◌, ◌-◌, ◌<◌, ◌≤◌, ◌^◌, ◌++◌, List, Bool, true, false, length, take, drop, Option, Some, None, Result, Ok, Err, sym, ap, ◌∙◌, arith, subst, append_assoc}
use Rattle.std.proofs.lemmas.List.{length-append, take_all}
use Rattle.std.proofs.Math.Seq.{drop-append_seam}
use Rattle.der_tlv.specs.declared.encoding_rules.EncodingRules.TheVariants.{Der}
use Rattle.der_tlv.specs.declared.error.ErrorKind.{ErrorKind}
use Rattle.der_tlv.specs.declared.header.Header.{Header}
use Rattle.der_tlv.specs.HeaderLaws.{read_header-octets}
use Rattle.der_tlv.specs.HeaderOctets.{header_octets}
use Rattle.der_tlv.specs.HeaderReading.{read_header, header, octets_of}
use Rattle.der_tlv.specs.ReaderState.{ReaderState, new_reader, after_read, rest, unless_failed}
use Rattle.der_places.specs.declared.place.Place.{Place}
use Rattle.der_places.specs.declared.walk.Sizes.{Sizes}
use Rattle.der_places.specs.Walking.{StandAt, IsEncoding, EntersContents, FindsHeader, Follows, HasSizes, HoldsContents, Measures}

-- the end of an encoding is an offset that a length can count
counted : (octets : List ℕ) (n : ℕ) (own : List ℕ) → StandAt octets n own → n + length own < 2 ^ 32
counted octets n own s =
    let l1 = ap length s.octets_are ∙ length-append s.before (own ++ s.after) in
    let l2 = length-append own s.after in
    let at = s.offset_is in
    let fits = s.fits in
    omega arith

own_length : (own : List ℕ) (e : IsEncoding own) → length own ≡ length (header_octets e.tag (length e.contents)) + length e.contents
own_length own e = ap length e.octets_are ∙ length-append (header_octets e.tag (length e.contents)) e.contents

header_there : (octets : List ℕ) (p n : ℕ) (own : List ℕ) (e : IsEncoding own) → StandAt octets n own → read_header p (drop n (take (length octets) octets)) ≡ Ok (length (header_octets e.tag (length e.contents)), header e.tag (length e.contents))
header_there octets p n own e s =
    let head = header_octets e.tag (length e.contents) in
    let whole : take (length octets) octets ≡ octets = take_all (length octets) octets (omega arith) in
    let behind : drop n octets ≡ own ++ s.after = ap (drop n) s.octets_are ∙ ap (λ k. drop k (s.before ++ (own ++ s.after))) (sym s.offset_is) ∙ drop-append_seam s.before (own ++ s.after) in
    let regroup : own ++ s.after ≡ head ++ (e.contents ++ s.after) = ap (λ o. o ++ s.after) e.octets_are ∙ append_assoc head e.contents s.after in
    let all = counted octets n own s in
    let parts = own_length own e in
    let short : length e.contents < 2 ^ 32 = omega arith in
    ap (λ o. read_header p (drop n o)) whole ∙ ap (read_header p) (behind ∙ regroup) ∙ read_header-octets e.tag (length e.contents) p (e.contents ++ s.after) e.is_tag short

-- the header in a result of reading, if it is one
abbrev header_of : Result (ℕ × Header) ErrorKind → Option Header
header_of (Ok (n, h)) = Some h
header_of (Err k) = None

at_start : (octets : List ℕ) (offset n : ℕ) (old state : ReaderState) → old ≡ new_reader octets Der → n ≡ offset → state ≡ after_read old n → state ≡ after_read (new_reader octets Der) offset
at_start octets offset n old state e f g = g ∙ ap (λ r. after_read r n) e ∙ ap (after_read (new_reader octets Der)) f

read_there : (octets : List ℕ) (offset : ℕ) (state : ReaderState) → state ≡ after_read (new_reader octets Der) offset → (own : List ℕ) (e : IsEncoding own) → StandAt octets offset own → unless_failed read_header state ≡ Ok (length (header_octets e.tag (length e.contents)), header e.tag (length e.contents))
read_there octets offset state at own e s =
    let zero_first : 0 + offset ≡ offset = omega arith in
    ap (unless_failed read_header) at ∙ ap (λ k. read_header k (drop k (take (length octets) octets))) zero_first ∙ header_there octets offset offset own e s

-- the header that was read
pub found : (octets : List ℕ) (offset n m : ℕ) (old state : ReaderState) (h : Header) → old ≡ new_reader octets Der → n ≡ offset → state ≡ after_read old n → read_header state.position (rest state) ≡ Ok (m, h) → FindsHeader octets offset (Some h)
found octets offset n m old state h e f g parsed own one s =
    let at = at_start octets offset n old state e f g in
    let moved : read_header state.position (rest state) ≡ unless_failed read_header state = ap (λ r. read_header r.position (rest r)) at ∙ sym (ap (unless_failed read_header) at) in
    ap header_of (sym parsed ∙ moved ∙ read_there octets offset state at own one s)

-- reading the header cannot fail
pub not_refused : (octets : List ℕ) (offset n : ℕ) (old state : ReaderState) (k : ErrorKind) → old ≡ new_reader octets Der → n ≡ offset → state ≡ after_read old n → unless_failed read_header state ≡ Err k → FindsHeader octets offset None
not_refused octets offset n old state k e f g refused own one s =
    let there = read_there octets offset state (at_start octets offset n old state e f g) own one s in
    ap header_of (sym refused ∙ there)

-- the header that was found
header_is : (h : Header) (own : List ℕ) (e : IsEncoding own) → Some h ≡ Some (header e.tag (length e.contents)) → h ≡ header e.tag (length e.contents)
header_is h own e same = ap (held h) same
  where
    held : Header → Option Header → Header
    held default None = default
    held default (Some g) = g

-- the sizes in the header that was found
pub found_sizes : (octets : List ℕ) (offset : ℕ) (h : Header) (sizes : Sizes) → FindsHeader octets offset (Some h) → sizes.header ≡ length (octets_of h) → sizes.contents ≡ h.length → HasSizes octets offset sizes
found_sizes octets offset h sizes finds head contents own e s =
    let same : h ≡ header e.tag (length e.contents) = header_is h own e (finds own e s) in
    (head ∙ ap (λ g. length (octets_of g)) same, contents ∙ ap (λ (g : Header). g.length) same)

-- if no header is found, no encoding is at the offset
none_there : {A : Type 0} (octets : List ℕ) (offset : ℕ) → FindsHeader octets offset None → (own : List ℕ) → IsEncoding own → StandAt octets offset own → A
none_there octets offset finds own e s = absurd (subst told (finds own e s) tt)
  where
    told : Option Header → Type 0
    told None = Unit {0}
    told (Some h) = ⊥

pub no_sizes : (octets : List ℕ) (offset : ℕ) (sizes : Sizes) → FindsHeader octets offset None → HasSizes octets offset sizes
no_sizes octets offset sizes finds own e s = none_there octets offset finds own e s

-- the number of octets in the encoding at an offset, by its sizes
pub measured : (octets : List ℕ) (offset : ℕ) (sizes : Sizes) (count : ℕ) → HasSizes octets offset sizes → (sizes.header + sizes.contents < 2 ^ 32 → count ≡ sizes.header + sizes.contents) → Measures octets offset count
measured octets offset sizes count has counts own e s =
    let (head, contents) = has own e s in
    let parts = own_length own e in
    let all = counted octets offset own s in
    let fits : sizes.header + sizes.contents < 2 ^ 32 = omega arith in
    let is = counts fits in
    omega arith

-- the empty byte range after the header of the encoding at an offset
pub entering : (octets : List ℕ) (offset : ℕ) (sizes : Sizes) (place : Place) → HasSizes octets offset sizes → (offset + sizes.header < 2 ^ 32 → place.offset ≡ offset + sizes.header) → place.length ≡ 0 → EntersContents octets offset place
entering octets offset sizes place has begins none own e s =
    let (head, contents) = has own e s in
    let parts = own_length own e in
    let all = counted octets offset own s in
    let fits : offset + sizes.header < 2 ^ 32 = omega arith in
    (begins fits ∙ ap (λ k. offset + k) head, none)

-- the byte range of the contents octets of the encoding at a byte range
pub holding : (octets : List ℕ) (place contents : Place) (sizes : Sizes) → HasSizes octets place.offset sizes → (place.offset + sizes.header < 2 ^ 32 → contents.offset ≡ place.offset + sizes.header) → contents.length ≡ sizes.contents → HoldsContents octets place contents
holding octets place contents sizes has begins is own e s l =
    let (head, count) = has own e s in
    let parts = own_length own e in
    let all = counted octets place.offset own s in
    let fits : place.offset + sizes.header < 2 ^ 32 = omega arith in
    (begins fits ∙ ap (λ k. place.offset + k) head, is ∙ count)

-- the byte range of the field after another, if it is present and if it is absent
pub present : (octets : List ℕ) (last place : Place) (end : ℕ) → (last.offset + last.length < 2 ^ 32 → end ≡ last.offset + last.length) → Measures octets end place.length → place.offset ≡ end → Follows octets last true place
present octets last place end ends measures at own is_field s =
    let all = counted octets (last.offset + last.length) own s in
    let fits : last.offset + last.length < 2 ^ 32 = omega arith in
    let is_end = ends fits in
    (at ∙ is_end, measures own is_field (subst (λ k. StandAt octets k own) (sym is_end) s))

pub absent : (octets : List ℕ) (last place : Place) (end : ℕ) → (last.offset + last.length < 2 ^ 32 → end ≡ last.offset + last.length) → place.offset ≡ end → place.length ≡ 0 → Follows octets last false place
absent octets last place end ends at none own is_field s =
    let all = counted octets (last.offset + last.length) own s in
    let fits : last.offset + last.length < 2 ^ 32 = omega arith in
    (at ∙ ends fits, none ∙ sym (ap length is_field))

-- the byte range of the field, if a test returned whether it is present
pub either : (octets : List ℕ) (last place : Place) (b d : Bool) → d ≡ b → Follows octets last b place → Follows octets last d place
either octets last place b d e follows = subst (λ x. Follows octets last x place) (sym e) follows
