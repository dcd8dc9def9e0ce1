-- The fields of a value that was read are at the byte ranges that the walk over their headers returns.
use Rattle.std.proofs.Common.{◌≡◌, ℕ, ◌+◌, ◌++◌, List, [], ◌∷◌, Bool, true, false, not, length, take, drop, Option, Some, None, refl, sym, ap, ◌∙◌, arith, subst, append_assoc}
use Rattle.std.specs.Prelude.{option_map}
use Rattle.std.proofs.lemmas.List.{length-append, append-nil, take-append-drop}
use Rattle.der_tlv.specs.declared.tag.Tag.{Tag}
use Rattle.der_tlv.specs.HeaderOctets.{header_octets, tlv}
use Rattle.der_tlv.specs.TagParts.{IsTag}
use Rattle.der_elem.specs.Accepting.{Fits}
use Rattle.der_elem.specs.Options.{accepts_option}
use Rattle.der_fields.specs.Defaults.{accepts_unless}
use Rattle.der_fields.specs.FieldLists.{AcceptsField}
use Rattle.der_places.specs.declared.place.Place.{Place}
use Rattle.der_places.specs.Walking.{StandAt, IsEncoding, IsField, EntersContents, Follows, HoldsContents, Walked}
use Rattle.der_places.specs.Layout.{Layout, no_more, part, is_there, reads_optional, reads_unless, presence, AreFields, Encodes, Front, Stands, Laid, LaidOut, LaidAt, LaidInside}

-- ---- the offsets of fields that are one after another

-- the offset of the front of octets
pub front_stands : (octets : List ℕ) (n : ℕ) (own front behind : List ℕ) → own ≡ front ++ behind → StandAt octets n own → StandAt octets n front
front_stands octets n own front behind e s = record {
  before = s.before;
  after = behind ++ s.after;
  octets_are = s.octets_are ∙ ap (λ o. s.before ++ (o ++ s.after)) e ∙ ap (λ o. s.before ++ o) (append_assoc front behind s.after);
  offset_is = s.offset_is;
  fits = s.fits;
}

-- the offset of the octets after the front
pub rest_stands : (octets : List ℕ) (n m : ℕ) (own front behind : List ℕ) → own ≡ front ++ behind → n + length front ≡ m → StandAt octets n own → StandAt octets m behind
rest_stands octets n m own front behind e count s = record {
  before = s.before ++ front;
  after = s.after;
  octets_are = s.octets_are ∙ ap (λ o. s.before ++ (o ++ s.after)) e ∙ ap (λ o. s.before ++ o) (append_assoc front behind s.after) ∙ sym (append_assoc s.before front (behind ++ s.after));
  offset_is = length-append s.before front ∙ ap (λ k. k + length front) s.offset_is ∙ count;
  fits = s.fits;
}

-- the byte ranges that a walk finds are those of the fields
pub laid_by_walk : (fields : Layout) (octets : List ℕ) (last : Place) (places : List Place) (own : List ℕ) → AreFields fields own → StandAt octets (last.offset + last.length) own → Walked octets last (presence fields) places → Laid fields (last.offset + last.length) places own
laid_by_walk no_more octets last places own are s walked = (walked, are)
laid_by_walk (part there reads others) octets last [] own are s walked = absurd walked
laid_by_walk (part there reads others) octets last (place ∷ places) own are s (follows, walked) =
    let n = last.offset + last.length in
    let found = follows are.front are.is_field (front_stands octets n own are.front are.behind are.octets_are s) in
    let count : n + length are.front ≡ place.offset + place.length = ap (λ k. k + length are.front) (sym found.0) ∙ ap (λ k. place.offset + k) (sym found.1) in
    record {
      front = are.front;
      behind = are.behind;
      octets_are = are.octets_are;
      offset_is = found.0;
      length_is = found.1;
      read = are.read;
      rest = laid_by_walk others octets place places are.behind are.rest (rest_stands octets n (place.offset + place.length) own are.front are.behind are.octets_are count s) walked;
    }

-- the byte ranges of the fields after their header
pub laid_out : (fields : Layout) (octets : List ℕ) (offset : ℕ) (start : Place) (places : List Place) → EntersContents octets offset start → Walked octets start (presence fields) places → (own : List ℕ) → Encodes fields own → StandAt octets offset own → LaidOut fields offset places own
laid_out fields octets offset start places enters walked own e s =
    let head = header_octets e.tag (length e.contents) in
    let found = enters own (record { tag = e.tag; contents = e.contents; octets_are = e.octets_are; is_tag = e.is_tag }) s in
    let count : offset + length head ≡ start.offset + start.length = sym (ap (λ k. start.offset + k) found.1 ∙ omega arith ∙ found.0) in
    record {
      header = head;
      contents = e.contents;
      octets_are = e.octets_are;
      laid = subst (λ k. Laid fields k places e.contents) (sym count) (laid_by_walk fields octets start places e.contents e.are_fields (rest_stands octets offset (start.offset + start.length) own head e.contents e.octets_are count s) walked);
    }

-- all octets are at offset 0
pub whole_stands : (octets : List ℕ) → Fits octets → StandAt octets 0 octets
whole_stands octets fits = record { before = []; after = []; octets_are = sym (append-nil octets); offset_is = refl; fits = fits }

-- the octets at the front are at offset 0
pub front_of_all : (octets : List ℕ) (n : ℕ) → Fits octets → StandAt octets 0 (take n octets)
front_of_all octets n fits = record { before = []; after = drop n octets; octets_are = sym (take-append-drop n octets); offset_is = refl; fits = fits }

-- the byte ranges of the fields of the first field
pub first_laid : (there : Bool) (reads : List ℕ → Type 0) (others inner : Layout) (octets own : List ℕ) (offset : ℕ) (place : Place) (behind places : List Place) → LaidOut (part there reads others) offset (place ∷ behind) own → StandAt octets offset own → ((o : List ℕ) → reads o → StandAt octets place.offset o → LaidOut inner place.offset places o) → LaidAt inner octets place places
first_laid there reads others inner octets own offset place behind places outer s laid =
    let first = outer.laid in
    let contents = rest_stands octets offset (offset + length outer.header) own outer.header outer.contents outer.octets_are refl s in
    let front = front_stands octets (offset + length outer.header) outer.contents first.front first.behind first.octets_are contents in
    let stands = subst (λ k. StandAt octets k first.front) (sym first.offset_is) front in
    record { own = first.front; stands = stands; length_is = first.length_is; laid = laid first.front first.read stands }

-- the offset of the octets after a field
pub behind_stands : (octets : List ℕ) (before : ℕ) (reads : List ℕ → Type 0) (place : Place) (others : List ℕ → Type 0) (own : List ℕ) (field : Stands reads before place others own) → StandAt octets before own → StandAt octets (place.offset + place.length) field.behind
behind_stands octets before reads place others own field s =
    let at = field.offset_is in
    let lasts = field.length_is in
    rest_stands octets before (place.offset + place.length) own field.front field.behind field.octets_are (omega arith) s

-- the byte ranges of the fields of the third field
pub third_laid : (one two three : Bool) (first second third : List ℕ → Type 0) (others inner : Layout) (octets own : List ℕ) (offset : ℕ) (before middle place : Place) (behind places : List Place) → LaidOut (part one first (part two second (part three third others))) offset (before ∷ middle ∷ place ∷ behind) own → StandAt octets offset own → ((o : List ℕ) → third o → StandAt octets place.offset o → LaidOut inner place.offset places o) → LaidAt inner octets place places
third_laid one two three first second third others inner octets own offset before middle place behind places outer s laid =
    let n = offset + length outer.header in
    let contents = rest_stands octets offset n own outer.header outer.contents outer.octets_are refl s in
    let field = outer.laid in
    let next = field.rest in
    let last = next.rest in
    let after = behind_stands octets n first before (Laid (part two second (part three third others)) (before.offset + before.length) (middle ∷ place ∷ behind)) outer.contents field contents in
    let there = behind_stands octets (before.offset + before.length) second middle (Laid (part three third others) (middle.offset + middle.length) (place ∷ behind)) field.behind next after in
    let front = front_stands octets (middle.offset + middle.length) next.behind last.front last.behind last.octets_are there in
    let stands = subst (λ k. StandAt octets k last.front) (sym last.offset_is) front in
    record { own = last.front; stands = stands; length_is = last.length_is; laid = laid last.front last.read stands }

-- what holds of the second field at the byte range where it was found
pub second_given : {A : Type 0} (one two : Bool) (first second : List ℕ → Type 0) (others : Layout) (octets own : List ℕ) (offset : ℕ) (before place : Place) (behind : List Place) → LaidOut (part one first (part two second others)) offset (before ∷ place ∷ behind) own → StandAt octets offset own → ((o : List ℕ) → second o → StandAt octets place.offset o → place.length ≡ length o → A) → A
second_given one two first second others octets own offset before place behind outer s given =
    let n = offset + length outer.header in
    let contents = rest_stands octets offset n own outer.header outer.contents outer.octets_are refl s in
    let field = outer.laid in
    let next = field.rest in
    let after = behind_stands octets n first before (Laid (part two second others) (before.offset + before.length) (place ∷ behind)) outer.contents field contents in
    let front = front_stands octets (before.offset + before.length) field.behind next.front next.behind next.octets_are after in
    given next.front next.read (subst (λ k. StandAt octets k next.front) (sym next.offset_is) front) next.length_is

-- the byte ranges of the fields of an encoding that is the contents octets of another
pub laid_inside : (fields : Layout) (octets own contents front behind : List ℕ) (tag : Tag) (outer inner : Place) (places : List Place) → IsTag tag → own ≡ tlv tag contents → contents ≡ front ++ behind → behind ≡ [] → StandAt octets outer.offset own → outer.length ≡ length own → HoldsContents octets outer inner → (StandAt octets inner.offset front → LaidOut fields inner.offset places front) → LaidInside fields octets outer places
laid_inside fields octets own contents front behind tag outer inner places is_tag octets_are parts none s count holds laid =
    let head = header_octets tag (length contents) in
    let held = holds own (record { tag = tag; contents = contents; octets_are = octets_are; is_tag = is_tag }) s count in
    let whole : contents ≡ front = parts ∙ ap (λ o. front ++ o) none ∙ append-nil front in
    let inside = rest_stands octets outer.offset inner.offset own head contents octets_are (sym held.0) s in
    let stands = subst (λ o. StandAt octets inner.offset o) whole inside in
    record {
      inner = inner;
      within = holds;
      laid = record { own = front; stands = stands; length_is = held.1 ∙ ap length whole; laid = laid stands };
    }

-- the byte range of a field is the same if the code or the value determines that it is present
pub told : (octets : List ℕ) (last place : Place) (b d : Bool) → b ≡ d → Follows octets last b place → Follows octets last d place
told octets last place b d e follows = subst (λ x. Follows octets last x place) e follows

-- ---- accepted octets are one field after another

-- an accepted field is at the front, and the fields after it follow
pub first_of : {T U : Type 0} {tags : Tag → Bool} {first_tag next : Option Tag} {accepts : T → List ℕ → Type 0} {accepts_rest : U → List ℕ → Type 0} {v : T} {w : U} {octets : List ℕ} {there : Bool} {reads others : List ℕ → Type 0} (a : AcceptsField tags first_tag next accepts accepts_rest v w octets) → IsField there a.front × reads a.front → others a.others → Front there reads others octets
first_of a one rest = record { front = a.front; behind = a.others; octets_are = a.octets_are; is_field = one.0; read = one.1; rest = rest }

-- an encoding with this tag and these contents octets
pub is_encoding : (tag : Tag) → IsTag tag → (own contents : List ℕ) → own ≡ tlv tag contents → IsEncoding own
is_encoding tag is_tag own contents e = record { tag = tag; contents = contents; octets_are = e; is_tag = is_tag }

-- a field that may be absent, and is wrapped in another value
pub maybe : {S T : Type 0} (held : S → T) (accepts : S → List ℕ → Type 0) (reads : T → List ℕ → Type 0) → ((s : S) (o : List ℕ) → accepts s o → IsEncoding o × reads (held s) o) → (o : Option S) (octets : List ℕ) → accepts_option accepts o octets → IsField (is_there (option_map held o)) octets × reads_optional reads (option_map held o) octets
maybe held accepts reads one None octets a = (a, a)
maybe held accepts reads one (Some s) octets a = one s octets a

-- a field that may be absent, and is not wrapped
pub perhaps : {T : Type 0} (reads : T → List ℕ → Type 0) → ((s : T) (o : List ℕ) → reads s o → IsEncoding o) → (o : Option T) (octets : List ℕ) → accepts_option reads o octets → IsField (is_there o) octets × reads_optional reads o octets
perhaps reads one None octets a = (a, a)
perhaps reads one (Some s) octets a = (one s octets a, a)

-- a field with a default
pub besides : (is_default : Bool) (readable : Type 0) (reads : List ℕ → Type 0) → ((o : List ℕ) → reads o → IsEncoding o) → (o : List ℕ) → accepts_unless is_default readable reads o → IsField (not is_default) o × reads_unless is_default reads o
besides true readable reads one o a = (a.0, a.0)
besides false readable reads one o a = (one o a, a)
