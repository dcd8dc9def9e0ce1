-- The alternative that has the next tag is read: the first, or the other if the tag is none of the first's.
use Rattle.std.proofs.Common.{◌≡◌, ℕ, List, ◌++◌, length, take, drop, Bool, true, false, Option, Some, Ok, sym, ap, ◌∙◌, append_assoc, subst}
use Rattle.std.proofs.lemmas.List.{take-append-drop}
use Rattle.der_tlv.specs.declared.tag.Tag.{Tag}
use Rattle.der_tlv.specs.HeaderReading.{read_tag}
use Rattle.der_tlv.specs.Identifier.{identifier}
use Rattle.der_tlv.specs.IdentifierLaws.{identifier-unique}
use Rattle.der_tlv.specs.ReaderState.{ReaderState, after_read, rest}
use Rattle.der_tlv.specs.Reading.{HeadSeen}
use Rattle.der_elem.specs.declared.form.Form as form
use Rattle.der_elem.specs.Decoding.{Decoded}
use Rattle.der_elem.specs.FirstTags.{BeginsWithTag, BeginsWithFirst}
use Rattle.der_fields.specs.Alternatives.{TagIs, parse_one}

-- the next tag is the one that the front begins with
pub same_tag : (octets : List ℕ) (t u : Tag) (n : ℕ) → take (length (identifier t)) octets ≡ identifier t → BeginsWithTag u (take n octets) → t ≡ u
same_tag octets t u n e l =
    let f : identifier t ++ drop (length (identifier t)) octets ≡ octets = ap (λ o. o ++ drop (length (identifier t)) octets) (sym e) ∙ take-append-drop (length (identifier t)) octets in
    let h : octets ≡ identifier u ++ (l.others ++ drop n octets) = sym (take-append-drop n octets) ∙ ap (λ o. o ++ drop n octets) l.octets_are ∙ append_assoc (identifier u) l.others (drop n octets) in
    (identifier-unique t u _ _ (f ∙ h)).0

-- the tests give the same results for the next tag and for the tag that was read
tag_is_next : (tags : Tag → Bool) (one : Bool) (octets : List ℕ) (t u : Tag) (n : ℕ) (first_tag : Option Tag) → take (length (identifier t)) octets ≡ identifier t → tags t ≡ one → first_tag ≡ Some u → BeginsWithFirst first_tag (take n octets) → TagIs tags one first_tag
tag_is_next tags one octets t u n first_tag e h is l =
    let same = same_tag octets t u n e (subst (λ first_tag. BeginsWithFirst first_tag (take n octets)) is l) in
    subst (TagIs tags one) (sym is) (ap tags (sym same) ∙ h)

-- the CHOICE that reading the first alternative gives
pub record FirstRead {A B : Type 0} (F : form.Ghosts A) (G : form.Ghosts B) (old new : ReaderState) (v : A) : Type 0 where
  pub taken : ℕ
  pub ready : old.failed ≡ false
  pub parsed : parse_one F.tags G.tags F.parse G.parse old.rules old.position (rest old) ≡ Ok (taken, F.encoding v)
  pub accepted : F.accepts old.rules v (take taken (rest old)) × TagIs F.tags true (F.first_tag_of v)
  pub after : new ≡ after_read old taken

pub first_read : {A B : Type 0} (F : form.Ghosts A) (G : form.Ghosts B) (old seen_at new : ReaderState) (v : A) (t u : Tag) → HeadSeen read_tag (identifier t) old seen_at t → F.tags t ≡ true → F.first_tag_of v ≡ Some u → Decoded F seen_at new v → FirstRead F G old new v
first_read F G old seen_at new v t u seen own is read' =
    let read : Decoded F old new v = subst (λ s. Decoded F s new v) seen.after read' in
    record {
      taken = read.taken;
      ready = read.ready;
      parsed = rw (seen.parsed, own) read.parsed;
      accepted = (read.accepted, tag_is_next F.tags true (rest old) t u read.taken (F.first_tag_of v) seen.taken own is (F.begins_first old.rules v (take read.taken (rest old)) read.accepted));
      after = read.after;
    }

-- the CHOICE that reading the other alternative gives
pub record OtherRead {A B : Type 0} (F : form.Ghosts A) (G : form.Ghosts B) (old new : ReaderState) (w : B) : Type 0 where
  pub taken : ℕ
  pub ready : old.failed ≡ false
  pub parsed : parse_one F.tags G.tags F.parse G.parse old.rules old.position (rest old) ≡ Ok (taken, G.encoding w)
  pub accepted : G.accepts old.rules w (take taken (rest old)) × TagIs F.tags false (G.first_tag_of w)
  pub after : new ≡ after_read old taken

pub other_read : {A B : Type 0} (F : form.Ghosts A) (G : form.Ghosts B) (old seen_at new : ReaderState) (w : B) (t u : Tag) → HeadSeen read_tag (identifier t) old seen_at t → F.tags t ≡ false → G.tags t ≡ true → G.first_tag_of w ≡ Some u → Decoded G seen_at new w → OtherRead F G old new w
other_read F G old seen_at new w t u seen none own is read' =
    let read : Decoded G old new w = subst (λ s. Decoded G s new w) seen.after read' in
    record {
      taken = read.taken;
      ready = read.ready;
      parsed = rw (seen.parsed, none, own) read.parsed;
      accepted = (read.accepted, tag_is_next F.tags false (rest old) t u read.taken (G.first_tag_of w) seen.taken none is (G.begins_first old.rules w (take read.taken (rest old)) read.accepted));
      after = read.after;
    }
