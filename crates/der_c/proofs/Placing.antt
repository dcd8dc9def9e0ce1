-- The fields of a value that was read, and the octets at their byte ranges.
use Rattle.std.proofs.Common.{◌≡◌, ℕ, zero, suc, ◌+◌, ◌<◌, ◌≤◌, ◌++◌, List, [], ◌∷◌, Option, None, Some, length, take, drop, refl, sym, ap, ◌∙◌, arith, subst}
use Rattle.std.proofs.lemmas.List.{length-append, length-drop, length-take-le, take-append-drop}
use Rattle.std.proofs.Math.Seq.{drop-append_seam, take-append_seam}
use Rattle.der_tlv.specs.declared.encoding_rules.EncodingRules.TheVariants.{Der}
use Rattle.der_tlv.specs.declared.tag.Tag.{Tag}
use Rattle.der_tlv.specs.HeaderOctets.{tlv}
use Rattle.der_elem.specs.Accepting.{Fits}
use Rattle.der_elem.specs.OrderLaws.{length-tlv-positive}
use Rattle.der_elem.specs.declared.form.Form as form
use Rattle.der_places.specs.declared.place.Place.{Place}
use Rattle.der_places.specs.Layout.{Layout, no_more, part, reads_optional, Laid, LaidOut}
use Rattle.der_places.specs.LayoutLaws.{behind_stands, front_stands, rest_stands}
use Rattle.der_places.specs.Walking.{StandAt}
use Rattle.der_c.specs.Building.{IsWithin, octets_at}
use Rattle.der_c.specs.ChainPlaces.{Holds, HoldsIfThere}

-- octets are at a byte range, and read
pub record Given (reads : List ℕ → Type 0) (octets : List ℕ) (place : Place) : Type 0 where
  pub own : List ℕ
  pub stands : StandAt octets place.offset own
  pub length_is : place.length ≡ length own
  pub read : reads own

-- the field at an index
abbrev pub nth_reads : ℕ → Layout → List ℕ → Type 0
nth_reads n no_more = λ octets. ⊥
nth_reads zero (part there reads others) = reads
nth_reads (suc n) (part there reads others) = nth_reads n others

abbrev pub nth_place : ℕ → List Place → Place
nth_place n [] = record { offset = 0; length = 0 }
nth_place zero (place ∷ places) = place
nth_place (suc n) (place ∷ places) = nth_place n places

abbrev pub HasNth : ℕ → Layout → Type 0
HasNth n no_more = ⊥
HasNth zero (part there reads others) = Unit {0}
HasNth (suc n) (part there reads others) = HasNth n others

pub given_laid : (n : ℕ) (fields : Layout) (octets : List ℕ) (before : ℕ) (places : List Place) (own : List ℕ) → HasNth n fields → Laid fields before places own → StandAt octets before own → Given (nth_reads n fields) octets (nth_place n places)
given_laid n no_more octets before places own has laid s = absurd has
given_laid zero (part there reads others) octets before [] own has laid s = absurd laid
given_laid (suc n) (part there reads others) octets before [] own has laid s = absurd laid
given_laid zero (part there reads others) octets before (place ∷ places) own has laid s = record {
  own = laid.front;
  stands = subst (λ k. StandAt octets k laid.front) (sym laid.offset_is) (front_stands octets before own laid.front laid.behind laid.octets_are s);
  length_is = laid.length_is;
  read = laid.read;
}
given_laid (suc n) (part there reads others) octets before (place ∷ places) own has laid s = given_laid n others octets (place.offset + place.length) places laid.behind has laid.rest (behind_stands octets before reads place (Laid others (place.offset + place.length) places) own laid s)

pub given_out : (n : ℕ) (fields : Layout) (octets : List ℕ) (offset : ℕ) (places : List Place) (own : List ℕ) → HasNth n fields → LaidOut fields offset places own → StandAt octets offset own → Given (nth_reads n fields) octets (nth_place n places)
given_out n fields octets offset places own has out s =
    let n_before = offset + length out.header in
    given_laid n fields octets n_before places out.contents has out.laid (rest_stands octets offset n_before own out.header out.contents out.octets_are refl s)

-- the octets at the byte range are those
pub octets_there : (octets own : List ℕ) (place : Place) → StandAt octets place.offset own → place.length ≡ length own → octets_at octets place ≡ own
octets_there octets own place s e =
    let from : drop place.offset octets ≡ own ++ s.after = ap (λ k. drop k octets) (sym s.offset_is) ∙ ap (λ o. drop (length s.before) o) s.octets_are ∙ drop-append_seam s.before (own ++ s.after) in
    ap (λ o. take place.length o) from ∙ ap (λ k. take k (own ++ s.after)) e ∙ take-append_seam own s.after

pub within_there : (octets own : List ℕ) (place : Place) → StandAt octets place.offset own → place.length ≡ length own → IsWithin octets place
within_there octets own place s e some =
    let all : length octets ≡ length s.before + (length own + length s.after) = ap length s.octets_are ∙ length-append s.before (own ++ s.after) ∙ ap (λ k. length s.before + k) (length-append own s.after) in
    let before = s.offset_is in
    omega arith

-- a field that is read as a value
pub holds_given : {T : Type 0} (F : form.Ghosts T) (v : T) (octets : List ℕ) (place : Place) → Given (F.accepts Der v) octets place → Holds F octets place v
holds_given F v octets place given = record {
  within = within_there octets given.own place given.stands given.length_is;
  accepted = subst (F.accepts Der v) (sym (octets_there octets given.own place given.stands given.length_is)) given.read;
}

some_taken : (n : ℕ) (octets : List ℕ) → 0 < length (take n octets) → 0 < n
some_taken zero octets some = absurd (omega arith)
some_taken (suc n) octets some = omega arith

-- the octets at a byte range within the octets
pub stands_there : (octets : List ℕ) (place : Place) → Fits octets → IsWithin octets place → 0 < length (octets_at octets place) → StandAt octets place.offset (octets_at octets place)
stands_there octets place fits within some =
    let behind = drop place.offset octets in
    let inside = within (some_taken place.length behind some) in
    let few : place.offset ≤ length octets = omega arith in
    record {
      before = take place.offset octets;
      after = drop place.length behind;
      octets_are = sym (take-append-drop place.offset octets) ∙ ap (λ o. take place.offset octets ++ o) (sym (take-append-drop place.length behind));
      offset_is = length-take-le place.offset octets few;
      fits = fits;
    }

-- its length
pub length_there : (octets : List ℕ) (place : Place) → IsWithin octets place → 0 < length (octets_at octets place) → place.length ≡ length (octets_at octets place)
length_there octets place within some =
    let behind = drop place.offset octets in
    let inside = within (some_taken place.length behind some) in
    let left = length-drop place.offset octets in
    let few : place.length ≤ length behind = omega arith in
    sym (length-take-le place.length behind few)

-- a field that may be absent
pub holds_if_given : {T : Type 0} (F : form.Ghosts T) (o : Option T) (octets : List ℕ) (place : Place) → Given (reads_optional (F.accepts Der) o) octets place → HoldsIfThere F octets place o
holds_if_given F None octets place given = given.length_is ∙ ap length given.read
holds_if_given F (Some v) octets place given = holds_given F v octets place given

-- the encoding at a byte range
pub encoding_stands : (octets : List ℕ) (place : Place) (tag : Tag) (contents : List ℕ) → Fits octets → IsWithin octets place → octets_at octets place ≡ tlv tag contents → StandAt octets place.offset (octets_at octets place)
encoding_stands octets place tag contents fits within are = stands_there octets place fits within (subst (λ o. 0 < length o) (sym are) (length-tlv-positive tag contents))
