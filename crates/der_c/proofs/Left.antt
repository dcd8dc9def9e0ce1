-- The octets of a list that are left, and those at their front.
use Rattle.std.proofs.Common.{◌≡◌, ℕ, ◌+◌, ◌^◌, ◌<◌, ◌≤◌, ◌++◌, List, [], length, take, drop, sym, ap, subst, ◌∙◌, arith}
use Rattle.std.proofs.lemmas.List.{append-nil, length-append, length-drop, length-take-le, take-append-drop}
use Rattle.std.proofs.Math.Seq.{drop-append_seam, take-append_seam}
use Rattle.der_elem.specs.Accepting.{Fits}
use Rattle.der_elem.specs.declared.form.Form as form
use Rattle.der_places.specs.Layout.{LaidOut, Layout}
use Rattle.der_places.specs.LayoutLaws.{front_of_all, front_stands}
use Rattle.der_places.specs.Walking.{StandAt}
use Rattle.der_places.specs.declared.place.Place.{Place}
use Rattle.der_c.specs.Answers.{FrontRead}
use Rattle.der_c.specs.Building.{octets_at}
use Rattle.der_c.specs.Items.{EndsWithin, FrontIs, IsBehind, LeftRead, NextGiven, ReadAt}

-- the end of what is left is one that a length can count
pub left_counted : (octets : List ℕ) (left : Place) → EndsWithin octets left → Fits octets → left.offset + left.length < 2 ^ 32
left_counted octets left within fits =
    let ends : left.offset + left.length ≤ length octets = within in
    let few : length octets < 2 ^ 32 = fits in
    omega arith

-- octets after as many octets as an offset counts
behind_offset : (octets : List ℕ) (n : ℕ) → n ≤ length octets → Fits octets → StandAt octets n (drop n octets)
behind_offset octets n within fits = record {
  before = take n octets;
  after = [];
  octets_are = sym (take-append-drop n octets) ∙ ap (λ o. take n octets ++ o) (sym (append-nil (drop n octets)));
  offset_is = length-take-le n octets within;
  fits = fits;
}

-- the octets at the front of what is left stand where it begins
pub left_stands : (octets : List ℕ) (left : Place) (taken : ℕ) → EndsWithin octets left → Fits octets → StandAt octets left.offset (take taken (octets_at octets left))
left_stands octets left taken within fits =
    let n = left.offset in
    let own = octets_at octets left in
    let ends : left.offset + left.length ≤ length octets = within in
    let begins : n ≤ length octets = omega arith in
    let all = behind_offset octets n begins fits in
    let some = front_stands octets n (drop n octets) own (drop left.length (drop n octets)) (sym (take-append-drop left.length (drop n octets))) all in
    front_stands octets n own (take taken own) (drop taken own) (sym (take-append-drop taken own)) some

-- what is left has as many octets as its length says
pub left_length : (octets : List ℕ) (left : Place) → EndsWithin octets left → length (octets_at octets left) ≡ left.length
left_length octets left within =
    let ends : left.offset + left.length ≤ length octets = within in
    let rest = length-drop left.offset octets in
    length-take-le left.length (drop left.offset octets) (omega arith)

-- the octets that were taken are as many
pub taken_counted : (octets : List ℕ) (left : Place) (taken : ℕ) → EndsWithin octets left → taken ≤ left.length → length (take taken (octets_at octets left)) ≡ taken
taken_counted octets left taken within some =
    length-take-le taken (octets_at octets left) (subst (λ k. taken ≤ k) (sym (left_length octets left within)) some)

-- a value that was read from the front of what is left stands at its byte range
pub front_at : {T : Type 0} {F : form.Ghosts T} {octets : List ℕ} {left : Place} {value : T} {place : Place} → FrontIs F octets left value place → ReadAt F octets place.offset value (take place.length (octets_at octets left))
front_at {octets = octets} {left = left} {place = place} front =
    let own = take place.length (octets_at octets left) in
    record { accepted = front.read.read.accepted; stands = subst (λ n. StandAt octets n own) (sym front.begins) (left_stands octets left place.length front.read.within front.read.fits) }

-- octets that stand at a byte range are those at it
pub octets_at_stands : (octets own : List ℕ) (place : Place) → StandAt octets place.offset own → place.length ≡ length own → octets_at octets place ≡ own
octets_at_stands octets own place s count =
    ap (λ n. take n (drop place.offset octets)) count
    ∙ ap (λ n. take (length own) (drop n octets)) (sym s.offset_is)
    ∙ ap (λ o. take (length own) (drop (length s.before) o)) s.octets_are
    ∙ ap (take (length own)) (drop-append_seam s.before (own ++ s.after))
    ∙ take-append_seam own s.after

-- and the byte range ends within the octets
pub stands_within : (octets own : List ℕ) (place : Place) → StandAt octets place.offset own → place.length ≡ length own → EndsWithin octets place
stands_within octets own place s count =
    let all = ap length s.octets_are ∙ length-append s.before (own ++ s.after) in
    let parts = length-append own s.after in
    let at = s.offset_is in
    let ends : place.offset + place.length ≤ length octets = omega arith in
    ends

-- a value that was read from the front of what is left is read from all octets at its byte range
pub read_at : {T : Type 0} {F : form.Ghosts T} {octets : List ℕ} {left : Place} {value : T} {place : Place} → FrontIs F octets left value place → ReadAt F octets place.offset value (octets_at octets place)
read_at {F = F} {octets = octets} {left = left} {value = value} {place = place} front =
    let own = take place.length (octets_at octets left) in
    let read = front_at front in
    let count = taken_counted octets left place.length front.read.within front.read.some in
    subst (λ o. ReadAt F octets place.offset value o) (sym (octets_at_stands octets own place read.stands (sym count))) read

-- the fields from an equal offset on
pub laid_from : {fields : Layout} {m n : ℕ} {places : List Place} {octets : List ℕ} → m ≡ n → LaidOut fields m places octets → LaidOut fields n places octets
laid_from {fields = fields} {places = places} {octets = octets} e laid = subst (λ k. LaidOut fields k places octets) e laid

-- a value that was read from the front of all octets stands there
pub front_read : {T : Type 0} {F : form.Ghosts T} {octets : List ℕ} {value : T} {taken : ℕ} → FrontRead F octets value taken → ReadAt F octets 0 value (take taken octets)
front_read {octets = octets} {taken = taken} read = record { accepted = read.accepted; stands = front_of_all octets taken read.fits }

-- the item that was read, with what holds of it
pub next_given : {T S : Type 0} {F : form.Ghosts T} {octets : List ℕ} {old_left left : Place} {shows : T → List ℕ → S → Type 0} {new : S} {value : T} {taken : ℕ} → LeftRead F octets old_left value taken → shows value (take taken (octets_at octets old_left)) new → IsBehind old_left left taken → NextGiven F octets old_left left shows new
next_given {value = value} {taken = taken} read shown behind = record { value = value; taken = taken; read = read; shown = shown; behind = behind }
