-- A byte range that was found ends within the octets: that of an encoding, of its contents octets, or of what is in them.
use Rattle.std.proofs.Common.{◌≡◌, ℕ, suc, ◌+◌, ◌-◌, ◌^◌, ◌<◌, ◌≤◌, ◌==◌, if◌then◌else◌, ◌++◌, ◌∷◌, List, true, length, get_or, refl, sym, ap, ap₂, subst, ◌∙◌, arith}
use Rattle.std.proofs.Math.Seq.{get_or-append_seam}
use Rattle.std.proofs.lemmas.List.{length-append}
use Rattle.der_tlv.specs.HeaderOctets.{header_octets}
use Rattle.der_elem.specs.OrderLaws.{length-tlv-positive}
use Rattle.der_places.specs.declared.place.Place.{Place}
use Rattle.der_places.specs.LayoutLaws.{whole_stands, rest_stands, front_stands}
use Rattle.der_places.specs.Walking.{StandAt, EntersContents, Follows, HoldsContents}
use Rattle.der_c.specs.Contents.{HoldsBits, HoldsInner}
use Rattle.der_c.specs.Signed.{HoldsFirst}

inside : (octets : List ℕ) (n : ℕ) (own : List ℕ) → StandAt octets n own → n + length own ≤ length octets
inside octets n own s =
    let l1 = ap length s.octets_are ∙ length-append s.before (own ++ s.after) in
    let l2 = length-append own s.after in
    let at = s.offset_is in
    omega arith

-- contents octets that were found are returned unchanged
pub contents_within : (octets : List ℕ) (place found given : Place) → HoldsContents octets place found → (found.offset + found.length ≤ length octets → given ≡ found) → HoldsContents octets place given
contents_within octets place found given holds kept own e s l =
    let h = holds own e s l in
    let begins = h.0 in
    let lasts = h.1 in
    let all = inside octets place.offset own s in
    let parts = ap length e.octets_are ∙ length-append (header_octets e.tag (length e.contents)) e.contents in
    let ends : found.offset + found.length ≤ length octets = omega arith in
    let same = kept ends in
    (ap (λ p. p.offset) same ∙ begins, ap (λ p. p.length) same ∙ lasts)

-- the first encoding in the contents octets is returned unchanged
pub first_within : (octets : List ℕ) (start found given : Place) → EntersContents octets 0 start → Follows octets start true found → (found.offset + found.length ≤ length octets → given ≡ found) → HoldsFirst octets given
first_within octets start found given enters follows kept tag first others is_tag e octets_are fits =
    let head = header_octets tag (length (first ++ others)) in
    let whole = whole_stands octets fits in
    let begins = enters octets (record { tag = tag; contents = first ++ others; octets_are = octets_are; is_tag = is_tag }) whole in
    let starts = begins.0 in
    let empty = begins.1 in
    let count : 0 + length head ≡ start.offset + start.length = omega arith in
    let behind = rest_stands octets 0 (start.offset + start.length) octets head (first ++ others) octets_are count whole in
    let stands = front_stands octets (start.offset + start.length) (first ++ others) first others refl behind in
    let h = follows first e stands in
    let at = h.0 in
    let lasts = h.1 in
    let all = inside octets (start.offset + start.length) first stands in
    let ends : found.offset + found.length ≤ length octets = omega arith in
    let same = kept ends in
    let offset : found.offset ≡ length head = omega arith in
    (ap (λ p. p.offset) same ∙ offset, ap (λ p. p.length) same ∙ lasts)

-- the encoding after a byte range is returned unchanged
pub next_within : (octets : List ℕ) (last found given : Place) → Follows octets last true found → (found.offset + found.length ≤ length octets → given ≡ found) → Follows octets last true given
next_within octets last found given follows kept own e s =
    let h = follows own e s in
    let at = h.0 in
    let lasts = h.1 in
    let all = inside octets (last.offset + last.length) own s in
    let ends : found.offset + found.length ≤ length octets = omega arith in
    let same = kept ends in
    (ap (λ p. p.offset) same ∙ at, ap (λ p. p.length) same ∙ lasts)

-- the contents octets of an encoding that is the contents octets of another
pub inner_within : (octets : List ℕ) (field list given : Place) → (0 < field.length → HoldsContents octets field list) → (0 < list.length → HoldsContents octets list given) → 0 < field.length → HoldsInner octets field given
inner_within octets field list given outer inner some own e i s l =
    let h = outer some own e s l in
    let behind = rest_stands octets field.offset list.offset own (header_octets e.tag (length e.contents)) e.contents e.octets_are (sym h.0) s in
    let filled = subst (λ k. 0 < k) (sym h.1) (subst (λ o. 0 < length o) (sym i.octets_are) (length-tlv-positive i.tag i.contents)) in
    let g = inner filled e.contents i behind h.1 in
    (g.0 ∙ ap (λ k. k + length (header_octets i.tag (length i.contents))) h.0, g.1)

-- a BIT STRING has at least one contents octet
pub bits_none : (octets : List ℕ) (place given : Place) → HoldsContents octets place given → given.length ≡ 0 → HoldsBits octets place given
bits_none octets place given holds none own e unused others filled s l =
    let h = holds own e s l in
    let lasts = h.1 in
    let count : length e.contents ≡ suc (length others) = ap length filled in
    absurd (omega arith)

first_is : (octets : List ℕ) (n first : ℕ) (others : List ℕ) → StandAt octets n (first ∷ others) → get_or octets n 0 ≡ first
first_is octets n first others s = ap (λ k. get_or octets k 0) (sym s.offset_is) ∙ ap (λ o. get_or o (length s.before) 0) s.octets_are ∙ get_or-append_seam s.before first (others ++ s.after) 0

-- the octets of bits stand behind the number of unused bits
pub bits_within : (octets : List ℕ) (place given bits : Place) → HoldsContents octets place given → given.offset + given.length ≤ length octets → (given.offset + 1 < 2 ^ 32 → bits.offset ≡ given.offset + 1) → bits.length ≡ (if get_or octets given.offset 0 == 0 then given.length - 1 else 0) → HoldsBits octets place bits
bits_within octets place given bits holds within offset lasts own e unused others filled s l =
    let h = holds own e s l in
    let at = h.0 in
    let count = h.1 in
    let n : length e.contents ≡ suc (length others) = ap length filled in
    let small : length octets < 2 ^ 32 = s.fits in
    let behind = rest_stands octets place.offset given.offset own (header_octets e.tag (length e.contents)) e.contents e.octets_are (sym at) s in
    let first = first_is octets given.offset unused others (subst (λ o. StandAt octets given.offset o) filled behind) in
    let begins = offset (omega arith) in
    let fewer : given.length - 1 ≡ length others = omega arith in
    (begins ∙ ap (λ k. k + 1) at, lasts ∙ ap₂ (λ k j. if k == 0 then j else 0) first fewer)
