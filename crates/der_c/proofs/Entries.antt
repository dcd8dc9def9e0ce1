-- The entries of a list of revoked certificates, at the byte range of their field.
use Rattle.std.proofs.Common.{◌≡◌, ℕ, ◌+◌, ◌<◌, Bool, List, ◌∷◌, length, Option, Some, None, refl, sym, ap, ap₂, subst, ◌∙◌, lit<}
use Rattle.der_tlv.specs.HeaderOctets.{header_octets}
use Rattle.der_tlv.specs.declared.encoding_rules.EncodingRules.TheVariants.{Der}
use Rattle.der_tlv.specs.declared.tag.Tag.TheVariants as tags
use Rattle.der_elem.specs.Accepting.{Fits, accepts_tagged}
use Rattle.der_elem.specs.OrderLaws.{length-tlv-positive}
use Rattle.der_elem.specs.declared.form.Form as form
use Rattle.der_lists.specs.Items.{AreItems}
use Rattle.der_lists.specs.ListRef.{octets_of}
use Rattle.der_lists.specs.declared.list_ref.ListRef.{ListRef}
use Rattle.der_nest.specs.BorrowedSequences.{items_format}
use Rattle.der_nest.specs.KeptFormat.{kept_format}
use Rattle.der_pkix.specs.declared.crl.revoked_certificate.RevokedCertificate.{RevokedCertificate}
use Rattle.der_places.specs.Layout.{LaidAt, LaidOut, Layout, Laid, Stands, part, reads_optional}
use Rattle.der_places.specs.LayoutLaws.{behind_stands, front_stands, rest_stands}
use Rattle.der_places.specs.Walking.{HoldsContents, IsEncoding, StandAt}
use Rattle.der_places.specs.declared.crl.revoked_certificate.RevokedCertificatePlaces.{RevokedCertificatePlaces}
use Rattle.der_places.specs.declared.place.Place.{Place}
use Rattle.der_c.specs.Building.{octets_at}
use Rattle.der_c.specs.Finding.{IsFirst}
use Rattle.der_c.specs.Items.{EndsWithin}
use Rattle.der_c.specs.Revoked.{FindsRevoked, IsAmong, ShowsEntry, has_serial, no_entry}
use Rattle.der_c.specs.declared.revoked_certificate.RevokedCertificateAt.{RevokedCertificateAt}
use Rattle.der_c.proofs.Left.{octets_at_stands, stands_within}

-- an encoding has octets
pub encoding_some : (own : List ℕ) → IsEncoding own → 0 < length own
encoding_some own e = subst (λ o. 0 < length o) (sym e.octets_are) (length-tlv-positive e.tag e.contents)

pub place_is : {p q : Place} → p.offset ≡ q.offset → p.length ≡ q.length → p ≡ q
place_is begins lasts = ap₂ (λ (m : ℕ) (n : ℕ). let r : Place = record { offset = m; length = n } in r) begins lasts

-- a field at its byte range
pub record FieldAt (reads : List ℕ → Type 0) (octets : List ℕ) (place : Place) : Type 0 where
  pub own : List ℕ
  pub stands : StandAt octets place.offset own
  pub length_is : place.length ≡ length own
  pub read : reads own

field_here : (octets : List ℕ) (before : ℕ) (reads : List ℕ → Type 0) (place : Place) (others : List ℕ → Type 0) (own : List ℕ) → Stands reads before place others own → StandAt octets before own → FieldAt reads octets place
field_here octets before reads place others own field s =
    let front = front_stands octets before own field.front field.behind field.octets_are s in
    record { own = field.front; stands = subst (λ k. StandAt octets k field.front) (sym field.offset_is) front; length_is = field.length_is; read = field.read }

-- the sixth field of a message
pub sixth_field : {there1 there2 there3 there4 there5 there6 : Bool} {reads1 reads2 reads3 reads4 reads5 reads6 : List ℕ → Type 0} {others : Layout} {octets : List ℕ} {place p1 p2 p3 p4 p5 p6 : Place} {places : List Place}
    → LaidAt (part there1 reads1 (part there2 reads2 (part there3 reads3 (part there4 reads4 (part there5 reads5 (part there6 reads6 others)))))) octets place (p1 ∷ (p2 ∷ (p3 ∷ (p4 ∷ (p5 ∷ (p6 ∷ places)))))) → FieldAt reads6 octets p6
sixth_field {octets = octets} {place = place} at =
    let outer = at.laid in
    let f1 = outer.laid in
    let f2 = f1.rest in
    let f3 = f2.rest in
    let f4 = f3.rest in
    let f5 = f4.rest in
    let f6 = f5.rest in
    let s1 = rest_stands octets place.offset (place.offset + length outer.header) at.own outer.header outer.contents outer.octets_are refl at.stands in
    let s2 = behind_stands octets _ _ _ _ _ f1 s1 in
    let s3 = behind_stands octets _ _ _ _ _ f2 s2 in
    let s4 = behind_stands octets _ _ _ _ _ f3 s3 in
    let s5 = behind_stands octets _ _ _ _ _ f4 s4 in
    let s6 = behind_stands octets _ _ _ _ _ f5 s5 in
    field_here octets _ _ _ _ _ f6 s6

-- the first entry that is wanted is among the contents octets of the field
pub is_among : {F : form.Ghosts RevokedCertificate} {layout : RevokedCertificate → Layout} {listed : RevokedCertificatePlaces → List Place} {serial octets : List ℕ} {at : RevokedCertificateAt} {found : Option (RevokedCertificate × Place)} (field entries : Place) (own : List ℕ) (e : IsEncoding own)
    → StandAt octets field.offset own → field.length ≡ length own → (0 < field.length → HoldsContents octets field entries)
    → (Fits octets → EndsWithin octets entries → (given : List RevokedCertificate) → AreItems F (octets_at octets entries) given → IsFirst F (has_serial serial) octets entries found)
    → (given : List RevokedCertificate) → AreItems F e.contents given → ShowsEntry layout listed octets found at → IsAmong F layout listed serial octets e.contents at
is_among {F = F} {octets = octets} {found = found} field entries own e s l holds first given a shown =
    let some = subst (λ n. 0 < n) (sym l) (encoding_some own e) in
    let h = holds some own e s l in
    let stands = rest_stands octets field.offset entries.offset own (header_octets e.tag (length e.contents)) e.contents e.octets_are (sym h.0) s in
    let same = octets_at_stands octets e.contents entries stands h.1 in
    record {
      place = entries;
      stands = stands;
      length_is = h.1;
      found = found;
      is_first = first s.fits (stands_within octets e.contents entries stands h.1) given (subst (λ o. AreItems F o given) (sym same) a);
      shown = shown;
    }

-- the first entry of a field that may be absent
pub finds_revoked : {F : form.Ghosts RevokedCertificate} {layout : RevokedCertificate → Layout} {listed : RevokedCertificatePlaces → List Place} {serial octets : List ℕ} {at : RevokedCertificateAt} (field : Place) (o : Option (ListRef RevokedCertificate))
    → FieldAt (reads_optional (accepts_tagged tags.Sequence (kept_format octets_of (items_format F)).accepts Der) o) octets field
    → (field.length ≡ 0 → at ≡ no_entry)
    → ((own : List ℕ) (e : IsEncoding own) → StandAt octets field.offset own → field.length ≡ length own → (given : List RevokedCertificate) → AreItems F e.contents given → IsAmong F layout listed serial octets e.contents at)
    → FindsRevoked F layout listed serial octets o at
finds_revoked field None there absent present = absent (there.length_is ∙ ap length there.read)
finds_revoked {F = F} {layout = layout} {listed = listed} {serial = serial} {octets = octets} {at = at} field (Some entries) there absent present =
    let read = there.read in
    let kept = read.2 in
    let e : IsEncoding there.own = record { tag = tags.Sequence; contents = read.0; octets_are = read.1; is_tag = lit< tt } in
    subst (λ o. IsAmong F layout listed serial octets o at) (sym kept.own) (present there.own e there.stands there.length_is kept.read.value kept.read.accepted)
