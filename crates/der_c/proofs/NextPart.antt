-- The next part of a name, at the front of the parts that are left.
use Rattle.std.proofs.Common.{◌≡◌, ℕ, ◌+◌, ◌≤◌, ◌<◌, List, length, true, Option, Some, None, sym, ap, subst, ◌∙◌, arith}
use Rattle.der_tlv.specs.HeaderOctets.{header_octets}
use Rattle.der_elem.specs.Accepting.{Fits}
use Rattle.der_elem.specs.declared.form.Form as form
use Rattle.der_places.specs.Walking.{Follows, HoldsContents, IsEncoding, StandAt}
use Rattle.der_places.specs.declared.place.Place.{Place}
use Rattle.der_c.specs.Items.{EndsWithin, IsBehind, LeftRefused}
use Rattle.der_c.specs.NamesLeft.{AttributeNotGiven, Enters, EntersNext, EntersNone, FindsNext}
use Rattle.der_c.specs.declared.fault.Fault.{Fault}
use Rattle.der_c.specs.declared.names_left.NameLeft.{NameLeft}
use Rattle.der_c.proofs.Entries.{encoding_some}

module _ (octets : List ℕ) (left : NameLeft) (start part : Place) (begins : start.offset ≡ left.parts.offset) (empty : start.length ≡ 0) (follows : Follows octets start true part) where
  found : (own : List ℕ) → IsEncoding own → StandAt octets left.parts.offset own → (part.offset ≡ left.parts.offset) × (part.length ≡ length own)
  found own e s =
      let at : left.parts.offset ≡ start.offset + start.length = omega arith in
      let f = follows own e (subst (λ n. StandAt octets n own) at s) in
      (f.0 ∙ sym at, f.1)

  pub none_if_empty : part.length ≡ 0 → EntersNone octets left
  none_if_empty none own e s few =
      let f = found own e s in
      let lasts = f.1 in
      let some = encoding_some own e in
      absurd (omega arith)

  pub none_if_long : left.parts.length < part.length → EntersNone octets left
  none_if_long long own e s few =
      let f = found own e s in
      let lasts = f.1 in
      absurd (omega arith)

  pub enters : (parts attributes : Place) → HoldsContents octets part attributes → (Fits octets → IsBehind left.parts parts part.length) → Enters octets left (record { parts = parts; attributes = attributes })
  enters parts attributes holds moved own e s few =
      let f = found own e s in
      let h = holds own e (subst (λ n. StandAt octets n own) (sym f.0) s) f.1 in
      record {
        parts = subst (λ n. IsBehind left.parts parts n) f.1 (moved s.fits);
        begins = h.0 ∙ ap (λ n. n + length (header_octets e.tag (length e.contents))) f.0;
        lasts = h.1;
      }

-- the next part is entered where no attribute is left of the last one
pub next_of_part : (octets : List ℕ) (left : NameLeft) (r : Option NameLeft) → EndsWithin octets left.parts → EndsWithin octets left.attributes → left.attributes.length ≡ 0 → EntersNext octets left r → FindsNext octets left r
next_of_part octets left None parts attributes empty e = λ p a. (empty, e)
next_of_part octets left (Some next) parts attributes empty e = record { parts_within = parts; attributes_within = attributes; same = λ some. absurd (omega arith); enters = λ z. e }

-- a refused attribute, with the reason that is written
pub attribute_refused : {T S : Type 0} {F : form.Ghosts T} {octets : List ℕ} {next old_left left : NameLeft} {old new : S} {fault reason : Fault} {answer : ℕ} → LeftRefused F octets next.attributes reason → fault ≡ reason → answer ≡ reason.number → new ≡ old → left ≡ old_left → AttributeNotGiven F octets next old_left left old new fault answer
attribute_refused {F = F} {octets = octets} {next = next} refused written number same kept = record {
  reason = subst (λ f. LeftRefused F octets next.attributes f) (sym written) refused;
  number = number ∙ ap (λ f. f.number) (sym written);
  unchanged = same;
  left_unchanged = kept;
}
