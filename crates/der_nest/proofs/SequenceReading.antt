-- Sequences that are read item by item.
use Rattle.std.proofs.Common.{◌≡◌, ℕ, List, [], Bool, false, Ok, refl, ap, ◌∙◌, inl, inr, flat_map}
use Rattle.der_tlv.specs.declared.error.ErrorKind.{ErrorKind}
use Rattle.der_tlv.specs.ReaderState.{ReaderState, rest, unless_failed}
use Rattle.der_elem.specs.declared.form.Form as form
use Rattle.der_elem.specs.Decoding.{Faults}
use Rattle.der_nest.specs.Lists.{join_encodings, parse_each}
use Rattle.der_nest.specs.ListLaws.{concat-map}
use Rattle.der_nest.specs.SequencesOf.{parse_sequence_of}
use Rattle.der_nest.proofs.EachReading.{EachSoFar, at_end}

-- an error of the items is an error of the sequence
pub sequence_fault : {T : Type 0} (F : form.Ghosts T) (capacity : ℕ) (old : ReaderState) (memory : Bool) (kind : ErrorKind) → old.failed ≡ false → Faults memory false (parse_each capacity F.parse old.rules old.position (rest old)) kind → Faults memory false (unless_failed (parse_sequence_of capacity F.parse old.rules) old) kind
sequence_fault F capacity old memory kind ready faults = elim faults [
  | inl m ↦ inl (record { kind_is = m.kind_is; takes = m.takes; faultless = λ h. absurd (cc) })
  | inr e ↦ inr (seen_items ∙ ap join_encodings e)
]
  where
    seen_items : unless_failed (parse_sequence_of capacity F.parse old.rules) old ≡ parse_sequence_of capacity F.parse old.rules old.position (rest old)
    seen_items = rw ready refl

-- if nothing is left, the octets are parsed as the items' encodings
pub sequence_parsed : {T : Type 0} {F : form.Ghosts T} {capacity : ℕ} {old now : ReaderState} {vs : List T} (so_far : EachSoFar F capacity old now vs) → rest now ≡ [] → parse_sequence_of capacity F.parse old.rules old.position (rest old) ≡ Ok (flat_map F.encoding vs)
sequence_parsed {T} {F} {capacity} {old} {now} {vs} so_far none = ap join_encodings (at_end so_far none) ∙ ap Ok (concat-map F.encoding vs)
