use Rattle.std.proofs.Common.{◌≡◌, [], ◌<◌, length, false, sym, ◌∙◌, subst, Some, None}
use Rattle.der_tlv.specs.ReaderState.{IsReaderState}
use Rattle.der_tlv.specs.Views.{slice_reader_state}
use Rattle.der_elem.specs.FirstTagLaws.{has_first_tag_some}
use Rattle.der_elem.proofs.ItemReading.{more_left}
use Rattle.der_lists.specs.ReadingOn.{ReadsOn, octets_to_come}
use Rattle.der_nest.proofs.SetReading.{rest_fits}
use Rattle.der_lists.proofs.ReadingOnItems.{over_failed, over_finished, ends, reads, less_to_come}
use Rattle.der_lists.proofs.item_iter.ItemIterIterator.next.Goals as goal
use Rattle.der_lists.proofs.item_iter.ItemIterIterator.next.Goals.{then-cursor-via-then-cursor, then-cursor-via-else-cursor+then-is_finished}

pub returns-then-cursor-clause-steps : goal.returns-then-cursor-clause-steps
returns-then-cursor-clause-steps g c =
    let F = g.T.Form in
    let old = slice_reader_state c.self.inside.reader in
    let none : octets_to_come old ≡ [] = elim c.then-cursor.branch [
      | then-cursor-via-then-cursor w ↦ over_failed F old (sym c.cursor.ensures.failed ∙ w.if-cursor.true)
      | then-cursor-via-else-cursor+then-is_finished w ↦ over_finished F old (w.is_finished.ensures.0 w.if-is_finished.true)
    ] in
    subst (λ s. ReadsOn F s s None) c.self.view_is (ends F old none)

pub returns-clause-steps : goal.returns-clause-steps
returns-clause-steps g c =
    let reader = c.self.inside.reader in
    let old = slice_reader_state reader in
    let new = slice_reader_state c.decode.new.reader in
    let sound : IsReaderState old = record { ordered = reader.ordered; inside = reader.inside; short = reader.short } in
    let ready : old.failed ≡ false = sym c.cursor.ensures.failed ∙ c.if-cursor.false in
    let some = more_left _ _ c.is_finished.ensures c.if-is_finished.false in
    subst (λ s. ReadsOn g.T.Form s new (Some c.decode.result)) c.self.view_is (reads g.T.Form old new ready some (rest_fits old sound) c.decode.result c.decode.ensures)

pub returns-clause-goes : goal.returns-clause-goes
returns-clause-goes g c =
    let reader = c.self.inside.reader in
    let old = slice_reader_state reader in
    let new = slice_reader_state c.decode.new.reader in
    let sound : IsReaderState old = record { ordered = reader.ordered; inside = reader.inside; short = reader.short } in
    let ready : old.failed ≡ false = sym c.cursor.ensures.failed ∙ c.if-cursor.false in
    let some = more_left _ _ c.is_finished.ensures c.if-is_finished.false in
    let nonempty = has_first_tag_some g.T.Form g.met.T.Choice.has_first_tag old.rules in
    let less = less_to_come g.T.Form old new ready some (rest_fits old sound) nonempty c.decode.result c.decode.ensures in
    record { on = λ _. (tt, tt, subst (λ s. length (octets_to_come new) < length (octets_to_come s)) c.self.view_is less); keeps = tt; rests = λ _. tt }
