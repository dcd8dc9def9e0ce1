use Rattle.std.proofs.Common.{rules, ◌≡◌, [], length, refl, sym, ap, ◌∙◌, subst}
use Rattle.std.specs.List.Sorted.{IsSorted}
use Rattle.std.proofs.lemmas.List.{length-map}
use Rattle.der_tlv.specs.Octets.{lex}
use Rattle.der_tlv.specs.declared.encoding_rules.EncodingRules.TheVariants.{Der}
use Rattle.der_tlv.specs.Views.{slice_reader_state}
use Rattle.der_tlv.specs.ReaderState.{IsReaderState, rest}
use Rattle.der_elem.specs.OrderLaws.{accepted-some}
use Rattle.der_elem.proofs.ItemReading.{more_left}
use Rattle.der_nest.proofs.EachReading.{smaller}
use Rattle.der_nest.proofs.CountedReading.{octets_fit, encodings_are}
use Rattle.der_nest.proofs.BorrowedReading.{none_borrowed, borrowed_item_fault, order_fault, one_more_borrowed, borrowed_accepted}
use Rattle.der_nest.proofs.set_of_ref.checked_octets.CheckedOctets.read.Goals as goal

pub returns-in_err-item-clause-refused : goal.returns-in_err-item-clause-refused
returns-in_err-item-clause-refused g c =
    let sound : IsReaderState (slice_reader_state c.items.reader) = record { ordered = c.items.reader.ordered; inside = c.items.reader.inside; short = c.items.reader.short } in
    let some = more_left _ _ c.is_finished.ensures c.items-test.true in
    let fault = borrowed_item_fault c.items.invariant sound c.in_err-item.field-0.0.kind some c.in_err-item.ensures.reason in
    search rules

pub returns-in_err-check_next-clause-refused : goal.returns-in_err-check_next-clause-refused
returns-in_err-check_next-clause-refused g c =
    let sound : IsReaderState (slice_reader_state c.items.reader) = record { ordered = c.items.reader.ordered; inside = c.items.reader.inside; short = c.items.reader.short } in
    let some = more_left _ _ c.is_finished.ensures c.items-test.true in
    let fault = order_fault c.items.invariant sound c.in_err-check_next.field-0.0.kind some c.in_ok-item.ensures c.in_err-check_next.ensures.refused in
    search rules

pub items-init : goal.items-init
items-init g c = none_borrowed g.T.Form c.args.octets.now (slice_reader_state c.in-Ok.reader) c.in-Ok.ensures.state

pub items-smaller : goal.items-smaller
items-smaller g c =
    let some = more_left _ _ c.is_finished.ensures c.items-test.true in
    let nonempty = accepted-some g.T.Tagged.tag_of g.T.FormValue.value.contents g.T.Form.encoding g.met.T.Tagged.encoding_is g.T.Form (λ v. refl) Der in
    smaller c.items.invariant.read.so_far nonempty some c.in_ok-item.ensures

pub items-preserved : goal.items-preserved
items-preserved g c =
    let sound : IsReaderState (slice_reader_state c.items.reader) = record { ordered = c.items.reader.ordered; inside = c.items.reader.inside; short = c.items.reader.short } in
    let some = more_left _ _ c.is_finished.ensures c.items-test.true in
    let nonempty = accepted-some g.T.Tagged.tag_of g.T.FormValue.value.contents g.T.Form.encoding g.met.T.Tagged.encoding_is g.T.Form (λ v. refl) Der in
    one_more_borrowed c.items.invariant sound nonempty some c.in_ok-item.ensures c.in_ok-check_next.ensures.ok

pub invariant_of-result : goal.invariant_of-result
invariant_of-result g c =
    let sound : IsReaderState (slice_reader_state c.items.reader) = record { ordered = c.items.reader.ordered; inside = c.items.reader.inside; short = c.items.reader.short } in
    let none : rest (slice_reader_state c.items.reader) ≡ [] = search rules in
    let so_far = c.items.invariant in
    let are = encodings_are so_far.read sound none in
    record {
      short = octets_fit so_far.read sound;
      counted = ap length are ∙ length-map so_far.read.items g.T.Form.encoding ∙ so_far.read.counted;
      in_order = subst (IsSorted lex) (sym are) so_far.in_order;
    }

pub returns-clause-ok : goal.returns-clause-ok
returns-clause-ok g c =
    let sound : IsReaderState (slice_reader_state c.items.reader) = record { ordered = c.items.reader.ordered; inside = c.items.reader.inside; short = c.items.reader.short } in
    let none : rest (slice_reader_state c.items.reader) ≡ [] = search rules in
    borrowed_accepted c.items.invariant sound none
