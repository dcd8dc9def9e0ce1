use Rattle.std.proofs.Common.{rules, ◌≡◌, []}
use Rattle.der_tlv.specs.ReaderState.{IsReaderState, rest}
use Rattle.der_tlv.specs.Views.{slice_reader_state}
use Rattle.der_elem.proofs.ItemReading.{more_left}
use Rattle.der_constrained.proofs.Counting.{none_counted, one_more_counted, less_left, not_counted, all_counted}
use Rattle.der_constrained.proofs.components.count_components.Goals as goal

pub components-init : goal.components-init
components-init c = none_counted c.args.octets.now (slice_reader_state c.in-Ok.reader) c.in-Ok.ensures.state

pub components-smaller : goal.components-smaller
components-smaller c =
    let sound : IsReaderState (slice_reader_state c.components.reader) = record { ordered = c.components.reader.ordered; inside = c.components.reader.inside; short = c.components.reader.short } in
    let some = more_left _ _ c.is_finished.ensures c.components-test.true in
    less_left c.args.octets.now c.components.invariant sound some c.in-Ok-decode_with_contents.ensures.ok

pub components-preserved : goal.components-preserved
components-preserved c =
    let sound : IsReaderState (slice_reader_state c.components.reader) = record { ordered = c.components.reader.ordered; inside = c.components.reader.inside; short = c.components.reader.short } in
    let some = more_left _ _ c.is_finished.ensures c.components-test.true in
    one_more_counted c.args.octets.now c.components.invariant sound some c.in-Ok-decode_with_contents.ensures.ok

pub returns-in-Err-decode_with_contents : goal.returns-in-Err-decode_with_contents
returns-in-Err-decode_with_contents c =
    let sound : IsReaderState (slice_reader_state c.components.reader) = record { ordered = c.components.reader.ordered; inside = c.components.reader.inside; short = c.components.reader.short } in
    let some = more_left _ _ c.is_finished.ensures c.components-test.true in
    not_counted c.args.octets.now c.components.invariant sound some c.in-Err-decode_with_contents.ensures.err

pub returns : goal.returns
returns c =
    let none : rest (slice_reader_state c.components.reader) ≡ [] = search rules in
    all_counted c.args.octets.now c.components.invariant none
