use Rattle.std.proofs.Common.{rules, ◌≡◌, ◌-◌, [], take, drop, Err, sym, ap, ◌∙◌, inr}
use Rattle.std.specs.Ordering.{is_gt}
use Rattle.der_tlv.specs.Octets.{lex}
use Rattle.der_tlv.specs.declared.encoding_rules.EncodingRules.TheVariants.{Der}
use Rattle.der_tlv.specs.Views.{slice_reader_state}
use Rattle.der_tlv.specs.ReaderState.{IsReaderState, rest, new_reader}
use Rattle.der_elem.specs.FirstTagLaws.{has_first_tag_some}
use Rattle.der_elem.proofs.ItemReading.{more_left}
use Rattle.der_lists.proofs.InOrderReading.{none_from, last_at, one_more_from, part_is, smaller_in_order, in_order_fault, order_fault, in_order_accepted}
use Rattle.der_lists.proofs.keeping.keep_in_order.Goals as goal
use Rattle.der_lists.proofs.keeping.keep_in_order.Goals.{In-Ok}

-- the octets that are kept are those that are read
kept : (g : _) (c : In-Ok g) → c.in-Ok.octets.octets.now ≡ c.args.octets.now
kept g c = search rules

pub items-init : goal.items-init
items-init g c =
    let e = kept g (goal.at.items-init g c).In-Ok in
    none_from g.T.Form c.args.octets.now (slice_reader_state c.in-Ok-new.reader) (c.in-Ok-new.ensures.state ∙ ap (λ o. new_reader o Der) (c.as_bytes-bytes.ensures ∙ e))

pub returns-in_err-_item-clause-kept : goal.returns-in_err-_item-clause-kept
returns-in_err-_item-clause-kept g c = λ short.
    let sound : IsReaderState (slice_reader_state c.items.reader) = record { ordered = c.items.reader.ordered; inside = c.items.reader.inside; short = c.items.reader.short } in
    let some = more_left _ _ c.is_finished.ensures c.items-test.true in
    let fault = in_order_fault c.items.invariant.read sound c.in_err-_item.field-0.0.kind some c.in_err-_item.ensures.reason in
    search rules

pub returns-then-is_less-clause-kept : goal.returns-then-is_less-clause-kept
returns-then-is_less-clause-kept g c = λ short.
    let sound : IsReaderState (slice_reader_state c.items.reader) = record { ordered = c.items.reader.ordered; inside = c.items.reader.inside; short = c.items.reader.short } in
    let some = more_left _ _ c.is_finished.ensures c.items-test.true in
    let same = c.as_bytes-bytes.ensures ∙ kept g (goal.at.returns-then-is_less-clause-kept g c).In-Ok in
    let bytes = c.as_bytes-bytes.result.now in
    let start = c.value-start.result in
    let end = c.value.result in
    let is = part_is c.items.invariant.read c.in_ok-_item.ensures bytes start end same (c.value-start.ensures.value ∙ c.position.ensures) (c.value.ensures.value ∙ c.position-in-items.ensures) in
    let above = ap (λ l. is_gt (lex l (take (end - start) (drop start bytes)))) (sym (last_at c.items.invariant bytes start same (c.value-start.ensures.value ∙ c.position.ensures))) ∙ sym c.is_less.ensures ∙ c.if-is_less.true in
    inr (order_fault c.items.invariant.read sound some c.in_ok-_item.ensures (take (end - start) (drop start bytes)) is above ∙ ap Err (sym c.error.ensures.kind))

pub items-smaller : goal.items-smaller
items-smaller g c =
    let some = more_left _ _ c.is_finished.ensures c.items-test.true in
    let nonempty = has_first_tag_some g.T.Form g.met.T.Choice.has_first_tag Der in
    smaller_in_order c.items.invariant.read nonempty some c.in_ok-_item.ensures

pub items-preserved : goal.items-preserved
items-preserved g c =
    let nonempty = has_first_tag_some g.T.Form g.met.T.Choice.has_first_tag Der in
    let same = c.as_bytes-bytes.ensures ∙ kept g (goal.at.items-preserved g c).In-Ok in
    let bytes = c.as_bytes-bytes.result.now in
    one_more_from c.items.invariant nonempty c.in_ok-_item.ensures bytes c.value-start.result c.value.result same (c.value-start.ensures.value ∙ c.position.ensures) (c.value.ensures.value ∙ c.position-in-items.ensures) (sym c.is_less.ensures ∙ c.if-is_less.false)

pub returns-clause-kept : goal.returns-clause-kept
returns-clause-kept g c = λ short.
    let none : rest (slice_reader_state c.items.reader) ≡ [] = search rules in
    let s = c.items.invariant.read in
    let sound : IsReaderState (slice_reader_state c.items.reader) = record { ordered = c.items.reader.ordered; inside = c.items.reader.inside; short = c.items.reader.short } in
    record { own = kept g (goal.at.returns-clause-kept g c).In-Ok; read = record { value = s.parts; accepted = in_order_accepted s sound none } }
