use Rattle.std.proofs.Common.{rules, ◌≡◌, [], sym, ap, ◌∙◌}
use Rattle.der_tlv.specs.declared.encoding_rules.EncodingRules.TheVariants.{Der}
use Rattle.der_tlv.specs.Views.{slice_reader_state}
use Rattle.der_tlv.specs.ReaderState.{IsReaderState, rest, new_reader}
use Rattle.der_elem.specs.FirstTagLaws.{has_first_tag_some}
use Rattle.der_elem.proofs.ItemReading.{more_left}
use Rattle.der_nest.proofs.EachReading.{smaller}
use Rattle.der_nest.proofs.CountedReading.{none_counted, counted_fault, one_more_counted, all_octets, encodings_are, all_encodings_are, all_counted}
use Rattle.der_nest.proofs.sequence_of_ref.keep_items.Goals as goal
use Rattle.der_nest.proofs.sequence_of_ref.keep_items.Goals.{In-Ok}

-- the octets that are kept are those that are read
kept : (g : _) (c : In-Ok g) → c.in-Ok.octets.octets.now ≡ c.args.octets.now
kept g c = search rules

pub items-init : goal.items-init
items-init g c =
    let e = kept g (goal.at.items-init g c).In-Ok in
    none_counted g.T.Form c.args.octets.now (slice_reader_state c.in-Ok-new.reader) (c.in-Ok-new.ensures.state ∙ ap (λ o. new_reader o Der) (c.as_bytes.ensures ∙ e))

pub returns-in_err-_item : goal.returns-in_err-_item
returns-in_err-_item g c = λ short.
    let some = more_left _ _ c.is_finished.ensures c.items-test.true in
    let fault = counted_fault c.items.invariant c.in_err-_item.field-0.0.kind some c.in_err-_item.ensures.reason in
    search rules

pub items-smaller : goal.items-smaller
items-smaller g c =
    let some = more_left _ _ c.is_finished.ensures c.items-test.true in
    let nonempty = has_first_tag_some g.T.Form g.met.T.Choice.has_first_tag Der in
    smaller c.items.invariant.so_far nonempty some c.in_ok-_item.ensures

pub items-preserved : goal.items-preserved
items-preserved g c =
    let some = more_left _ _ c.is_finished.ensures c.items-test.true in
    let nonempty = has_first_tag_some g.T.Form g.met.T.Choice.has_first_tag Der in
    one_more_counted c.items.invariant nonempty some c.in_ok-_item.ensures

pub invariant_of-result : goal.invariant_of-result
invariant_of-result g c =
    let sound : IsReaderState (slice_reader_state c.items.reader) = record { ordered = c.items.reader.ordered; inside = c.items.reader.inside; short = c.items.reader.short } in
    let none : rest (slice_reader_state c.items.reader) ≡ [] = search rules in
    let e = kept g (goal.at.invariant_of-result g c).In-Ok in
    let s = c.items.invariant in
    rw e (all_counted s sound none, (encodings_are s sound none ∙ sym (all_encodings_are s sound none), tt))

pub returns : goal.returns
returns g c = λ short.
    let sound : IsReaderState (slice_reader_state c.items.reader) = record { ordered = c.items.reader.ordered; inside = c.items.reader.inside; short = c.items.reader.short } in
    let none : rest (slice_reader_state c.items.reader) ≡ [] = search rules in
    let s = c.items.invariant in
    record { own = kept g (goal.at.returns g c).In-Ok; read = record { value = s.items; accepted = all_octets s sound none } }
