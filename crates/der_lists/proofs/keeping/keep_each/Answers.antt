use Rattle.std.proofs.Common.{rules, ◌≡◌, ◌+◌, [], ap, ◌∙◌}
use Rattle.der_tlv.specs.declared.encoding_rules.EncodingRules.TheVariants.{Der}
use Rattle.der_tlv.specs.Views.{slice_reader_state}
use Rattle.der_tlv.specs.ReaderState.{IsReaderState, rest, new_reader}
use Rattle.der_elem.specs.FirstTagLaws.{has_first_tag_some}
use Rattle.der_elem.proofs.ItemReading.{more_left}
use Rattle.der_nest.proofs.EachReading.{smaller}
use Rattle.der_nest.proofs.CountedReading.{none_counted, counted_fault, one_more_counted, all_octets}
use Rattle.der_lists.proofs.keeping.keep_each.Goals as goal
use Rattle.der_lists.proofs.keeping.keep_each.Goals.{In-Ok}

-- the octets that are kept are those that are read
kept : (g : _) (c : In-Ok g) → c.in-Ok.octets.octets.now ≡ c.args.octets.now
kept g c = search rules

pub items-init : goal.items-init
items-init g c =
    let e = kept g (goal.at.items-init g c).In-Ok in
    record { count = 0; read = none_counted g.T.Form c.args.octets.now (slice_reader_state c.in-Ok-new.reader) (c.in-Ok-new.ensures.state ∙ ap (λ o. new_reader o Der) (c.as_bytes.ensures ∙ e)) }

pub returns-in_err-_item-clause-kept : goal.returns-in_err-_item-clause-kept
returns-in_err-_item-clause-kept g c = λ short.
    let some = more_left _ _ c.is_finished.ensures c.items-test.true in
    let fault = counted_fault c.items.invariant.read c.in_err-_item.field-0.0.kind some c.in_err-_item.ensures.reason in
    search rules

pub items-smaller : goal.items-smaller
items-smaller g c =
    let some = more_left _ _ c.is_finished.ensures c.items-test.true in
    let nonempty = has_first_tag_some g.T.Form g.met.T.Choice.has_first_tag Der in
    smaller c.items.invariant.read.so_far nonempty some c.in_ok-_item.ensures

pub items-preserved : goal.items-preserved
items-preserved g c =
    let some = more_left _ _ c.is_finished.ensures c.items-test.true in
    let nonempty = has_first_tag_some g.T.Form g.met.T.Choice.has_first_tag Der in
    record { count = c.items.invariant.count + 1; read = one_more_counted c.items.invariant.read nonempty some c.in_ok-_item.ensures }

pub returns-clause-kept : goal.returns-clause-kept
returns-clause-kept g c = λ short.
    let sound : IsReaderState (slice_reader_state c.items.reader) = record { ordered = c.items.reader.ordered; inside = c.items.reader.inside; short = c.items.reader.short } in
    let none : rest (slice_reader_state c.items.reader) ≡ [] = search rules in
    let s = c.items.invariant.read in
    record { own = kept g (goal.at.returns-clause-kept g c).In-Ok; read = record { value = s.items; accepted = all_octets s sound none } }
