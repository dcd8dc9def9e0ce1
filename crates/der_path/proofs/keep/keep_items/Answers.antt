-- One item more is read and kept.
use Rattle.std.proofs.Common.{rules, ◌≡◌, []}
use Rattle.der_tlv.specs.declared.encoding_rules.EncodingRules.TheVariants.{Der}
use Rattle.der_tlv.specs.ReaderState.{IsReaderState, rest}
use Rattle.der_tlv.specs.Views.{slice_reader_state}
use Rattle.der_elem.specs.FirstTagLaws.{has_first_tag_some}
use Rattle.der_elem.proofs.ItemReading.{more_left}
use Rattle.der_nest.proofs.EachReading.{smaller}
use Rattle.der_path.proofs.KeepingItems.{all_kept, none_kept, one_kept}
use Rattle.der_path.proofs.keep.keep_items.Goals as goal

pub items-init : goal.items-init
items-init g c = none_kept g.T.Form g.K.Keeper.shows c.args.octets.now (slice_reader_state c.in-Ok.reader) c.new-kept.result.items c.in-Ok.ensures.state c.new-kept.ensures.items

pub items-smaller : goal.items-smaller
items-smaller g c =
    let some = more_left _ _ c.is_finished.ensures c.items-test.true in
    let nonempty = has_first_tag_some g.T.Form g.met.T.Choice.has_first_tag Der in
    smaller c.items.invariant.read.so_far nonempty some c.in-Ok-decode.ensures

pub items-preserved : goal.items-preserved
items-preserved g c =
    let some = more_left _ _ c.is_finished.ensures c.items-test.true in
    let nonempty = has_first_tag_some g.T.Form g.met.T.Choice.has_first_tag Der in
    one_kept g.T.Form g.K.Keeper.shows c.args.octets.now (slice_reader_state c.items.reader) (slice_reader_state c.decode.new.reader) c.items.kept.items c.items.invariant nonempty some c.in-Ok-decode.item c.in_ok-keep.field-0 c.push.new.self.items c.in-Ok-decode.ensures c.in_ok-keep.ensures c.in_ok-push.ensures.items

pub returns : goal.returns
returns g c =
    let sound : IsReaderState (slice_reader_state c.items.reader) = record { ordered = c.items.reader.ordered; inside = c.items.reader.inside; short = c.items.reader.short } in
    let none : rest (slice_reader_state c.items.reader) ≡ [] = search rules in
    all_kept g.T.Form g.K.Keeper.shows c.args.octets.now (slice_reader_state c.items.reader) (slice_reader_state c.items.reader) c.items.kept.items c.items.invariant sound none
