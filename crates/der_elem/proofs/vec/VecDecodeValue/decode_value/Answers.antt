use Rattle.std.proofs.Common.{rules, ◌≡◌, ◌++◌, ◌∷◌, [], subst, sym, ap, ◌∙◌, arith}
use Rattle.std.proofs.lemmas.Grind.{common_steps}
use Rattle.der_tlv.specs.ReaderState.{IsReaderState, rest, after_read}
use Rattle.der_elem.specs.FirstTagLaws.{has_first_tag_some}
use Rattle.der_elem.proofs.ItemReading.{ItemsSoFar, items_more, items_smaller, items_fault, items_end, items_accepted, more_left, all_taken}
use Rattle.der_elem.proofs.vec.VecDecodeValue.decode_value.Goals as goal

pub returns-in_err-item-clause-exact : goal.returns-in_err-item-clause-exact
returns-in_err-item-clause-exact g c = λ shows.
    let told = c.in_err-item.ensures in
    let some = more_left _ _ c.is_finished.ensures c.items-test.true in
    let fault = items_fault c.items.invariant c.in_ok-check_ready.ensures.0 some g.T.Form.TAKES_MEMORY g.T.Form.FAULTS_FIRST c.in_err-item.field-0.0.kind told.reason in
    search rules

pub items-smaller : goal.items-smaller
items-smaller g c =
    let some = more_left _ _ c.is_finished.ensures c.items-test.true in
    let nonempty = has_first_tag_some g.T.Form g.met.T.Choice.has_first_tag (g.R.Source.state c.items.reader).rules in
    items_smaller c.items.invariant nonempty some c.in_ok-item.ensures

pub items-preserved : goal.items-preserved
items-preserved g c =
    let some = more_left _ _ c.is_finished.ensures c.items-test.true in
    let nonempty = has_first_tag_some g.T.Form g.met.T.Choice.has_first_tag (g.R.Source.state c.items.reader).rules in
    let pushed : c.push.new.self.items ≡ c.items.items.items ++ c.in_ok-item.item ∷ [] = grind (arith, common_steps) in
    subst (ItemsSoFar g.T.Form (g.R.Source.state c.args.reader.now) (g.R.Source.state c.decode.new.reader)) (sym pushed) (items_more c.items.invariant nonempty some c.in_ok-item.ensures)

pub returns-clause-exact : goal.returns-clause-exact
returns-clause-exact g c = λ shows.
    let so_far = c.items.invariant in
    let none : rest (g.R.Source.state c.items.reader) ≡ [] = search rules in
    let sound : IsReaderState (g.R.Source.state c.args.reader.now) = search rules in
    let sound' : IsReaderState (g.R.Source.state c.items.reader) = search rules in
    let taken = all_taken _ _ so_far.taken sound sound' so_far.after none in
    let ready = c.in_ok-check_ready.ensures.0 in
    record {
      ready = ready;
      parsed = items_end so_far ready none;
      accepted = items_accepted so_far taken;
      tag = tt;
      after = so_far.after ∙ ap (after_read (g.R.Source.state c.args.reader.now)) taken;
    }
