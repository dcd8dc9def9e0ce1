use Rattle.std.proofs.Common.{rules, ◌≡◌, ◌<◌, [], length, take, flat_map, Ok, sym, ap, ◌∙◌, subst, arith}
use Rattle.std.proofs.Math.Seq.{take-length}
use Rattle.std.proofs.Math.ListN.{length-set}
use Rattle.std.proofs.lemmas.List.{length-take, length-replicate}
use Rattle.der_tlv.specs.ReaderState.{IsReaderState, rest, after_read}
use Rattle.der_elem.specs.FirstTagLaws.{has_first_tag_some}
use Rattle.der_elem.specs.Items.{AcceptsItems}
use Rattle.der_elem.proofs.ItemReading.{all_taken}
use Rattle.der_elem.proofs.ArrayReading.{ArraySoFar, no_items, item_fault, too_many_fault, array_more, array_end, array_accepted, take_one, take_written}
use Rattle.der_elem.proofs.array.ArrayDecodeValue.decode_value.Goals as goal

pub returns-in_err-refuse_item-clause-exact : goal.returns-in_err-refuse_item-clause-exact
returns-in_err-refuse_item-clause-exact g c = λ shows.
    let ready = c.in_ok-check_ready.ensures in
    let none = no_items g.T.Form g.row.N (g.R.Source.state c.args.reader.now) (g.R.Source.state c.check_ready.new.reader) ready.1 in
    let fault = too_many_fault none c.in_err-refuse_item.field-0.0.kind (g.R.Source.state c.refuse_item.new.reader) c.in-Ok.ensures.1.long ready.0 c.in_err-refuse_item.ensures in
    search rules

pub returns-in-Ok-clause-exact : goal.returns-in-Ok-clause-exact
returns-in-Ok-clause-exact g c = λ shows.
    let ready = c.in_ok-check_ready.ensures in
    let old = g.R.Source.state c.args.reader.now in
    let items : c.in-Ok.items ≡ [] = c.in-Ok.ensures.1.same in
    let so_far = no_items g.T.Form g.row.N old (g.R.Source.state c.check_ready.new.reader) ready.1 in
    let none = c.in_ok-refuse_item.ensures.0 in
    let empty : rest old ≡ [] = ap rest (sym ready.1) ∙ none in
    record {
      ready = ready.0;
      parsed = array_end so_far c.in-Ok.ensures.1.long none ∙ ap (λ vs. Ok (flat_map g.T.Form.encoding vs)) (sym items);
      accepted = (ap length items ∙ c.in-Ok.ensures.1.long, subst (λ vs. AcceptsItems (λ v part. g.T.Form.accepts old.rules v part × (0 < length part)) vs (rest old)) (sym items) empty);
      tag = tt;
      after = c.in_ok-refuse_item.ensures.1 ∙ ready.1 ∙ ap (λ p. record old { position = p }) (omega (arith, ap length empty));
    }

pub returns-in_err-items-clause-exact : goal.returns-in_err-items-clause-exact
returns-in_err-items-clause-exact g c = λ shows.
    let ready = c.in_ok-check_ready.ensures in
    let none = no_items g.T.Form g.row.N (g.R.Source.state c.args.reader.now) (g.R.Source.state c.check_ready.new.reader) ready.1 in
    let some : 0 < g.row.N = let h = c.in_default.ensures.1 in omega arith in
    let fault = item_fault none c.in_err-items.field-0.0.kind (g.R.Source.state c.decode_item.new.reader) some ready.0 c.in_err-items.ensures in
    search rules

pub items-init : goal.items-init
items-init g c =
    let ready = c.in_ok-check_ready.ensures in
    let old = g.R.Source.state c.args.reader.now in
    let none = no_items g.T.Form g.row.N old (g.R.Source.state c.check_ready.new.reader) ready.1 in
    let some : 0 < g.row.N = let h = c.in_default.ensures.1 in omega arith in
    let nonempty = has_first_tag_some g.T.Form g.met.T.Choice.has_first_tag old.rules in
    record {
      whole = length-replicate g.row.N c.in_ok-items.field-0;
      so_far = subst (ArraySoFar g.T.Form g.row.N old (g.R.Source.state c.decode_item.new.reader)) (sym (take_one g.row.N c.in_ok-items.field-0 some)) (array_more none nonempty some c.in_ok-items.ensures);
    }

pub returns-in_err-items-2-clause-exact : goal.returns-in_err-items-2-clause-exact
returns-in_err-items-2-clause-exact g c = λ shows.
    let some : length (take c.items.i c.items.items) < g.row.N = let h = c.items-test.true in omega (arith, length-take c.items.i c.items.items) in
    let fault = item_fault c.items.invariant.so_far c.in_err-items-2.field-0.0.kind (g.R.Source.state c.decode_item-in-items.new.reader) some c.in_ok-check_ready.ensures.0 c.in_err-items-2.ensures in
    search rules

pub items-preserved : goal.items-preserved
items-preserved g c =
    let old = g.R.Source.state c.args.reader.now in
    let xs = c.items.items in
    let i = c.items.i in
    let inside : i < length xs = let h = c.items-test.true in let w = c.items.invariant.whole in omega arith in
    let some : length (take i xs) < g.row.N = let h = c.items-test.true in omega (arith, length-take i xs) in
    let nonempty = has_first_tag_some g.T.Form g.met.T.Choice.has_first_tag old.rules in
    record {
      whole = length-set xs i c.in_ok-items-2.field-0 ∙ c.items.invariant.whole;
      so_far = subst (ArraySoFar g.T.Form g.row.N old (g.R.Source.state c.decode_item-in-items.new.reader)) (sym (take_written xs i c.in_ok-items-2.field-0 inside)) (array_more c.items.invariant.so_far nonempty some c.in_ok-items-2.ensures);
    }

pub returns-in_err-refuse_item-2-clause-exact : goal.returns-in_err-refuse_item-2-clause-exact
returns-in_err-refuse_item-2-clause-exact g c = λ shows.
    let some : 0 < g.row.N = let h = c.in_default.ensures.1 in omega arith in
    let all : length (take c.items.i c.items.items) ≡ g.row.N = let h = c.items-test.false in let e = c.items.auto.i-end in let w = c.items.invariant.whole in omega (arith, length-take c.items.i c.items.items) in
    let fault = too_many_fault c.items.invariant.so_far c.in_err-refuse_item-2.field-0.0.kind (g.R.Source.state c.refuse_item-2.new.reader) all c.in_ok-check_ready.ensures.0 c.in_err-refuse_item-2.ensures in
    search rules

pub returns-clause-exact : goal.returns-clause-exact
returns-clause-exact g c = λ shows.
    let some : 0 < g.row.N = let h = c.in_default.ensures.1 in omega arith in
    let w = c.items.invariant.whole in
    let end : c.items.i ≡ g.row.N = let h = c.items-test.false in let e = c.items.auto.i-end in omega arith in
    let items : take c.items.i c.items.items ≡ c.items.items = ap (λ n. take n c.items.items) (end ∙ sym w) ∙ take-length c.items.items in
    let so_far = subst (ArraySoFar g.T.Form g.row.N (g.R.Source.state c.args.reader.now) (g.R.Source.state c.items.reader)) items c.items.invariant.so_far in
    let none = c.in_ok-refuse_item-2.ensures.0 in
    let sound : IsReaderState (g.R.Source.state c.args.reader.now) = search rules in
    let sound' : IsReaderState (g.R.Source.state c.items.reader) = search rules in
    let taken = all_taken _ _ so_far.taken sound sound' so_far.after none in
    record {
      ready = c.in_ok-check_ready.ensures.0;
      parsed = array_end so_far w none;
      accepted = (w, array_accepted so_far taken);
      tag = tt;
      after = c.in_ok-refuse_item-2.ensures.1 ∙ so_far.after ∙ ap (after_read (g.R.Source.state c.args.reader.now)) taken;
    }
