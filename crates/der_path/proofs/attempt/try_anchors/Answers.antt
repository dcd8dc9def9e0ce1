-- One anchor more.
use Rattle.std.proofs.Common.{rules, refl, sym, subst, ◌∙◌, arith}
use Rattle.std.proofs.lemmas.List.{nil_from_length}
use Rattle.std.specs.Prelude.{◌≡◌, false}
use Rattle.der_path.specs.Finding.{is_decided, tried_after, Tries}
use Rattle.der_path.proofs.Searching.{front_is}
use Rattle.der_path.proofs.Trying.{all_refused, item_is, one_less, refused_by, still_placed, tries_on}
use Rattle.der_path.proofs.attempt.try_anchors.Goals as goal

pub each-preserved : goal.each-preserved
each-preserved c =
    let front = front_is c.each.left.now _ c.anchor-item.result _ c.in-len1-up.len_at_least c.anchor-item.is refl in
    let item = item_is c.args.anchors.now c.args.chain.now c.args.inputs.now c.each.at c.args.from c.each.left.now _ _ front c.each.invariant.place c.each.invariant.counted in
    let undecided : is_decided (tried_after c.each.tried c.each.at c.judge-judged.result) ≡ false = subst (λ t. is_decided t ≡ false) c.tried_after-tried.ensures (sym c.is_decided.ensures ∙ c.if-is_decided.false) in
    record {
      counted = one_less c.args.anchors.now c.args.chain.now c.args.inputs.now c.each.at c.args.from c.each.left.now _ _ front c.each.invariant.counted;
      place = still_placed c.args.anchors.now c.args.chain.now c.args.inputs.now c.each.at c.args.from c.each.left.now _ _ front c.each.invariant.place;
      tried = subst (Tries c.args.anchors.now c.args.chain.now.octets.items c.args.inputs.now) (sym c.tried_after-tried.ensures) (tries_on c.args.anchors.now c.args.chain.now c.args.inputs.now c.each.at _ _ c.each.tried c.judge-judged.result item c.each.invariant.tried c.judge-judged.ensures);
      refused = refused_by c.args.anchors.now c.args.chain.now c.args.inputs.now c.each.at c.args.from c.each.left.now _ _ front _ c.each.tried c.judge-judged.result (λ zero. search (rules, zero)) undecided c.judge-judged.ensures c.each.invariant.refused;
    }

pub returns-then-is_decided-clause-tried : goal.returns-then-is_decided-clause-tried
returns-then-is_decided-clause-tried c =
    let front = front_is c.each.left.now _ c.anchor-item.result _ c.in-len1-up.len_at_least c.anchor-item.is refl in
    let item = item_is c.args.anchors.now c.args.chain.now c.args.inputs.now c.each.at c.args.from c.each.left.now _ _ front c.each.invariant.place c.each.invariant.counted in
    subst (Tries c.args.anchors.now c.args.chain.now.octets.items c.args.inputs.now) (sym c.tried_after-tried.ensures)
    (tries_on c.args.anchors.now c.args.chain.now c.args.inputs.now c.each.at _ _ c.each.tried c.judge-judged.result item c.each.invariant.tried c.judge-judged.ensures)

pub returns-clause-refused : goal.returns-clause-refused
returns-clause-refused c = λ undecided.
    all_refused c.args.anchors.now c.args.chain.now c.args.inputs.now c.args.from c.each.left.now (nil_from_length c.each.left.now (omega arith)) c.each.invariant.refused
