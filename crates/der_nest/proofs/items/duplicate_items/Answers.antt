use Rattle.std.proofs.Common.{rules, ◌≡◌, ◌++◌, ◌∷◌, [], take, length, arith, subst, sym, ap, ◌+◌}
use Rattle.std.proofs.lemmas.List.{length-append}
use Rattle.der_elem.specs.Items.{AreCopies}
use Rattle.der_elem.proofs.Copied.{copies_more}
use Rattle.der_nest.proofs.items.duplicate_items.Goals as goal

pub items-preserved : goal.items-preserved
items-preserved g c =
    let xs = c.args.items.now in
    let i = c.items.item-index in
    let pushed : c.push.new.self.items ≡ c.items.copies.items ++ c.in_ok-duplicate.field-0 ∷ [] = c.push.ensures.items in
    record {
      counted = let n = c.items.invariant.counted in omega (arith, ap length pushed, length-append c.items.copies.items (c.in_ok-duplicate.field-0 ∷ []));
      copied = subst (AreCopies g.T.Duplicate.is_copy (take (i + 1) xs)) (sym pushed) (copies_more g.T.Duplicate.is_copy xs c.items.copies.items i c.item-item.result c.in_ok-duplicate.field-0 (search rules) (search rules) c.items.invariant.copied c.in_ok-duplicate.ensures.ok);
    }
