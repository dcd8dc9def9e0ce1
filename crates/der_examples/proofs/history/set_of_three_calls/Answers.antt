use Rattle.std.proofs.Common.{[], ◌∷◌, ◌++◌, sym, subst}
use Rattle.der_asn1_types.specs.Places.{IsInOrder}
use Rattle.der_asn1_types.specs.Stable.{IsSetOf}
use Rattle.der_examples.proofs.history.set_of_three_calls.Goals as goal

pub returns : goal.returns
returns g c =
    let law = c.set_of_what_came.ensures in
    let e = g.T.Form.encoding in
    let items = c.args.items in
    let x = c.args.inserted in
    let y = c.args.last in
    let first : IsSetOf e items c.in_ok-set.set = subst (IsSetOf e items) (sym c.in_ok-set.ensures.ok) (law.extended [] [] items law.none) in
    let second : IsSetOf e (items ++ x ∷ []) c.insert.new.self = subst (IsSetOf e (items ++ x ∷ [])) (sym c.in_ok-insert.ensures.ok) (law.inserted items c.in_ok-set.set x first) in
    let up : IsInOrder e (c.insert.new.self ++ y ∷ []) = subst (IsInOrder e) c.in_ok-insert_ordered.ensures.ok c.in_ok-insert_ordered.ensures.in_order in
    subst (IsSetOf e (items ++ x ∷ [] ++ y ∷ [])) (sym c.in_ok-insert_ordered.ensures.ok) (law.ordered (items ++ x ∷ []) c.insert.new.self y second up)
