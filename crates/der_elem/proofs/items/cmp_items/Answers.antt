use Rattle.std.proofs.Common.{rules, ◌≡◌, length, drop, min}
use Rattle.std.specs.Cmp.Lexicographic.{slice_cmp}
use Rattle.std.specs.Ordering.{on, nat_cmp}
use Rattle.der_tlv.specs.Octets.{lex}
use Rattle.der_elem.specs.OrderLaws.{lex-items}
use Rattle.der_elem.proofs.Ordered.{decided_at, cmp_end, incomparable_item}
use Rattle.der_elem.proofs.items.cmp_items.Goals as goal

pub returns-in_err-order : goal.returns-in_err-order
returns-in_err-order g c =
    let v = c.index-items-i.result in
    let w = c.index-others-i.result in
    let why = incomparable_item g.T.Form c.args.items.now c.args.others.now c.items.i v w (search rules) (search rules) (search rules) (search rules) c.in_err-order.field-0.0.kind c.in_err-order.ensures in
    search rules

pub returns-in_default : goal.returns-in_default
returns-in_default g c =
    let v = c.index-items-i.result in
    let w = c.index-others-i.result in
    let vs = c.args.items.now in
    let ws = c.args.others.now in
    let joined = lex-items g.T.Tagged.tag_of g.T.FormValue.value.contents g.T.Form.encoding g.met.T.Tagged.encoding_is vs ws in
    let decided = decided_at (on g.T.Form.encoding lex) vs ws c.items.i v w c.in_ok-order.order (search rules) (search rules) (search rules) (search rules) c.items.invariant c.in_ok-order.ensures c.in_default.not-Equal in
    cc

pub returns : goal.returns
returns g c =
    let vs = c.args.items.now in
    let ws = c.args.others.now in
    let end : c.items.i ≡ min (length vs) (length ws) = search rules in
    let joined = lex-items g.T.Tagged.tag_of g.T.FormValue.value.contents g.T.Form.encoding g.met.T.Tagged.encoding_is vs ws in
    let counts : slice_cmp (on g.T.Form.encoding lex) (drop c.items.i vs) (drop c.items.i ws) ≡ nat_cmp (length vs) (length ws) = cmp_end (on g.T.Form.encoding lex) vs ws c.items.i end in
    let invariant = c.items.invariant in
    let count : c.cmp.result ≡ nat_cmp (length vs) (length ws) = search rules in
    cc
