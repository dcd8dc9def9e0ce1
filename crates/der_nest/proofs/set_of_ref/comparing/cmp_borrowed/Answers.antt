use Rattle.std.proofs.Common.{rules, ◌≡◌, ◌∙◌, ap, subst, sym}
use Rattle.der_tlv.specs.Octets.{lex}
use Rattle.der_elem.specs.Comparing.{Incomparable}
use Rattle.der_nest.specs.Found.{found_item}
use Rattle.der_nest.proofs.BorrowedOrder.{incomparable_found, right_ends, left_ends, pair_decides, one_more_pair}
use Rattle.der_nest.proofs.set_of_ref.comparing.cmp_borrowed.Goals as goal
use Rattle.der_nest.proofs.set_of_ref.comparing.cmp_borrowed.Goals.{In_ok-order}

pub returns-in_default-next_found : goal.returns-in_default-next_found
returns-in_default-next_found g c =
    let told = rw c.in_ok-item.was at c.in-Some.ensures in
    let none = rw c.in_default-next_found.is at c.next_found-in-Some.ensures in
    right_ends c.items.invariant g.T.Tagged.tag_of g.T.FormValue.value.contents g.met.T.Tagged.encoding_is c.in_ok-item.item c.next_found.new.self told none.0

pub returns-in_err-order : goal.returns-in_err-order
returns-in_err-order g c =
    let told = rw c.in_ok-item.was at c.in-Some.ensures in
    let told' = rw c.in_ok-other.was at c.in-Some-next_found.ensures in
    let kind = c.in_err-order.field-0.0.kind in
    let first = subst (λ x. Incomparable g.T.Form x c.item-in-Some.result.now kind) c.item.ensures c.in_err-order.ensures in
    let both = subst (λ y. Incomparable g.T.Form (found_item c.in_ok-item.item) y kind) c.item-in-Some.ensures first in
    let why = incomparable_found c.items.invariant c.in_ok-item.item c.in_ok-other.other c.next_found.new.self c.next_found-in-Some.new.self told told' kind both in
    search rules

pair_is : (g : _) (c : In_ok-order g) → c.in_ok-order.order ≡ lex (g.T.Form.encoding (found_item c.in_ok-item.item)) (g.T.Form.encoding (found_item c.in_ok-other.other))
pair_is g c =
    c.in_ok-order.ensures ∙ ap (λ x. lex (g.T.Form.encoding x) (g.T.Form.encoding c.item-in-Some.result.now)) c.item.ensures ∙ ap (λ y. lex (g.T.Form.encoding (found_item c.in_ok-item.item)) (g.T.Form.encoding y)) c.item-in-Some.ensures

pub returns-in_default-2 : goal.returns-in_default-2
returns-in_default-2 g c =
    let told = rw c.in_ok-item.was at c.in-Some.ensures in
    let told' = rw c.in_ok-other.was at c.in-Some-next_found.ensures in
    let is = pair_is g (goal.at.returns-in_default-2 g c).In_ok-order in
    pair_decides c.items.invariant g.T.Tagged.tag_of g.T.FormValue.value.contents g.met.T.Tagged.encoding_is c.in_ok-item.item c.in_ok-other.other c.next_found.new.self c.next_found-in-Some.new.self told told' c.in_ok-order.order is c.in_default-2.not-Equal

pub items-preserved-in-Equal : goal.items-preserved-in-Equal
items-preserved-in-Equal g c =
    let told = rw c.in_ok-item.was at c.in-Some.ensures in
    let told' = rw c.in_ok-other.was at c.in-Some-next_found.ensures in
    let is = pair_is g (goal.at.items-preserved-in-Equal g c).In_ok-order in
    one_more_pair c.items.invariant g.T.Tagged.tag_of g.T.FormValue.value.contents g.met.T.Tagged.encoding_is c.in_ok-item.item c.in_ok-other.other c.next_found.new.self c.next_found-in-Some.new.self told told' (sym c.in-Equal.is ∙ is)

pub items-preserved : goal.items-preserved
items-preserved g c =
    let told = rw c.in_ok-item.was at c.in-Some.ensures in
    let told' = rw c.in_ok-other.was at c.in-Some-next_found.ensures in
    let is = pair_is g (goal.at.items-preserved g c).In_ok-order in
    one_more_pair c.items.invariant g.T.Tagged.tag_of g.T.FormValue.value.contents g.met.T.Tagged.encoding_is c.in_ok-item.item c.in_ok-other.other c.next_found.new.self c.next_found-in-Some.new.self told told' (sym c.in-Equal.is ∙ is)

pub returns : goal.returns
returns g c =
    let told = rw c.in_ok-_other.was at c.in-Some-next_found-2.ensures in
    let none = rw c.in_default.is at c.next_found.ensures in
    left_ends c.items.invariant g.T.Tagged.tag_of g.T.FormValue.value.contents g.met.T.Tagged.encoding_is c.in_ok-_other._other c.next_found-2.new.self none.0 told
