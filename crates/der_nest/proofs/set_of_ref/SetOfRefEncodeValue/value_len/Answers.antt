use Rattle.std.proofs.Common.{◌≡◌, sym, subst}
use Rattle.std.specs.List.{list_any}
use Rattle.der_elem.specs.Encoding.{Measures}
use Rattle.der_nest.specs.BorrowedSets.{OfItems}
use Rattle.der_nest.specs.ListLaws.{concat-map}
use Rattle.der_nest.proofs.set_of_ref.SetOfRefEncodeValue.value_len.Goals as goal

pub returns-in-Items : goal.returns-in-Items
returns-in-Items g c =
    let items = c.in-Items.items.items.now in
    let is : c.args.self.now ≡ OfItems items = rw c.in-Items.is at (sym c.self.view_is) in
    rw is (subst (λ octets. Measures octets (list_any g.T.Form.re_reads items) c.items_len-in-Items.result) (sym (concat-map g.T.Form.encoding items)) c.items_len-in-Items.ensures)
