use Rattle.std.proofs.Common.{rules, ◌≡◌, ◌<◌, ◌-◌, length, get_or, suc}
use Rattle.der_elem.proofs.ItemWriting.{re_reads_at}
use Rattle.der_elem.proofs.BackWriting.{room_at, put_at}
use Rattle.der_elem.proofs.items.encode_items_back.Goals as goal

pub encode_back-requires : goal.encode_back-requires
encode_back-requires g c =
    let xs = c.args.items.now in
    let i = c.items.left - 1 in
    let x = c.index-items-left.result in
    let next : c.items.left ≡ suc i = search rules in
    let inside : i < length xs = search rules in
    let here : get_or xs i x ≡ x = search rules in
    room_at g.T.Form.encoding xs c.items.left i x next inside here c.items.invariant.written c.requires
