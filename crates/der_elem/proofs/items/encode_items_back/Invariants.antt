use Rattle.std.proofs.Common.{◌≤◌, length, flat_map, drop}
use Rattle.der_tlv.specs.WritingBack.{Put}
use Rattle.der_elem.proofs.items.encode_items_back.Given as goal

-- the items from this one on were written
abbrev pub invariant-items : goal.invariant-items
invariant-items g l = record {
  inside : l.left ≤ length l.items;
  written : Put (flat_map g.T.Form.encoding (drop l.left l.items)) (g.W.Writer.state l.fn.writer) (g.W.Writer.state l.writer);
}

abbrev pub decreases-items : goal.decreases-items
decreases-items g l = l.left
