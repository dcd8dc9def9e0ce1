use Rattle.std.proofs.Common.{◌≡◌, drop}
use Rattle.std.specs.Cmp.Lexicographic.{slice_cmp}
use Rattle.std.specs.Ordering.{on}
use Rattle.der_tlv.specs.Octets.{lex}
use Rattle.der_elem.proofs.items.cmp_items.Given as goal

-- the remaining pairs decide
abbrev pub invariant-items : goal.invariant-items
invariant-items g l =
    slice_cmp (on g.T.Form.encoding lex) l.items l.others ≡ slice_cmp (on g.T.Form.encoding lex) (drop l.i l.items) (drop l.i l.others)
