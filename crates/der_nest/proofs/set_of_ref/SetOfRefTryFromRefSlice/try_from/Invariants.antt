use Rattle.std.proofs.Common.{take}
use Rattle.der_nest.specs.Places.{IsInOrder}
use Rattle.der_nest.proofs.set_of_ref.SetOfRefTryFromRefSlice.try_from.Given as goal

-- the items before this one are in order
abbrev pub invariant-items : goal.invariant-items
invariant-items g l = IsInOrder g.T.Form.encoding (take l.i l.items)
