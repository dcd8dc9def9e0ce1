use Rattle.std.proofs.Common.{◌≡◌, length, take}
use Rattle.der_elem.specs.Items.{AreCopies}
use Rattle.der_nest.proofs.items.duplicate_items.Given as goal

-- the items before this one were copied
abbrev pub invariant-items : goal.invariant-items
invariant-items g l = record { counted : length l.copies.items ≡ l.item-index; copied : AreCopies g.T.Duplicate.is_copy (take l.item-index l.items) l.copies.items }
