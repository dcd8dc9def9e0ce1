-- An item of a borrowed set, lent or read again.
use Rattle.der_nest.specs.declared.set_of_ref.found.Found.{Found}
use Rattle.der_nest.specs.declared.set_of_ref.found.Found.TheVariants.{Read, Lent}

-- the item
abbrev pub found_item : {T : Type 0} → Found T → T
found_item (Read item) = item
found_item (Lent item) = item.now
