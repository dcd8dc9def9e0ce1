-- The final items of a sequence whose items are lent for writing.
use Rattle.std.specs.Prelude.{List, length}
use Rattle.std.specs.List.{refill}
use Rattle.std.specs.Borrow.{Lends, Fml, RattleType, MutBor, Array}
use Rattle.der_nest.specs.contracts.sequence_of.SequenceOf.{the_row}

-- once the borrow ends, the items of the sequence are the last items of the borrow
abbrev pub lends_items : (T N : RattleType) → MutBor (List T.Denot) → MutBor (List T.Denot) → Fml
lends_items T N s r = Lends (the_row T N) (Array T 0) s r (refill (length s.now) s.now)
