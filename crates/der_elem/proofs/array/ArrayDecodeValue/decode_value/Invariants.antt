use Rattle.std.proofs.Common.{◌≡◌, length, take}
use Rattle.der_elem.proofs.ArrayReading.{ArraySoFar}
use Rattle.der_elem.proofs.array.ArrayDecodeValue.decode_value.Given as goal

-- the items before this one were read
abbrev pub invariant-items : goal.invariant-items
invariant-items g l = record { whole : length l.items ≡ g.row.N; so_far : ArraySoFar g.T.Form g.row.N (g.R.Source.state l.fn.reader) (g.R.Source.state l.reader) (take l.i l.items) }
