-- The result of comparing two borrowed sets.
use Rattle.std.specs.Prelude.{Result}
use Rattle.std.specs.declared.cmp.Ordering.{Ordering}
use Rattle.der_tlv.specs.declared.error.ErrorKind.{ErrorKind}
use Rattle.der_tlv.specs.declared.error.Error.{Error}
use Rattle.der_elem.specs.declared.form.Form as form
use Rattle.der_elem.specs.Comparing.{IncomparableOctets, ComparesOctets}
use Rattle.der_nest.specs.BorrowedSets.{Borrowed, borrowed_contents, re_reads_borrowed, ComparableBorrowed}

-- why the contents octets of two sets are not compared
abbrev pub IncomparableBorrowed : {T : Type 0} → form.Ghosts T → Borrowed T → Borrowed T → ErrorKind → Type 0
IncomparableBorrowed F v w = IncomparableOctets (borrowed_contents F.encoding v) (borrowed_contents F.encoding w) (ComparableBorrowed F v w → ⊥) (re_reads_borrowed F v) (re_reads_borrowed F w)

-- the result of comparing the contents octets of two sets
abbrev pub ComparesBorrowed : {T : Type 0} → form.Ghosts T → Borrowed T → Borrowed T → Result Ordering Error → Type 0
ComparesBorrowed F v w = ComparesOctets (borrowed_contents F.encoding v) (borrowed_contents F.encoding w) (ComparableBorrowed F v w → ⊥) (re_reads_borrowed F v) (re_reads_borrowed F w)
