-- The results of comparing two lists of items.
use Rattle.std.specs.Prelude.{List, flat_map, Result}
use Rattle.std.specs.List.{list_any}
use Rattle.std.specs.declared.cmp.Ordering.{Ordering}
use Rattle.der_tlv.specs.declared.error.ErrorKind.{ErrorKind}
use Rattle.der_tlv.specs.declared.error.Error.{Error}
use Rattle.der_elem.specs.declared.form.Form as form
use Rattle.der_elem.specs.Comparing.{IncomparableOctets, ComparesOctets}
use Rattle.der_elem.specs.Items.{AllComparable}

-- why the contents octets of two lists are not compared
abbrev pub IncomparableItems : {T : Type 0} → form.Ghosts T → List T → List T → ErrorKind → Type 0
IncomparableItems F vs ws = IncomparableOctets (flat_map F.encoding vs) (flat_map F.encoding ws) (AllComparable F.comparable vs ws → ⊥) (list_any F.re_reads vs) (list_any F.re_reads ws)

-- the result of comparing the contents octets of two lists
abbrev pub ComparesItems : {T : Type 0} → form.Ghosts T → List T → List T → Result Ordering Error → Type 0
ComparesItems F vs ws = ComparesOctets (flat_map F.encoding vs) (flat_map F.encoding ws) (AllComparable F.comparable vs ws → ⊥) (list_any F.re_reads vs) (list_any F.re_reads ws)
