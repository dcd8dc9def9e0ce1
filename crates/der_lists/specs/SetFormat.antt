-- The contents octets of sets whose items are in the order of their octets (X.690 8.12, 11.6).
use Rattle.std.specs.Prelude.{ℕ, List, length, false, refl}
use Rattle.std.proofs.Common.{ap, sym}
use Rattle.std.specs.List.{concat}
use Rattle.der_elem.specs.declared.form.Form as form
use Rattle.der_elem.specs.ContentsFormat.{ContentsFormat}
use Rattle.der_nest.specs.BorrowedSets.{parse_borrowed}
use Rattle.der_elem.specs.Parsing.{Parse, ContentsParse}
use Rattle.der_nest.specs.KeptFormat.{no_re_reading, parse_kept}
use Rattle.der_lists.specs.SetsInOrder.{InOrder, AcceptsInOrder, parse_standing}
use Rattle.der_lists.specs.SetsInOrderLaws.{parse_of_in_order, in_order_of_octets}

-- The octets of the items, item by item. They are read under DER, whatever the rules of the octets around them, until nothing is
-- left, or the first error from the left: an item's own, or octets that are less than those of the item before it (11).
abbrev pub set_format : {T : Type 0} → form.Ghosts T → ContentsFormat (List (List ℕ))
set_format F = record {
  contents = concat;
  comparable = λ v w. Unit {0};
  re_reads = λ v. false;
  accepts = λ rules. AcceptsInOrder F;
  parse = parse_borrowed (parse_standing F.parse);
  readable = InOrder F;
  has_tag = λ v t. Unit {0};
  TAKES_MEMORY = F.TAKES_MEMORY;
  FAULTS_FIRST = false;
  parse_of_accepted = parse_of_in_order F;
  faults_of_octets = in_order_of_octets F;
  same_length = λ rules v c a. ap length (sym a.all);
  accepts_contents = λ rules v r. record { all = refl; items = r };
  only_readable = λ rules v c a. a.items;
  accepts_comparable = λ rules v w c d a b. tt;
  re_reads_memory = λ v. no_re_reading F.TAKES_MEMORY;
}

-- the result of parsing the contents octets of such a set: the octets as they were read
abbrev pub parse_kept_set : Parse → ContentsParse
parse_kept_set parse = parse_kept (parse_borrowed (parse_standing parse))
