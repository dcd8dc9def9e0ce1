-- Sequences that keep the contents octets that their items were read from (X.690 8.10).
use Rattle.std.specs.Prelude.{◌≡◌, ℕ, ◌<◌, List, length, map, false}
use Rattle.std.proofs.Common.{flat_map, ap}
use Rattle.std.specs.List.{All, list_any}
use Rattle.der_tlv.specs.declared.encoding_rules.EncodingRules.TheVariants.{Der}
use Rattle.der_elem.specs.declared.form.Form as form
use Rattle.der_elem.specs.Parsing.{Parse, ContentsParse}
use Rattle.der_elem.specs.Accepting.{Fits}
use Rattle.der_elem.specs.ContentsFormat.{ContentsFormat}
use Rattle.der_elem.specs.Items.{AllComparable}
use Rattle.der_elem.specs.ArrayLaws.{re_reads_items}
use Rattle.der_nest.specs.Lists.{AcceptsEach}
use Rattle.der_nest.specs.ListLaws.{length-each, parse_of_each, same_length_each, accepts_each, readable_each}
use Rattle.der_nest.specs.SequencesOf.{parse_sequence_of}
use Rattle.der_nest.specs.SequenceLaws.{parse_of_sequence, comparable_each}
use Rattle.der_nest.specs.OctetFaultLaws.{items_up_to_of_octets}
use Rattle.der_nest.specs.ReReading.{encodings_or_none, encodings_read}

-- item after item until nothing is left, or the first error from the left; the number of items is at most that of the octets
abbrev pub parse_all_items : Parse → ContentsParse
parse_all_items parse rules p octets = parse_sequence_of (length octets) parse rules p octets

-- the encodings of the items that contents octets are read as, from position 0 and under DER
abbrev pub item_encodings : Parse → List ℕ → List (List ℕ)
item_encodings parse octets = encodings_read (length octets) parse Der 0 octets

-- the contents octets of items, one after another
abbrev pub items_format : {T : Type 0} → form.Ghosts T → ContentsFormat (List T)
items_format F = record {
  contents = flat_map F.encoding;
  comparable = AllComparable F.comparable;
  re_reads = list_any F.re_reads;
  accepts = λ rules. AcceptsEach (F.accepts rules);
  parse = parse_all_items F.parse;
  readable = All (λ v. F.readable v × (0 < length (F.encoding v)));
  has_tag = λ vs t. Unit {0};
  TAKES_MEMORY = F.TAKES_MEMORY;
  FAULTS_FIRST = false;
  parse_of_accepted = λ rules vs p c a. parse_of_sequence F rules (length c) vs p c (length-each (F.accepts rules) vs c a, a);
  faults_of_octets = λ rules p c. items_up_to_of_octets F.parse F.faults_of_octets (length c) rules p c;
  same_length = λ rules. same_length_each F rules;
  accepts_contents = λ rules. accepts_each F rules;
  only_readable = λ rules. readable_each F rules;
  accepts_comparable = λ rules. comparable_each F rules;
  re_reads_memory = re_reads_items F;
}

-- octets that are read as items have the items' encodings
pub encodings_of_items : {T : Type 0} (F : form.Ghosts T) (vs : List T) (octets : List ℕ) → AcceptsEach (F.accepts Der) vs octets → Fits octets → item_encodings F.parse octets ≡ map F.encoding vs
encodings_of_items F vs octets a fits = ap encodings_or_none (parse_of_each F Der vs (length octets) 0 octets (length-each (F.accepts Der) vs octets a) a fits)
