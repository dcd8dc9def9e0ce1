-- The laws of sequences up to a capacity, from the laws of their items.
use Rattle.std.proofs.Common.{◌≡◌, ℕ, List, length, Ok, ap, ◌∙◌, arith, flat_map}
use Rattle.der_tlv.specs.declared.encoding_rules.EncodingRules.{EncodingRules}
use Rattle.der_elem.specs.declared.form.Form as form
use Rattle.der_elem.specs.Accepting.{Fits}
use Rattle.der_elem.specs.Items.{AllComparable}
use Rattle.der_nest.specs.Lists.{AcceptsEach, join_encodings}
use Rattle.der_nest.specs.ListLaws.{concat-map, parse_of_each, same_length_each, accepts_each, readable_each, parts_within, all_comparable}
use Rattle.der_nest.specs.SequencesOf.{AcceptsUpTo, ReadableUpTo, parse_sequence_of}

-- items that are accepted from octets are comparable
pub comparable_each : {T : Type 0} (F : form.Ghosts T) (rules : EncodingRules) (vs ws : List T) (c d : List ℕ) → AcceptsEach (F.accepts rules) vs c → AcceptsEach (F.accepts rules) ws d → AllComparable F.comparable vs ws
comparable_each F rules vs ws c d a b =
    all_comparable F rules (length c) (length d) vs ws (parts_within F rules vs c a (length c) (omega arith)) (parts_within F rules ws d b (length d) (omega arith))

module _ {T : Type 0} (F : form.Ghosts T) (rules : EncodingRules) (capacity : ℕ) where
  pub parse_of_sequence : (vs : List T) (p : ℕ) (c : List ℕ) → AcceptsUpTo capacity (F.accepts rules) vs c → Fits c → parse_sequence_of capacity F.parse rules p c ≡ Ok (flat_map F.encoding vs)
  parse_of_sequence vs p c a fits = ap join_encodings (parse_of_each F rules vs capacity p c a.0 a.1 fits) ∙ ap Ok (concat-map F.encoding vs)

  pub same_length_sequence : (vs : List T) (c : List ℕ) → AcceptsUpTo capacity (F.accepts rules) vs c → length (flat_map F.encoding vs) ≡ length c
  same_length_sequence vs c a = same_length_each F rules vs c a.1

  pub accepts_sequence_contents : (vs : List T) → ReadableUpTo capacity F.readable F.encoding vs → AcceptsUpTo capacity (F.accepts rules) vs (flat_map F.encoding vs)
  accepts_sequence_contents vs r = (r.0, accepts_each F rules vs r.1)

  pub readable_sequence : (vs : List T) (c : List ℕ) → AcceptsUpTo capacity (F.accepts rules) vs c → ReadableUpTo capacity F.readable F.encoding vs
  readable_sequence vs c a = (a.0, readable_each F rules vs c a.1)

  pub comparable_sequence : (vs ws : List T) (c d : List ℕ) → AcceptsUpTo capacity (F.accepts rules) vs c → AcceptsUpTo capacity (F.accepts rules) ws d → AllComparable F.comparable vs ws
  comparable_sequence vs ws c d a b = comparable_each F rules vs ws c d a.1 b.1
