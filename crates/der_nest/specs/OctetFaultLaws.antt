-- The errors of lists and sets are errors of their octets, if those of the items are.
use Rattle.std.proofs.Common.{ℕ, zero, suc, ◌+◌, List, [], ◌∷◌, length, drop, Result, Ok, Err, refl}
use Rattle.std.specs.Ordering.{is_le}
use Rattle.der_tlv.specs.declared.error.ErrorKind.{ErrorKind}
use Rattle.der_tlv.specs.declared.error.ErrorKind.TheVariants.{SetOrdering}
use Rattle.der_tlv.specs.declared.encoding_rules.EncodingRules.{EncodingRules}
use Rattle.der_tlv.specs.declared.encoding_rules.EncodingRules.TheVariants.{Der}
use Rattle.der_tlv.specs.OctetFaults.{IsOfOctets, of_octets_either}
use Rattle.der_tlv.specs.Octets.{lex}
use Rattle.der_elem.specs.Parsing.{Parse}
use Rattle.der_nest.specs.Lists.{before_others, then_others, one_too_many, parse_up_to, parse_each, join_encodings}
use Rattle.der_nest.specs.SequencesOf.{parse_sequence_of}
use Rattle.der_nest.specs.Sets.{joined_in_order, parse_set_up_to, parse_set}
use Rattle.der_nest.specs.BorrowedSets.{then_in_order, parse_in_order_up_to, parse_in_order, parse_borrowed_items, parse_borrowed}

before_of_octets : (encoding : List ℕ) (r : Result (List (List ℕ)) ErrorKind) → IsOfOctets r → IsOfOctets (before_others encoding r)
before_of_octets encoding (Ok others) h = tt
before_of_octets encoding (Err k) h = h

then_of_octets : (r : Result (ℕ × List ℕ) ErrorKind) (others : ℕ → Result (List (List ℕ)) ErrorKind) → IsOfOctets r → ((n : ℕ) → IsOfOctets (others n)) → IsOfOctets (then_others r others)
then_of_octets (Err k) others h hs = h
then_of_octets (Ok (n, encoding)) others h hs = before_of_octets encoding (others n) (hs n)

one_too_many_of_octets : (r : Result (ℕ × List ℕ) ErrorKind) → IsOfOctets r → IsOfOctets (one_too_many r)
one_too_many_of_octets (Err k) h = h
one_too_many_of_octets (Ok item) h = refl

joined_of_octets : (r : Result (List (List ℕ)) ErrorKind) → IsOfOctets r → IsOfOctets (join_encodings r)
joined_of_octets (Ok encodings) h = tt
joined_of_octets (Err k) h = h

in_order_of_octets : (r : Result (List (List ℕ)) ErrorKind) → IsOfOctets r → IsOfOctets (joined_in_order r)
in_order_of_octets (Ok encodings) h = tt
in_order_of_octets (Err k) h = h

then_in_order_of_octets : (last : List ℕ) (r : Result (ℕ × List ℕ) ErrorKind) (others : ℕ → List ℕ → Result (List (List ℕ)) ErrorKind) → IsOfOctets r → ((n : ℕ) (encoding : List ℕ) → IsOfOctets (others n encoding)) → IsOfOctets (then_in_order last r others)
then_in_order_of_octets last (Err k) others h hs = h
then_in_order_of_octets last (Ok (n, encoding)) others h hs =
    of_octets_either (is_le (lex last encoding)) (before_others encoding (others n encoding)) (Err SetOrdering) (before_of_octets encoding (others n encoding) (hs n encoding)) refl

module _ (parse : Parse) (of_octets : (rules : EncodingRules) (p : ℕ) (c : List ℕ) → IsOfOctets (parse rules p c)) where
  up_to_of_octets : (rules : EncodingRules) (capacity p : ℕ) (c : List ℕ) → IsOfOctets (parse_up_to capacity (parse rules) p c)
  up_to_of_octets rules zero p [] = tt
  up_to_of_octets rules zero p (x ∷ xs) = one_too_many_of_octets (parse rules p (x ∷ xs)) (of_octets rules p (x ∷ xs))
  up_to_of_octets rules (suc more) p [] = tt
  up_to_of_octets rules (suc more) p (x ∷ xs) =
      then_of_octets (parse rules p (x ∷ xs)) _ (of_octets rules p (x ∷ xs)) (λ n. up_to_of_octets rules more (p + n) (drop n (x ∷ xs)))

  each_of_octets : (capacity : ℕ) (rules : EncodingRules) (p : ℕ) (c : List ℕ) → IsOfOctets (parse_each capacity parse rules p c)
  unfolding parse_each
  each_of_octets capacity rules p c = up_to_of_octets rules capacity p c

  pub items_up_to_of_octets : (capacity : ℕ) (rules : EncodingRules) (p : ℕ) (c : List ℕ) → IsOfOctets (parse_sequence_of capacity parse rules p c)
  items_up_to_of_octets capacity rules p c = joined_of_octets (parse_each capacity parse rules p c) (each_of_octets capacity rules p c)

  pub set_up_to_of_octets : (capacity : ℕ) (rules : EncodingRules) (p : ℕ) (c : List ℕ) → IsOfOctets (parse_set_up_to capacity parse rules p c)
  set_up_to_of_octets capacity rules p c = in_order_of_octets (parse_each capacity parse rules p c) (each_of_octets capacity rules p c)

  pub set_of_octets : (rules : EncodingRules) (p : ℕ) (c : List ℕ) → IsOfOctets (parse_set parse rules p c)
  set_of_octets rules p c = set_up_to_of_octets (length c) rules p c

  in_order_up_to_of_octets : (more : ℕ) (last : List ℕ) (p : ℕ) (c : List ℕ) → IsOfOctets (parse_in_order_up_to more (parse Der) last p c)
  in_order_up_to_of_octets zero last p c = tt
  in_order_up_to_of_octets (suc more) last p [] = tt
  in_order_up_to_of_octets (suc more) last p (x ∷ xs) =
      then_in_order_of_octets last (parse Der p (x ∷ xs)) _ (of_octets Der p (x ∷ xs)) (λ n encoding. in_order_up_to_of_octets more encoding (p + n) (drop n (x ∷ xs)))

  borrowed_items_of_octets : (c : List ℕ) → IsOfOctets (parse_borrowed_items parse c)
  unfolding parse_in_order
  borrowed_items_of_octets c = in_order_up_to_of_octets (length c) [] 0 c

  pub borrowed_of_octets : (rules : EncodingRules) (p : ℕ) (c : List ℕ) → IsOfOctets (parse_borrowed parse rules p c)
  borrowed_of_octets rules p c = joined_of_octets (parse_borrowed_items parse c) (borrowed_items_of_octets c)
