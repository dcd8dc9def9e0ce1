-- The laws of sets whose items are in the order of their octets.
use Rattle.std.proofs.Common.{◌≡◌, ℕ, suc, ◌+◌, ◌-◌, ◌≤◌, List, [], ◌∷◌, ◌++◌, length, drop, Result, Ok, Err, refl, sym, ap, ◌∙◌, arith, append_assoc}
use Rattle.std.specs.List.{All, concat}
use Rattle.std.proofs.lemmas.List.{length-append, append-nil}
use Rattle.std.proofs.lemmas.List.Elements.{All-head, All-tail}
use Rattle.std.proofs.Math.Seq.{take-append_seam, drop-append_seam}
use Rattle.der_tlv.specs.declared.error.ErrorKind.{ErrorKind}
use Rattle.der_tlv.specs.declared.encoding_rules.EncodingRules.{EncodingRules}
use Rattle.der_tlv.specs.declared.encoding_rules.EncodingRules.TheVariants.{Der}
use Rattle.der_tlv.specs.OctetFaults.{IsOfOctets}
use Rattle.der_elem.specs.declared.form.Form as form
use Rattle.der_elem.specs.Accepting.{Fits}
use Rattle.der_nest.specs.Lists.{before_others, join_encodings}
use Rattle.der_nest.specs.BorrowedSets.{then_in_order, parse_in_order, parse_borrowed_items, parse_borrowed}
use Rattle.der_nest.specs.BorrowedLaws.{Follow, last_of, follow_in_order, before_all, before_all-none, parse_in_order-end, parse_in_order-step}
use Rattle.der_nest.specs.OctetFaultLaws.{borrowed_of_octets}
use Rattle.der_lists.specs.SetsInOrder.{IsItem, AcceptsInOrder, as_it_stands, parse_standing}

before_all-cons : (e : List ℕ) (es : List (List ℕ)) (r : Result (List (List ℕ)) ErrorKind) → before_others e (before_all es r) ≡ before_all (e ∷ es) r
before_all-cons e es (Ok others) = refl
before_all-cons e es (Err k) = refl

standing_of_octets : (octets : List ℕ) (r : Result (ℕ × List ℕ) ErrorKind) → IsOfOctets r → IsOfOctets (as_it_stands octets r)
standing_of_octets octets (Ok (n, encoding)) h = tt
standing_of_octets octets (Err kind) h = h

module _ {T : Type 0} (F : form.Ghosts T) where
  -- there are no more items than octets
  pub few_parts : (parts : List (List ℕ)) → All (IsItem F) parts → length parts ≤ length (concat parts)
  few_parts [] each = omega arith
  few_parts (part ∷ parts) each =
      let some = (All-head (IsItem F) part parts each).some in
      let h = few_parts parts (All-tail (IsItem F) part parts each) in
      omega (arith, length-append part (concat parts))

  -- the octets of an item are parsed as they were read
  pub standing_parsed : (part : List ℕ) (p : ℕ) (c : List ℕ) → IsItem F part → Fits part → parse_standing F.parse Der p (part ++ c) ≡ Ok (length part, part)
  standing_parsed [] p c one fits = let some = one.some in absurd (omega arith)
  standing_parsed (y ∷ s) p c one fits =
      ap (as_it_stands (y ∷ s ++ c)) (F.parse_of_accepted Der one.item p (y ∷ s) c one.accepted fits tt) ∙ ap (λ t. Ok (suc (length s), t)) (take-append_seam (y ∷ s) c)

  -- items that follow one another are parsed, and then the others
  pub parts_parsed : (parts : List (List ℕ)) (more : ℕ) (last : List ℕ) (p : ℕ) (c : List ℕ) → All (IsItem F) parts → Follow last parts → Fits (concat parts) → parse_in_order (length parts + more) (parse_standing F.parse) last p (concat parts ++ c) ≡ before_all parts (parse_in_order more (parse_standing F.parse) (last_of last parts) (p + length (concat parts)) c)
  parts_parsed [] more last p c each follow fits =
      let n : 0 + more ≡ more = omega arith in
      let q : p + 0 ≡ p = omega arith in
      rw (n, q) (before_all-none (parse_in_order more (parse_standing F.parse) last p c))
  parts_parsed ([] ∷ parts) more last p c each follow fits = let some = (All-head (IsItem F) [] parts each).some in absurd (omega arith)
  parts_parsed ((y ∷ s) ∷ parts) more last p c each follow fits =
      let one = All-head (IsItem F) (y ∷ s) parts each in
      let count : suc (length parts) + more ≡ suc (length parts + more) = omega arith in
      let both = length-append (y ∷ s) (concat parts) in
      let parsed = standing_parsed (y ∷ s) p (concat parts ++ c) one (omega arith) in
      let len : p + suc (length s) + length (concat parts) ≡ p + length ((y ∷ s) ++ concat parts) = omega arith in
      ap (λ n. parse_in_order n (parse_standing F.parse) last p (((y ∷ s) ++ concat parts) ++ c)) count
      ∙ ap (parse_in_order (suc (length parts + more)) (parse_standing F.parse) last p) (append_assoc (y ∷ s) (concat parts) c)
      ∙ parse_in_order-step (length parts + more) (parse_standing F.parse) last p ((y ∷ s) ++ (concat parts ++ c)) (omega arith)
      ∙ ap (λ r. then_in_order last r (λ n f. parse_in_order (length parts + more) (parse_standing F.parse) f (p + n) (drop n ((y ∷ s) ++ (concat parts ++ c))))) parsed
      ∙ rw (follow.0) refl
      ∙ ap (λ t. before_others (y ∷ s) (parse_in_order (length parts + more) (parse_standing F.parse) (y ∷ s) (p + suc (length s)) t)) (drop-append_seam s (concat parts ++ c))
      ∙ ap (before_others (y ∷ s)) (parts_parsed parts more (y ∷ s) (p + suc (length s)) c (All-tail (IsItem F) (y ∷ s) parts each) follow.1 (omega arith))
      ∙ before_all-cons (y ∷ s) parts (parse_in_order more (parse_standing F.parse) (last_of (y ∷ s) parts) (p + suc (length s) + length (concat parts)) c)
      ∙ ap (λ q. before_all ((y ∷ s) ∷ parts) (parse_in_order more (parse_standing F.parse) (last_of (y ∷ s) parts) q c)) len

  -- octets that are accepted are parsed as the items' octets
  pub parse_of_parts : (parts : List (List ℕ)) (c : List ℕ) → AcceptsInOrder F parts c → Fits c → parse_borrowed_items (parse_standing F.parse) c ≡ Ok parts
  parse_of_parts parts c a fits =
      let n = few_parts parts a.items.each in
      let l = ap length a.all in
      let count : length c ≡ length parts + (length c - length parts) = omega arith in
      ap (λ n. parse_in_order n (parse_standing F.parse) [] 0 c) count
      ∙ ap (parse_in_order (length parts + (length c - length parts)) (parse_standing F.parse) [] 0) (a.all ∙ sym (append-nil (concat parts)))
      ∙ parts_parsed parts (length c - length parts) [] 0 [] a.items.each (follow_in_order parts a.items.in_order) (omega arith)
      ∙ ap (before_all parts) (parse_in_order-end (length c - length parts) (parse_standing F.parse) (last_of [] parts) (0 + length (concat parts)))
      ∙ ap Ok (append-nil parts)

  pub parse_of_in_order : (rules : EncodingRules) (parts : List (List ℕ)) (p : ℕ) (c : List ℕ) → AcceptsInOrder F parts c → Fits c → parse_borrowed (parse_standing F.parse) rules p c ≡ Ok (concat parts)
  parse_of_in_order rules parts p c a fits = ap join_encodings (parse_of_parts parts c a fits)

  pub in_order_of_octets : (rules : EncodingRules) (p : ℕ) (c : List ℕ) → IsOfOctets (parse_borrowed (parse_standing F.parse) rules p c)
  in_order_of_octets = borrowed_of_octets (parse_standing F.parse) (λ rules p c. standing_of_octets c (F.parse rules p c) (F.faults_of_octets rules p c))
