-- The laws of lists of a fixed number of items, from those of the items.
use Rattle.std.specs.List.{list_any}
use Rattle.std.proofs.Common.{◌≡◌, ℕ, zero, suc, ◌+◌, ◌<◌, List, [], ◌∷◌, ◌++◌, length, drop, true, Result, Ok, Err, refl, sym, ap, ◌∙◌, arith, inl, inr, flat_map}
use Rattle.std.proofs.lemmas.Bool.{or_cases}
use Rattle.std.proofs.Math.Seq.{drop-append_seam}
use Rattle.der_tlv.specs.declared.error.ErrorKind.{ErrorKind}
use Rattle.der_tlv.specs.declared.error.ErrorKind.TheVariants.{Length}
use Rattle.der_tlv.specs.declared.tag.Tag.TheVariants.{Sequence}
use Rattle.der_tlv.specs.declared.encoding_rules.EncodingRules.{EncodingRules}
use Rattle.der_tlv.specs.OctetFaults.{IsOfOctets}
use Rattle.der_elem.specs.declared.form.Form as form
use Rattle.der_elem.specs.Parsing.{Parse}
use Rattle.der_elem.specs.Accepting.{Fits}
use Rattle.der_elem.specs.Items.{AcceptsItems, EachItem, AllComparable, join_items}
use Rattle.der_elem.specs.ItemLaws.{join_of_octets, first_fits, others_fit, same_length_items, comparable_items}
use Rattle.der_elem.specs.Arrays.{AcceptsArray, ReadableArray, then_item, too_many, parse_so_many, parse_array}

pub parse_array-end : (parse : Parse) (rules : EncodingRules) (p : ℕ) → parse_array 0 parse rules p [] ≡ Ok []
unfolding parse_array
parse_array-end parse rules p = refl

pub parse_array-short : (count : ℕ) (parse : Parse) (rules : EncodingRules) (p : ℕ) → parse_array (suc count) parse rules p [] ≡ Err (Length Sequence)
unfolding parse_array
parse_array-short count parse rules p = refl

pub parse_array-over : (parse : Parse) (rules : EncodingRules) (p : ℕ) (c : List ℕ) → 0 < length c → parse_array 0 parse rules p c ≡ too_many (parse rules p c)
unfolding parse_array
parse_array-over parse rules p [] h = absurd (omega arith)
parse_array-over parse rules p (x ∷ xs) h = refl

pub parse_array-step : (count : ℕ) (parse : Parse) (rules : EncodingRules) (p : ℕ) (c : List ℕ) → 0 < length c → parse_array (suc count) parse rules p c ≡ then_item (parse rules p c) (λ n. parse_array count parse rules (p + n) (drop n c))
unfolding parse_array
parse_array-step count parse rules p [] h = absurd (omega arith)
parse_array-step count parse rules p (x ∷ xs) h = refl

-- the errors of a list are in its octets, if those of its items are
then_item_of_octets : (r : Result (ℕ × List ℕ) ErrorKind) (others : ℕ → Result (List ℕ) ErrorKind) → IsOfOctets r → ((n : ℕ) → IsOfOctets (others n)) → IsOfOctets (then_item r others)
then_item_of_octets (Err k) others h hs = h
then_item_of_octets (Ok (n, octets)) others h hs = join_of_octets octets (others n) (hs n)

pub too_many_of_octets : (r : Result (ℕ × List ℕ) ErrorKind) → IsOfOctets r → IsOfOctets (too_many r)
too_many_of_octets (Err k) h = h
too_many_of_octets (Ok item) h = refl

pub array_of_octets : (count : ℕ) (parse : Parse) → ((rules : EncodingRules) (p : ℕ) (c : List ℕ) → IsOfOctets (parse rules p c)) → (rules : EncodingRules) (p : ℕ) (c : List ℕ) → IsOfOctets (parse_array count parse rules p c)
unfolding parse_array
array_of_octets count parse h rules p c = so_many count p c
  where
    so_many : (count p : ℕ) (c : List ℕ) → IsOfOctets (parse_so_many count (parse rules) p c)
    so_many zero p [] = tt
    so_many zero p (x ∷ xs) = too_many_of_octets (parse rules p (x ∷ xs)) (h rules p (x ∷ xs))
    so_many (suc count) p [] = refl
    so_many (suc count) p (x ∷ xs) = then_item_of_octets (parse rules p (x ∷ xs)) _ (h rules p (x ∷ xs)) (λ n. so_many count (p + n) (drop n (x ∷ xs)))

-- the items, without the requirements on their octets
accepts_parts : {T : Type 0} (accepts : T → List ℕ → Type 0) (vs : List T) (c : List ℕ) → AcceptsItems (λ v part. accepts v part × (0 < length part)) vs c → AcceptsItems accepts vs c
accepts_parts accepts [] c e = e
accepts_parts accepts (v ∷ vs) c (b, d, e, a, others) = (b, d, e, a.0, accepts_parts accepts vs d others)

module _ {T : Type 0} (F : form.Ghosts T) (rules : EncodingRules) where
  parse_of_so_many : (vs : List T) (p : ℕ) (c : List ℕ) → AcceptsItems (λ v part. F.accepts rules v part × (0 < length part)) vs c → Fits c → parse_array (length vs) F.parse rules p c ≡ Ok (flat_map F.encoding vs)
  parse_of_so_many [] p c e fits = ap (parse_array 0 F.parse rules p) e ∙ parse_array-end F.parse rules p
  parse_of_so_many (v ∷ vs) p c ([], d, e, a, others) fits = let some = a.1 in absurd (omega arith)
  parse_of_so_many (v ∷ vs) p c (y ∷ b, d, e, a, others) fits =
      ap (parse_array (suc (length vs)) F.parse rules p) e
      ∙ parse_array-step (length vs) F.parse rules p (y ∷ (b ++ d)) (omega arith)
      ∙ ap (λ r. then_item r (λ n. parse_array (length vs) F.parse rules (p + n) (drop n (y ∷ (b ++ d))))) (F.parse_of_accepted rules v p (y ∷ b) d a.0 (first_fits c (y ∷ b) d e fits) tt)
      ∙ ap (λ t. join_items (F.encoding v) (parse_array (length vs) F.parse rules (p + suc (length b)) t)) (drop-append_seam b d)
      ∙ ap (join_items (F.encoding v)) (parse_of_so_many vs (p + suc (length b)) d others (others_fit c (y ∷ b) d e fits))

  pub parse_of_array : (count : ℕ) (vs : List T) (p : ℕ) (c : List ℕ) → AcceptsArray (F.accepts rules) count vs c → Fits c → parse_array count F.parse rules p c ≡ Ok (flat_map F.encoding vs)
  parse_of_array count vs p c a fits = ap (λ n. parse_array n F.parse rules p c) (sym a.0) ∙ parse_of_so_many vs p c a.1 fits

  pub same_length_array : (count : ℕ) (vs : List T) (c : List ℕ) → AcceptsArray (F.accepts rules) count vs c → length (flat_map F.encoding vs) ≡ length c
  same_length_array count vs c a = same_length_items F rules vs c (accepts_parts (F.accepts rules) vs c a.1)

  accepts_each : (vs : List T) → EachItem (λ v. F.readable v × (0 < length (F.encoding v))) vs → AcceptsItems (λ v part. F.accepts rules v part × (0 < length part)) vs (flat_map F.encoding vs)
  accepts_each [] r = refl
  accepts_each (v ∷ vs) (r, others) = (F.encoding v, flat_map F.encoding vs, refl, (F.accepts_encoding rules v r.0, r.1), accepts_each vs others)

  pub accepts_array_contents : (count : ℕ) (vs : List T) → ReadableArray F.readable F.encoding count vs → AcceptsArray (F.accepts rules) count vs (flat_map F.encoding vs)
  accepts_array_contents count vs r = (r.0, accepts_each vs r.1)

  readable_each : (vs : List T) (c : List ℕ) → AcceptsItems (λ v part. F.accepts rules v part × (0 < length part)) vs c → EachItem (λ v. F.readable v × (0 < length (F.encoding v))) vs
  readable_each [] c e = tt
  readable_each (v ∷ vs) c (b, d, e, a, others) = let l = F.same_length rules v b a.0 in let some = a.1 in ((F.only_readable rules v b a.0, omega arith), readable_each vs d others)

  pub readable_array : (count : ℕ) (vs : List T) (c : List ℕ) → AcceptsArray (F.accepts rules) count vs c → ReadableArray F.readable F.encoding count vs
  readable_array count vs c a = (a.0, readable_each vs c a.1)

  pub comparable_array : (count : ℕ) (vs ws : List T) (c d : List ℕ) → AcceptsArray (F.accepts rules) count vs c → AcceptsArray (F.accepts rules) count ws d → AllComparable F.comparable vs ws
  comparable_array count vs ws c d a b = comparable_items F rules vs ws c d (accepts_parts (F.accepts rules) vs c a.1) (accepts_parts (F.accepts rules) ws d b.1)

module _ {T : Type 0} (F : form.Ghosts T) where
  -- a list re-reads only if one of its items does
  pub re_reads_items : (vs : List T) → list_any F.re_reads vs ≡ true → F.TAKES_MEMORY ≡ true
  re_reads_items [] h = absurd (cc)
  re_reads_items (v ∷ vs) h = elim (or_cases (F.re_reads v) (list_any F.re_reads vs) h) [ inl first ↦ F.re_reads_memory v first | inr others ↦ re_reads_items vs others ]
