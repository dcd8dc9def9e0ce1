-- The laws of lists of items, from those of the items.
use Rattle.std.proofs.Common.{◌≡◌, ℕ, zero, suc, ◌+◌, ◌<◌, ◌≤◌, List, [], ◌∷◌, ◌++◌, length, drop, Result, Ok, Err, refl, sym, ap, ◌∙◌, arith, flat_map}
use Rattle.std.proofs.lemmas.List.{nil_from_length, length-append, length-drop}
use Rattle.std.proofs.Math.Seq.{drop-append_seam}
use Rattle.der_tlv.specs.declared.error.ErrorKind.{ErrorKind}
use Rattle.der_tlv.specs.declared.encoding_rules.EncodingRules.{EncodingRules}
use Rattle.der_tlv.specs.OctetFaults.{IsOfOctets}
use Rattle.der_elem.specs.declared.form.Form as form
use Rattle.der_elem.specs.Parsing.{Parse}
use Rattle.der_elem.specs.Accepting.{Fits}
use Rattle.der_elem.specs.Items.{AcceptsItems, EachItem, join_items, then_items, parse_items_up_to, parse_items, AllComparable}

then_items-same : (r : Result (ℕ × List ℕ) ErrorKind) (f g : ℕ → Result (List ℕ) ErrorKind) → ((n : ℕ) → f (suc n) ≡ g (suc n)) → then_items r f ≡ then_items r g
then_items-same (Err k) f g h = refl
then_items-same (Ok (zero, s)) f g h = refl
then_items-same (Ok (suc n, s)) f g h = ap (join_items s) (h n)

-- allowing more items than there are octets changes nothing
enough_items : (parse : ℕ → List ℕ → Result (ℕ × List ℕ) ErrorKind) (j k p : ℕ) (c : List ℕ) → length c ≤ j → length c ≤ k → parse_items_up_to j parse p c ≡ parse_items_up_to k parse p c
enough_items parse zero zero p c a b = refl
enough_items parse zero (suc k) p [] a b = refl
enough_items parse zero (suc k) p (x ∷ xs) a b = absurd (omega arith)
enough_items parse (suc j) zero p [] a b = refl
enough_items parse (suc j) zero p (x ∷ xs) a b = absurd (omega arith)
enough_items parse (suc j) (suc k) p [] a b = refl
enough_items parse (suc j) (suc k) p (x ∷ xs) a b =
    then_items-same (parse p (x ∷ xs)) _ _ (λ n. enough_items parse j k (p + suc n) (drop (suc n) (x ∷ xs)) (omega (arith, length-drop n xs)) (omega (arith, length-drop n xs)))

pub parse_items-end : (parse : Parse) (rules : EncodingRules) (p : ℕ) → parse_items parse rules p [] ≡ Ok []
unfolding parse_items
parse_items-end parse rules p = refl

-- the first item, and then the others
pub parse_items-step : (parse : Parse) (rules : EncodingRules) (p : ℕ) (c : List ℕ) → 0 < length c → parse_items parse rules p c ≡ then_items (parse rules p c) (λ n. parse_items parse rules (p + n) (drop n c))
unfolding parse_items
parse_items-step parse rules p [] h = absurd (omega arith)
parse_items-step parse rules p (x ∷ xs) h =
    then_items-same (parse rules p (x ∷ xs)) _ _ (λ n. enough_items (parse rules) (length xs) (length (drop n xs)) (p + suc n) (drop n xs) (omega (arith, length-drop n xs)) (omega arith))

pub parse_items-more : (parse : Parse) (rules : EncodingRules) (p n : ℕ) (c s : List ℕ) → 0 < length c → 0 < n → parse rules p c ≡ Ok (n, s) → parse_items parse rules p c ≡ join_items s (parse_items parse rules (p + n) (drop n c))
parse_items-more parse rules p zero c s h o e = absurd (omega arith)
parse_items-more parse rules p (suc n) c s h o e =
    parse_items-step parse rules p c h ∙ ap (λ r. then_items r (λ n. parse_items parse rules (p + n) (drop n c))) e

-- the errors of a list are in its octets, if those of its items are
pub join_of_octets : (octets : List ℕ) (r : Result (List ℕ) ErrorKind) → IsOfOctets r → IsOfOctets (join_items octets r)
join_of_octets octets (Ok others) h = tt
join_of_octets octets (Err k) h = h

then_of_octets : (r : Result (ℕ × List ℕ) ErrorKind) (others : ℕ → Result (List ℕ) ErrorKind) → IsOfOctets r → ((n : ℕ) → IsOfOctets (others n)) → IsOfOctets (then_items r others)
then_of_octets (Err k) others h hs = h
then_of_octets (Ok (zero, octets)) others h hs = tt
then_of_octets (Ok (suc n, octets)) others h hs = join_of_octets octets (others (suc n)) (hs (suc n))

up_to_of_octets : (parse : ℕ → List ℕ → Result (ℕ × List ℕ) ErrorKind) → ((p : ℕ) (c : List ℕ) → IsOfOctets (parse p c)) → (count p : ℕ) (c : List ℕ) → IsOfOctets (parse_items_up_to count parse p c)
up_to_of_octets parse h zero p c = tt
up_to_of_octets parse h (suc count) p [] = tt
up_to_of_octets parse h (suc count) p (x ∷ xs) =
    then_of_octets (parse p (x ∷ xs)) _ (h p (x ∷ xs)) (λ n. up_to_of_octets parse h count (p + n) (drop n (x ∷ xs)))

pub items_of_octets : (parse : Parse) → ((rules : EncodingRules) (p : ℕ) (c : List ℕ) → IsOfOctets (parse rules p c)) → (rules : EncodingRules) (p : ℕ) (c : List ℕ) → IsOfOctets (parse_items parse rules p c)
unfolding parse_items
items_of_octets parse h rules p c = up_to_of_octets (parse rules) (h rules) (length c) p c

-- both parts of octets that fit a length also fit
pub first_fits : (c b d : List ℕ) → c ≡ b ++ d → Fits c → Fits b
first_fits c b d e fits = omega (arith, ap length e, length-append b d)

pub others_fit : (c b d : List ℕ) → c ≡ b ++ d → Fits c → Fits d
others_fit c b d e fits = omega (arith, ap length e, length-append b d)

module _ {T : Type 0} (F : form.Ghosts T) (rules : EncodingRules) where
  pub parse_of_items : (vs : List T) (p : ℕ) (c : List ℕ) → AcceptsItems (F.accepts rules) vs c → Fits c → parse_items F.parse rules p c ≡ Ok (flat_map F.encoding vs)
  parse_of_items [] p c e fits = ap (parse_items F.parse rules p) e ∙ parse_items-end F.parse rules p
  parse_of_items (v ∷ vs) p c ([], d, e, a, others) fits =
      ap (parse_items F.parse rules p) e ∙ parse_of_items vs p d others (others_fit c [] d e fits) ∙ ap (λ s. Ok (s ++ flat_map F.encoding vs)) (sym (nil_from_length (F.encoding v) (F.same_length rules v [] a)))
  parse_of_items (v ∷ vs) p c (y ∷ b, d, e, a, others) fits =
      ap (parse_items F.parse rules p) e
      ∙ parse_items-more F.parse rules p (suc (length b)) (y ∷ (b ++ d)) (F.encoding v) (omega arith) (omega arith) (F.parse_of_accepted rules v p (y ∷ b) d a (first_fits c (y ∷ b) d e fits) tt)
      ∙ ap (λ t. join_items (F.encoding v) (parse_items F.parse rules (p + suc (length b)) t)) (drop-append_seam b d)
      ∙ ap (join_items (F.encoding v)) (parse_of_items vs (p + suc (length b)) d others (others_fit c (y ∷ b) d e fits))

  pub same_length_items : (vs : List T) (c : List ℕ) → AcceptsItems (F.accepts rules) vs c → length (flat_map F.encoding vs) ≡ length c
  same_length_items [] c e = ap length (sym e)
  same_length_items (v ∷ vs) c (b, d, e, a, others) =
      omega (arith, length-append (F.encoding v) (flat_map F.encoding vs), F.same_length rules v b a, same_length_items vs d others, ap length e, length-append b d)

  pub accepts_items_contents : (vs : List T) → EachItem F.readable vs → AcceptsItems (F.accepts rules) vs (flat_map F.encoding vs)
  accepts_items_contents [] a = refl
  accepts_items_contents (v ∷ vs) (a, others) = (F.encoding v, flat_map F.encoding vs, refl, F.accepts_encoding rules v a, accepts_items_contents vs others)

  pub readable_items : (vs : List T) (c : List ℕ) → AcceptsItems (F.accepts rules) vs c → EachItem F.readable vs
  readable_items [] c e = tt
  readable_items (v ∷ vs) c (b, d, e, a, others) = (F.only_readable rules v b a, readable_items vs d others)

  pub comparable_items : (vs ws : List T) (c d : List ℕ) → AcceptsItems (F.accepts rules) vs c → AcceptsItems (F.accepts rules) ws d → AllComparable F.comparable vs ws
  comparable_items [] ws c d a b = tt
  comparable_items (v ∷ vs) [] c d a b = tt
  comparable_items (v ∷ vs) (w ∷ ws) c d (b, c', e, a, more) (b', d', e', a', bs) = (F.accepts_comparable rules v w b b' a a', comparable_items vs ws c' d' more bs)
