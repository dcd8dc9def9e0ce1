-- The laws of sets that borrow, from those of their items.
use Rattle.std.proofs.Common.{◌≡◌, ℕ, zero, suc, ◌+◌, ◌-◌, ◌<◌, zero-le, List, [], ◌∷◌, ◌++◌, length, map, drop, true, Result, Ok, Err, refl, sym, ap, ◌∙◌, subst, arith, flat_map, append_assoc}
use Rattle.std.specs.List.Sorted.{IsSorted}
use Rattle.std.specs.Ordering.{is_le}
use Rattle.std.proofs.lemmas.List.{length-append, append-nil}
use Rattle.std.proofs.Math.Seq.{drop-append_seam}
use Rattle.der_tlv.specs.declared.error.ErrorKind.{ErrorKind}
use Rattle.der_tlv.specs.declared.encoding_rules.EncodingRules.{EncodingRules}
use Rattle.der_tlv.specs.declared.encoding_rules.EncodingRules.TheVariants.{Der}
use Rattle.der_tlv.specs.Octets.{lex}
use Rattle.der_elem.specs.declared.form.Form as form
use Rattle.der_elem.specs.Parsing.{Parse}
use Rattle.der_elem.specs.Accepting.{Fits}
use Rattle.der_elem.specs.ItemLaws.{first_fits, others_fit}
use Rattle.der_elem.specs.ArrayLaws.{re_reads_items}
use Rattle.der_nest.specs.LexLaws.{le_from_not_lt}
use Rattle.der_nest.specs.Lists.{AcceptsEach, before_others, join_encodings}
use Rattle.der_nest.specs.ListLaws.{concat-map, length-each, same_length_each, accepts_each, readable_each}
use Rattle.der_nest.specs.BorrowedSets.{Borrowed, OfItems, OfOctets, borrowed_contents, re_reads_borrowed, ComparableBorrowed, AcceptsBorrowed, ReadableBorrowed, then_in_order, parse_in_order, parse_borrowed_items, parse_borrowed}

-- no encoding is smaller than the one before it, and the first is not smaller than these octets
abbrev pub Follow : List ℕ → List (List ℕ) → Type 0
Follow last [] = Unit {0}
Follow last (e ∷ es) = (is_le (lex last e) ≡ true) × Follow e es

-- the last of these octets and encodings
abbrev pub last_of : List ℕ → List (List ℕ) → List ℕ
last_of last [] = last
last_of last (e ∷ es) = last_of e es

none_least : (e : List ℕ) → is_le (lex [] e) ≡ true
none_least [] = refl
none_least (x ∷ e) = refl

tail_sorted : (e : List ℕ) (es : List (List ℕ)) → IsSorted lex (e ∷ es) → IsSorted lex es
tail_sorted e es up k d l h =
    let s : suc k + 1 ≡ suc (k + 1) = omega arith in
    rw s at (up (suc k) d zero-le (omega arith))

follow_after : (e : List ℕ) (es : List (List ℕ)) → IsSorted lex (e ∷ es) → Follow e es
follow_after e [] up = tt
follow_after e (f ∷ es) up =
    (le_from_not_lt e f (up zero [] zero-le (omega arith)), follow_after f es (tail_sorted e (f ∷ es) up))

-- encodings in order follow one another
pub follow_in_order : (es : List (List ℕ)) → IsSorted lex es → Follow [] es
follow_in_order [] up = tt
follow_in_order (e ∷ es) up = (none_least e, follow_after e es up)

-- encodings before the result of the others
abbrev pub before_all : List (List ℕ) → Result (List (List ℕ)) ErrorKind → Result (List (List ℕ)) ErrorKind
before_all encodings (Ok others) = Ok (encodings ++ others)
before_all encodings (Err k) = Err k

pub before_all-none : (r : Result (List (List ℕ)) ErrorKind) → r ≡ before_all [] r
before_all-none (Ok others) = refl
before_all-none (Err k) = refl

before_all-cons : (e : List ℕ) (es : List (List ℕ)) (r : Result (List (List ℕ)) ErrorKind) → before_others e (before_all es r) ≡ before_all (e ∷ es) r
before_all-cons e es (Ok others) = refl
before_all-cons e es (Err k) = refl

pub parse_in_order-end : (more : ℕ) (parse : Parse) (last : List ℕ) (p : ℕ) → parse_in_order more parse last p [] ≡ Ok []
unfolding parse_in_order
parse_in_order-end zero parse last p = refl
parse_in_order-end (suc more) parse last p = refl

-- the first item, and then the others
pub parse_in_order-step : (more : ℕ) (parse : Parse) (last : List ℕ) (p : ℕ) (c : List ℕ) → 0 < length c → parse_in_order (suc more) parse last p c ≡ then_in_order last (parse Der p c) (λ n e. parse_in_order more parse e (p + n) (drop n c))
unfolding parse_in_order
parse_in_order-step more parse last p [] h = absurd (omega arith)
parse_in_order-step more parse last p (x ∷ xs) h = refl

module _ {T : Type 0} (F : form.Ghosts T) where
  -- items that follow one another are parsed, and then the others
  pub parse_in_order-items : (vs : List T) (more : ℕ) (last : List ℕ) (p : ℕ) (b c : List ℕ) → AcceptsEach (F.accepts Der) vs b → Follow last (map F.encoding vs) → Fits b → parse_in_order (length vs + more) F.parse last p (b ++ c) ≡ before_all (map F.encoding vs) (parse_in_order more F.parse (last_of last (map F.encoding vs)) (p + length b) c)
  parse_in_order-items [] more last p b c e follow fits =
      let n : 0 + more ≡ more = omega arith in
      let q : p + 0 ≡ p = omega arith in
      rw (e, n, q) (before_all-none (parse_in_order more F.parse last p c))
  parse_in_order-items (v ∷ vs) more last p b c ([], d, e, a, others) follow fits = let some = a.1 in absurd (omega arith)
  parse_in_order-items (v ∷ vs) more last p b c (y ∷ s, d, e, a, others) follow fits =
      let count : suc (length vs) + more ≡ suc (length vs + more) = omega arith in
      let whole : b ++ c ≡ (y ∷ s) ++ (d ++ c) = ap (λ b. b ++ c) e ∙ append_assoc (y ∷ s) d c in
      let parsed : F.parse Der p ((y ∷ s) ++ (d ++ c)) ≡ Ok (suc (length s), F.encoding v) = F.parse_of_accepted Der v p (y ∷ s) (d ++ c) a.0 (first_fits b (y ∷ s) d e fits) tt in
      let len : p + suc (length s) + length d ≡ p + length b = omega (arith, ap length e, length-append (y ∷ s) d) in
      ap (λ n. parse_in_order n F.parse last p (b ++ c)) count
      ∙ ap (parse_in_order (suc (length vs + more)) F.parse last p) whole
      ∙ parse_in_order-step (length vs + more) F.parse last p ((y ∷ s) ++ (d ++ c)) (omega arith)
      ∙ ap (λ r. then_in_order last r (λ n f. parse_in_order (length vs + more) F.parse f (p + n) (drop n ((y ∷ s) ++ (d ++ c))))) parsed
      ∙ rw (follow.0) refl
      ∙ ap (λ t. before_others (F.encoding v) (parse_in_order (length vs + more) F.parse (F.encoding v) (p + suc (length s)) t)) (drop-append_seam s (d ++ c))
      ∙ ap (before_others (F.encoding v)) (parse_in_order-items vs more (F.encoding v) (p + suc (length s)) d c others follow.1 (others_fit b (y ∷ s) d e fits))
      ∙ before_all-cons (F.encoding v) (map F.encoding vs) (parse_in_order more F.parse (last_of (F.encoding v) (map F.encoding vs)) (p + suc (length s) + length d) c)
      ∙ ap (λ q. before_all (F.encoding v ∷ map F.encoding vs) (parse_in_order more F.parse (last_of (F.encoding v) (map F.encoding vs)) q c)) len

  -- octets that are accepted are parsed as the items' encodings
  pub parse_of_borrowed_items : (v : Borrowed T) (c : List ℕ) → (a : AcceptsBorrowed F v c) → Fits c → parse_borrowed_items F.parse c ≡ Ok (map F.encoding a.items)
  parse_of_borrowed_items v c a fits =
      let n = length-each (F.accepts Der) a.items c a.accepted in
      let count : length c ≡ length a.items + (length c - length a.items) = omega arith in
      ap (λ n. parse_in_order n F.parse [] 0 c) count
      ∙ ap (parse_in_order (length a.items + (length c - length a.items)) F.parse [] 0) (sym (append-nil c))
      ∙ parse_in_order-items a.items (length c - length a.items) [] 0 c [] a.accepted (follow_in_order (map F.encoding a.items) a.in_order) fits
      ∙ ap (before_all (map F.encoding a.items)) (parse_in_order-end (length c - length a.items) F.parse (last_of [] (map F.encoding a.items)) (0 + length c))
      ∙ ap Ok (append-nil (map F.encoding a.items))

  contents_is : (v : Borrowed T) (items : List T) → v ≡ OfOctets (map F.encoding items) → borrowed_contents F.encoding v ≡ flat_map F.encoding items
  contents_is v items e = ap (borrowed_contents F.encoding) e ∙ concat-map F.encoding items

  pub parse_of_borrowed : (rules : EncodingRules) (v : Borrowed T) (p : ℕ) (c : List ℕ) → AcceptsBorrowed F v c → Fits c → parse_borrowed F.parse rules p c ≡ Ok (borrowed_contents F.encoding v)
  parse_of_borrowed rules v p c a fits =
      ap join_encodings (parse_of_borrowed_items v c a fits) ∙ ap (λ s. Ok (borrowed_contents F.encoding s)) (sym a.set_is)

  pub same_length_borrowed : (rules : EncodingRules) (v : Borrowed T) (c : List ℕ) → AcceptsBorrowed F v c → length (borrowed_contents F.encoding v) ≡ length c
  same_length_borrowed rules v c a = ap length (contents_is v a.items a.set_is) ∙ same_length_each F Der a.items c a.accepted

  pub accepts_borrowed_contents : (rules : EncodingRules) (v : Borrowed T) → ReadableBorrowed F v → AcceptsBorrowed F v (borrowed_contents F.encoding v)
  accepts_borrowed_contents rules v r = record {
    items = r.items;
    accepted = subst (AcceptsEach (F.accepts Der) r.items) (sym (contents_is v r.items r.set_is)) (accepts_each F Der r.items r.readable);
    in_order = r.in_order;
    set_is = r.set_is;
  }

  pub readable_borrowed : (rules : EncodingRules) (v : Borrowed T) (c : List ℕ) → AcceptsBorrowed F v c → ReadableBorrowed F v
  readable_borrowed rules v c a = record {
    items = a.items;
    readable = readable_each F Der a.items c a.accepted;
    in_order = a.in_order;
    set_is = a.set_is;
  }

  comparable_octets : (es fs : List (List ℕ)) → ComparableBorrowed F (OfOctets es) (OfOctets fs)
  comparable_octets es fs i x y a b =
      F.accepts_comparable Der x y (F.encoding x) (F.encoding y) (F.accepts_encoding Der x a.0) (F.accepts_encoding Der y b.0)

  pub comparable_borrowed : (rules : EncodingRules) (v w : Borrowed T) (c d : List ℕ) → AcceptsBorrowed F v c → AcceptsBorrowed F w d → ComparableBorrowed F v w
  comparable_borrowed rules v w c d a b =
      subst (λ v. ComparableBorrowed F v w) (sym a.set_is) (subst (ComparableBorrowed F (OfOctets (map F.encoding a.items))) (sym b.set_is) (comparable_octets (map F.encoding a.items) (map F.encoding b.items)))

  pub re_reads_borrowed_memory : (v : Borrowed T) → re_reads_borrowed F v ≡ true → F.TAKES_MEMORY ≡ true
  re_reads_borrowed_memory (OfItems vs) h = re_reads_items F vs h
  re_reads_borrowed_memory (OfOctets es) h = h
