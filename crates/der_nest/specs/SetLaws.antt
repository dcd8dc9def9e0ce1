-- The laws of sets, from those of their items.
use Rattle.std.proofs.Common.{◌≡◌, ℕ, ◌<◌, ◌≤◌, List, [], ◌∷◌, length, map, Ok, refl, sym, ap, ◌∙◌, arith, flat_map, sum_by}
use Rattle.std.specs.List.{All, concat}
use Rattle.std.specs.List.Sorted.{IsPermutation}
use Rattle.std.proofs.lemmas.List.{length-append}
use Rattle.std.proofs.lemmas.List.Sums.{sum_by-cons}
use Rattle.std.proofs.lemmas.List.Sorted.{All-permutation, sum_by-IsPermutation, IsPermutation-refl, IsPermutation-sym, IsPermutation-trans, IsPermutation-map, length_permutation}
use Rattle.der_tlv.specs.declared.encoding_rules.EncodingRules.{EncodingRules}
use Rattle.der_elem.specs.declared.form.Form as form
use Rattle.der_elem.specs.Accepting.{Fits}
use Rattle.der_elem.specs.Items.{AllComparable}
use Rattle.der_nest.specs.Places.{IsInOrder, sort_encodings}
use Rattle.der_nest.specs.ListLaws.{concat-map, parse_of_each, same_length_each, accepts_each, readable_each, parts_within, all_comparable}
use Rattle.der_nest.specs.UniqueLaws.{unique_in_order, sorted_sorted, IsPermutation-sort_encodings}
use Rattle.der_nest.specs.Sets.{AcceptsSet, AcceptsSetUpTo, ReadableSet, ReadableSetUpTo, joined_in_order, parse_set_up_to}

-- the sorted encodings of items are the encodings of the sorted items
pub sorted_items : {T : Type 0} (encoding : T → List ℕ) (items vs : List T) → IsPermutation items vs → IsInOrder encoding vs → sort_encodings (map encoding items) ≡ map encoding vs
sorted_items encoding items vs same up =
    unique_in_order (sort_encodings (map encoding items)) (map encoding vs) (sorted_sorted (map encoding items)) up (IsPermutation-trans (sort_encodings (map encoding items)) (map encoding items) (map encoding vs) (IsPermutation-sym (map encoding items) (sort_encodings (map encoding items)) (IsPermutation-sort_encodings (map encoding items))) (IsPermutation-map encoding items vs same))

-- the number of octets of joined encodings
length_joined : {T : Type 0} (encoding : T → List ℕ) (vs : List T) → length (flat_map encoding vs) ≡ sum_by (λ v. length (encoding v)) vs
length_joined encoding [] = refl
length_joined encoding (v ∷ vs) =
    let h = length_joined encoding vs in
    let s = sum_by-cons (λ v. length (encoding v)) v vs in
    omega (arith, length-append (encoding v) (flat_map encoding vs))

module _ {T : Type 0} (F : form.Ghosts T) (rules : EncodingRules) where
  pub parse_of_set : (vs : List T) (capacity p : ℕ) (c : List ℕ) → (a : AcceptsSet F.encoding (F.accepts rules) vs c) → length a.items ≤ capacity → Fits c → parse_set_up_to capacity F.parse rules p c ≡ Ok (flat_map F.encoding vs)
  parse_of_set vs capacity p c a h fits =
      ap joined_in_order (parse_of_each F rules a.items capacity p c h a.accepted fits) ∙ ap (λ es. Ok (concat es)) (sorted_items F.encoding a.items vs a.same_items a.in_order) ∙ ap Ok (concat-map F.encoding vs)

  pub same_length_set : (vs : List T) (c : List ℕ) → AcceptsSet F.encoding (F.accepts rules) vs c → length (flat_map F.encoding vs) ≡ length c
  same_length_set vs c a =
      length_joined F.encoding vs ∙ sum_by-IsPermutation (λ v. length (F.encoding v)) a.items vs a.same_items ∙ sym (length_joined F.encoding a.items) ∙ same_length_each F rules a.items c a.accepted

  pub accepts_set_contents : (vs : List T) → ReadableSet F.readable F.encoding vs → AcceptsSet F.encoding (F.accepts rules) vs (flat_map F.encoding vs)
  accepts_set_contents vs r = record { items = vs; accepted = accepts_each F rules vs r.0; same_items = IsPermutation-refl vs; in_order = r.1 }

  pub readable_set : (vs : List T) (c : List ℕ) → AcceptsSet F.encoding (F.accepts rules) vs c → ReadableSet F.readable F.encoding vs
  readable_set vs c a = (All-permutation (λ v. F.readable v × (0 < length (F.encoding v))) a.items vs a.same_items (readable_each F rules a.items c a.accepted), a.in_order)

  parts_of_set : (vs : List T) (c : List ℕ) → AcceptsSet F.encoding (F.accepts rules) vs c → All (λ v. (b : List ℕ) × F.accepts rules v b × (length b ≤ length c)) vs
  parts_of_set vs c a = All-permutation (λ v. (b : List ℕ) × F.accepts rules v b × (length b ≤ length c)) a.items vs a.same_items (parts_within F rules a.items c a.accepted (length c) (omega arith))

  pub comparable_set : (vs ws : List T) (c d : List ℕ) → AcceptsSet F.encoding (F.accepts rules) vs c → AcceptsSet F.encoding (F.accepts rules) ws d → AllComparable F.comparable vs ws
  comparable_set vs ws c d a b = all_comparable F rules (length c) (length d) vs ws (parts_of_set vs c a) (parts_of_set ws d b)

-- the laws of sets up to a capacity
module _ {T : Type 0} (F : form.Ghosts T) (rules : EncodingRules) (capacity : ℕ) where
  pub parse_of_set_up_to : (vs : List T) (p : ℕ) (c : List ℕ) → AcceptsSetUpTo capacity F.encoding (F.accepts rules) vs c → Fits c → parse_set_up_to capacity F.parse rules p c ≡ Ok (flat_map F.encoding vs)
  parse_of_set_up_to vs p c (h, a) fits = let l = length_permutation a.items vs a.same_items in parse_of_set F rules vs capacity p c a (omega arith) fits

  pub same_length_set_up_to : (vs : List T) (c : List ℕ) → AcceptsSetUpTo capacity F.encoding (F.accepts rules) vs c → length (flat_map F.encoding vs) ≡ length c
  same_length_set_up_to vs c a = same_length_set F rules vs c a.1

  pub accepts_set_up_to_contents : (vs : List T) → ReadableSetUpTo capacity F.readable F.encoding vs → AcceptsSetUpTo capacity F.encoding (F.accepts rules) vs (flat_map F.encoding vs)
  accepts_set_up_to_contents vs r = (r.0, accepts_set_contents F rules vs r.1)

  pub readable_set_up_to : (vs : List T) (c : List ℕ) → AcceptsSetUpTo capacity F.encoding (F.accepts rules) vs c → ReadableSetUpTo capacity F.readable F.encoding vs
  readable_set_up_to vs c a = (a.0, readable_set F rules vs c a.1)

  pub comparable_set_up_to : (vs ws : List T) (c d : List ℕ) → AcceptsSetUpTo capacity F.encoding (F.accepts rules) vs c → AcceptsSetUpTo capacity F.encoding (F.accepts rules) ws d → AllComparable F.comparable vs ws
  comparable_set_up_to vs ws c d a b = comparable_set F rules vs ws c d a.1 b.1
