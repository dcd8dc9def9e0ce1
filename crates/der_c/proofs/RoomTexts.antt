-- Text that is written to a buffer part by part.
use Rattle.std.proofs.Common.{Bool, true, false, nat_lt, ◌≡◌, ◌⊎◌, ℕ, ◌+◌, ◌-◌, ◌^◌, ◌<◌, ◌≤◌, min, List, [], ◌∷◌, ◌++◌, length, take, drop, refl, sym, ap, ◌∙◌, arith, append_assoc, suc, zero, inl, inr}
use Rattle.std.proofs.Math.ListN.{set}
use Rattle.std.proofs.Math.Seq.{take-append-add}
use Rattle.std.proofs.lemmas.List.{length-append, length-drop, take-append-drop, drop_all, drop_at, take_all, drop-drop, length-take-le}
use borrow.Author.Tests.{ltb-true, ltb-false}
use borrow.Rule.Slice.PartMut.{put_mid}
use Rattle.der_c.specs.RoomText.{Ends, Puts, counted, ended, over}

below_or_not : (a b : ℕ) → (a < b) ⊎ (b ≤ a)
below_or_not a b = at (nat_lt a b) refl
  where
    at : (t : Bool) → nat_lt a b ≡ t → (a < b) ⊎ (b ≤ a)
    at true e = inl (ltb-true a b e)
    at false e = inr (ltb-false a b e)

append_nil : (xs : List ℕ) → xs ++ [] ≡ xs
append_nil [] = refl
append_nil (x ∷ xs) = ap (λ z. x ∷ z) (append_nil xs)

pub over_none : (text : List ℕ) → over text [] ≡ []
over_none [] = refl
over_none (x ∷ text) = refl

pub length-over : (text room : List ℕ) → length (over text room) ≡ length room
length-over [] room = refl
length-over (x ∷ text) [] = refl
length-over (x ∷ text) (octet ∷ room) = let e = length-over text room in omega arith

-- a text of two parts: the second is after the first
over_parts : (xs ys room : List ℕ) → over (xs ++ ys) room ≡ take (length xs) (over xs room) ++ over ys (drop (length xs) (over xs room))
over_parts [] ys room = refl
over_parts (x ∷ xs) ys [] = sym (over_none ys)
over_parts (x ∷ xs) ys (octet ∷ room) = ap (λ z. x ∷ z) (over_parts xs ys room)

-- the part of a text that fits, and what is left of the buffer
over_is : (text room : List ℕ) (n : ℕ) → n ≡ min (length text) (length room) → over text room ≡ take n text ++ drop n room
over_is [] room n e = let z : n ≡ 0 = omega arith in sym (ap (λ k. take k [] ++ drop k room) z)
over_is (x ∷ text) [] n e = let z : n ≡ 0 = omega arith in sym (ap (λ k. take k (x ∷ text) ++ drop k []) z)
over_is (x ∷ text) (octet ∷ room) zero e = absurd (omega arith)
over_is (x ∷ text) (octet ∷ room) (suc n) e = ap (λ z. x ∷ z) (over_is text room n (omega arith))

-- a text past the end of a buffer changes nothing
pub over_past : (text old : List ℕ) (p : ℕ) → length old ≤ p → take p old ++ over text (drop p old) ≡ old
over_past text old p h = ap (λ z. take p old ++ over text z) (drop_all p old h) ∙ ap (λ z. take p old ++ z) (over_none text) ∙ append_nil (take p old) ∙ take_all p old h

join_within : (xs ys old mid : List ℕ) (p : ℕ) → p ≤ length old → mid ≡ take p old ++ over xs (drop p old) → take (p + length xs) mid ++ over ys (drop (p + length xs) mid) ≡ take p old ++ over (xs ++ ys) (drop p old)
join_within xs ys old mid p h e =
    let a : List ℕ = take p old in
    let b : List ℕ = over xs (drop p old) in
    let l : length a ≡ p = length-take-le p old h in
    let front : take (p + length xs) mid ≡ a ++ take (length xs) b = ap (take (p + length xs)) e ∙ ap (λ k. take (k + length xs) (a ++ b)) (sym l) ∙ take-append-add a b (length xs) in
    let back : drop (p + length xs) mid ≡ drop (length xs) b = ap (drop (p + length xs)) e ∙ sym (drop-drop (length xs) p (a ++ b)) ∙ ap (drop (length xs)) (drop_at a b p l) in
    ap (λ z. z ++ over ys (drop (p + length xs) mid)) front ∙ ap (λ z. (a ++ take (length xs) b) ++ over ys z) back ∙ append_assoc a (take (length xs) b) (over ys (drop (length xs) b)) ∙ ap (λ z. a ++ z) (sym (over_parts xs ys (drop p old)))

pub join_octets : (xs ys old mid : List ℕ) (p : ℕ) → mid ≡ take p old ++ over xs (drop p old) → take (p + length xs) mid ++ over ys (drop (p + length xs) mid) ≡ take p old ++ over (xs ++ ys) (drop p old)
join_octets xs ys old mid p e = elim (below_or_not p (length old)) [
  | inl g ↦ let h : p ≤ length old = omega arith in join_within xs ys old mid p h e
  | inr h ↦
      let same : mid ≡ old = e ∙ over_past xs old p h in
      let beyond : length mid ≤ p + length xs = let l = ap length same in omega arith in
      over_past ys mid (p + length xs) beyond ∙ same ∙ sym (over_past (xs ++ ys) old p h)
]

-- the part of a text that fits is copied to its place
pub copied : (text old part : List ℕ) (p count end : ℕ) → p < length old → count ≡ min (length text) (length old - p) → end ≡ p + count → part ≡ take count text → put_mid p (end - p) old part ≡ take p old ++ over text (drop p old)
copied text old part p count end h few ends e =
    let room : length (drop p old) ≡ length old - p = length-drop p old in
    let last : end - p ≡ count = omega arith in
    ap (λ z. take p old ++ (part ++ drop z (drop p old))) last ∙ ap (λ z. take p old ++ (z ++ drop count (drop p old))) e
    ∙ ap (λ z. take p old ++ z) (sym (over_is text (drop p old) count (omega arith)))

-- a text of two parts is written
pub puts_both : (xs ys old mid new : List ℕ) (p m n : ℕ) → length old < 2 ^ 64 → Puts xs old p mid m → Puts ys mid m new n → Puts (xs ++ ys) old p new n
puts_both xs ys old mid new p m n few one two =
    let l = length-append xs ys in
    let o = one.next_is in
    let t = two.next_is in
    let same : length mid ≡ length old = ap length one.octets_are ∙ length_put xs old p in
    record {
      octets_are = two.octets_are ∙ place ys mid (p + length xs) m few same o ∙ join_octets xs ys old mid p one.octets_are;
      next_is = next p (length xs) (length ys) (length (xs ++ ys)) m n l o t;
    }
  where
    length_put : (xs old : List ℕ) (p : ℕ) → length (take p old ++ over xs (drop p old)) ≡ length old
    length_put xs old p = length-append (take p old) (over xs (drop p old)) ∙ ap (λ k. length (take p old) + k) (length-over xs (drop p old)) ∙ sym (length-append (take p old) (drop p old)) ∙ ap length (take-append-drop p old)

    next : (p a b c m n : ℕ) → c ≡ a + b → m ≡ counted (p + a) → n ≡ counted (m + b) → n ≡ counted (p + c)
    next p a b c m n l o t = omega arith

    place : (ys mid : List ℕ) (k m : ℕ) {size : ℕ} → size < 2 ^ 64 → length mid ≡ size → m ≡ counted k → take m mid ++ over ys (drop m mid) ≡ take k mid ++ over ys (drop k mid)
    place ys mid k m few same o = elim (below_or_not k (2 ^ 64 - 1)) [
      | inl h ↦ let e : m ≡ k = omega arith in ap (λ z. take z mid ++ over ys (drop z mid)) e
      | inr h ↦ over_past ys mid m (omega arith) ∙ sym (over_past ys mid k (omega arith))
    ]

-- no text is written
pub puts_none : (old : List ℕ) (p : ℕ) → p < 2 ^ 64 → Puts [] old p old p
puts_none old p h = record { octets_are = sym (take-append-drop p old); next_is = count p h }
  where
    count : (p : ℕ) → p < 2 ^ 64 → p ≡ counted (p + 0)
    count p h = omega arith

-- a zero octet after the part of a text that fits
ends_in : (text room : List ℕ) (k i : ℕ) → length room ≡ suc k → i ≡ min (length text) k → set (over text room) i 0 ≡ over (take k text ++ (0 ∷ [])) room
ends_in text [] k i size e = absurd (omega arith)
ends_in [] (octet ∷ room) k i size e = let z : i ≡ 0 = omega arith in ap (λ j. set (octet ∷ room) j 0) z ∙ ap (λ z. over (z ++ (0 ∷ [])) (octet ∷ room)) (sym (take_all k [] (omega arith)))
ends_in (x ∷ text) (octet ∷ room) zero i size e =
    let z : i ≡ 0 = omega arith in
    let none : room ≡ [] = no_octets room (omega arith) in
    ap (λ j. set (x ∷ over text room) j 0) z ∙ ap (λ r. 0 ∷ over text r) none ∙ ap (λ z. 0 ∷ z) (over_none text) ∙ ap (λ z. 0 ∷ z) (sym none)
  where
    no_octets : (room : List ℕ) → length room ≡ 0 → room ≡ []
    no_octets [] h = refl
    no_octets (o ∷ room) h = absurd (omega arith)
ends_in (x ∷ text) (octet ∷ room) (suc k) zero size e = absurd (omega arith)
ends_in (x ∷ text) (octet ∷ room) (suc k) (suc i) size e = ap (λ z. x ∷ z) (ends_in text room k i (omega arith) (omega arith))

pub held : (text old mid : List ℕ) (n i : ℕ) → 0 < length old → length old < 2 ^ 64 → Puts text old 0 mid n → i ≡ min n (length mid - 1) → set mid i 0 ≡ over (ended text (length old)) old
held text old mid n i some few puts e =
    let o = puts.next_is in
    let same : length mid ≡ length old = ap length puts.octets_are ∙ length-over text old in
    ap (λ z. set z i 0) puts.octets_are ∙ ends_in text old (length old - 1) i (omega arith) (at (length text) (length old) (length mid) n i some few o same e)
  where
    at : (t size other n i : ℕ) → 0 < size → size < 2 ^ 64 → n ≡ counted (0 + t) → other ≡ size → i ≡ min n (other - 1) → i ≡ min t (size - 1)
    at t size other n i some few o same e = omega arith

-- a text is written from the front of a buffer on, and a zero octet after it
pub text_ended : (text old mid new : List ℕ) (n : ℕ) → length old < 2 ^ 64 → Puts text old 0 mid n → Ends n mid new → new ≡ over (ended text (length old)) old
text_ended text [] mid new n few puts ends =
    ends ∙ ap (λ z. set z (min n (length mid - 1)) 0) (puts.octets_are ∙ over_none text) ∙ sym (over_none (ended text 0))
text_ended text (octet ∷ old) mid new n few puts ends =
    ends ∙ held text (octet ∷ old) mid n (min n (length mid - 1)) (omega arith) few puts refl

pub counted_from_0 : (n k : ℕ) → n ≡ counted (0 + k) → n ≡ counted k
counted_from_0 n k e = omega arith
