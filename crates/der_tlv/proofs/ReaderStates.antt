-- The octets that are left in a reader after each of its calls.
use Rattle.std.proofs.Common.{◌≡◌, ℕ, ◌+◌, ◌≤◌, ◌<◌, ◌∷◌, get_or, length, take, drop, true, sym, ap, ◌∙◌, arith, [], nat_eq, IsTrue, ◌↔◌, not, nat_le}
use Rattle.std.proofs.lemmas.List.{nil_from_length, drop-drop, drop-take, take-take, length-take, length-drop, drop_more, get_or-take}
use Rattle.std.proofs.lemmas.Bool.Decides.{nat_tests}
use Rattle.std.proofs.lemmas.Bool.{and_parts, leb-true}
use Rattle.der_tlv.specs.ReaderState.{ReaderState, IsReaderState, rest, after_read, after_nest, can_read}

pub rest-after_read : (s : ReaderState) (n : ℕ) → rest (after_read s n) ≡ drop n (rest s)
rest-after_read s n = sym (drop-drop n s.position (take s.end s.input))

pub length-rest : (s : ReaderState) → IsReaderState s → s.position + length (rest s) ≡ s.end
length-rest s h = let a = length-drop s.position (take s.end s.input) in let b = length-take s.end s.input in let o = h.ordered in let i = h.inside in omega arith

pub rest-after_nest : (s : ReaderState) (n : ℕ) → s.position + n ≤ s.end → rest (after_nest s n) ≡ take n (rest s)
rest-after_nest s n h =
    ap (drop s.position) (sym (take-take (s.position + n) s.end s.input h)) ∙ drop-take s.position n (take s.end s.input)

pub room_from_can_read : (s : ReaderState) (n : ℕ) → can_read s n ≡ true → s.position + n ≤ s.end
room_from_can_read s n h = leb-true (s.position + n) s.end (and_parts (not s.failed) (nat_le (s.position + n) s.end) h).1

-- the position is the end exactly when no octet is left
pub finished : (s : ReaderState) → IsReaderState s → (position end : ℕ) → position ≡ s.position → end ≡ s.end → IsTrue (nat_eq position end) ↔ (rest s ≡ [])
finished s h position end p q =
    let l = length-rest s h in
    (λ e. let k : position ≡ end = grind (arith, nat_tests) in nil_from_length (rest s) (omega arith), λ e. let k = ap length e in let m : position ≡ end = omega arith in grind (arith, nat_tests))

pub end_reached : (s : ReaderState) → IsReaderState s → rest s ≡ [] → s.position ≡ s.end
end_reached s h e = let l = length-rest s h in let n = ap length e in omega arith

-- the next octet
pub rest_first : (s : ReaderState) → IsReaderState s → s.position < s.end → rest s ≡ get_or s.input s.position 0 ∷ rest (after_read s 1)
rest_first s h p =
    let i = h.inside in
    let n = length-take s.end s.input in
    drop_more (take s.end s.input) s.position 0 (omega arith) ∙ ap (λ x. x ∷ rest (after_read s 1)) (get_or-take s.end s.input s.position 0 p)
