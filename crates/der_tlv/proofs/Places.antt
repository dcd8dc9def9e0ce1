-- Octets that are put or written before the octets that a buffer holds.
use Rattle.std.proofs.Common.{◌≡◌, ℕ, ◌+◌, ◌-◌, ◌≤◌, List, ◌++◌, length, take, drop, false, refl, ap, ap₂, sym, ◌∙◌, arith}
use Rattle.std.proofs.lemmas.List.{drop-append-le, drop-take, length-take-le, drop-drop, drop_at}
use Rattle.std.proofs.lemmas.Slice.{take-put_mid, drop-put_mid}
use borrow.Rule.Slice.PartMut.{put_mid}
use Rattle.der_tlv.specs.Writing.{Wrote}
use Rattle.der_tlv.specs.WritingBack.{back_state}

-- the end of a block, after the whole block was put
pub end_put : (buffer block part : List ℕ) (end len : ℕ) → part ≡ block → 8 ≤ end → end ≤ length buffer → len ≤ 8 → length block ≡ 8 → drop (end - len) (put_mid (end - 8) (end - (end - 8)) buffer part) ≡ drop (8 - len) block ++ drop end buffer
end_put buffer block part end len same far inside few size =
    let at = end - 8 in
    let more = 8 - len in
    let count = end - at in
    let behind = drop count (drop at buffer) in
    let long : at ≤ length buffer = omega (arith, inside) in
    let place : end - len ≡ at + more = omega (arith, far, few) in
    let whole : at + count ≡ end = omega (arith, far) in
    ap (λ n. drop n (put_mid at count buffer part)) place
    ∙ sym (drop-drop more at (put_mid at count buffer part))
    ∙ ap (drop more) (drop_at (take at buffer) (part ++ behind) at (length-take-le at buffer long))
    ∙ ap (λ p. drop more (p ++ behind)) same
    ∙ drop-append-le more block behind (omega (arith, size))
    ∙ ap (λ b. drop more block ++ b) (drop-drop count at buffer ∙ ap (λ n. drop n buffer) whole)

-- octets that are written into the gap, after those written there before
module _ (buffer octets part : List ℕ) (start gap filled : ℕ) (same : part ≡ octets) (inside : start ≤ length buffer) (within : gap ≤ start) (room : filled + length octets ≤ gap) where
  taken_more : take (filled + length octets) (drop (start - gap) (put_mid (start - gap + filled) (start - gap + filled + length octets - (start - gap + filled)) buffer part)) ≡ take filled (drop (start - gap) buffer) ++ octets
  taken_more =
      let front = start - gap in
      let from = front + filled in
      let new = put_mid from (from + length octets - from) buffer part in
      let long : from ≤ length buffer = omega (arith, inside, within, room) in
      let size = ap length same in
      let end : front + (filled + length octets) ≡ from + length part = omega (arith, size) in
      sym (drop-take front (filled + length octets) new)
      ∙ ap (drop front) (take-put_mid from (from + length octets - from) buffer part (front + (filled + length octets)) end long)
      ∙ drop-append-le front (take from buffer) part (omega (arith, length-take-le from buffer long))
      ∙ ap₂ (λ a b. a ++ b) (drop-take front filled buffer) same

  behind_kept : drop start (put_mid (start - gap + filled) (start - gap + filled + length octets - (start - gap + filled)) buffer part) ≡ drop start buffer
  behind_kept =
      let from = start - gap + filled in
      drop-put_mid from (from + length octets - from) buffer part start (omega (arith, within, room)) (omega (arith, inside, within, room)) (ap length same ∙ omega arith)

  pub written_more : (origin : ℕ × ℕ) → Wrote octets (back_state buffer origin start gap filled false) (back_state (put_mid (start - gap + filled) (start - gap + filled + length octets - (start - gap + filled)) buffer part) origin start gap (filled + length octets) false)
  written_more origin = record {
    taken = taken_more;
    start = refl;
    failed = refl;
    room = omega arith;
    may_refuse = refl;
    back = ap (λ held. record { room = start - gap; held = held; gap = gap }) behind_kept;
  }
