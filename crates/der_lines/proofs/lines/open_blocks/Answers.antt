use Rattle.std.proofs.Common.{◌≡◌, ◌≢◌, ◌++◌, ◌+◌, ◌-◌, ℕ, List, All, take, drop, sym, ap, subst, ◌∙◌, arith, take-take, take-append-drop}
use Rattle.std.proofs.lemmas.List.{drop-take}
use Rattle.std.proofs.lemmas.List.Elements.{All-append}
use Rattle.der_lines.proofs.lines.open_blocks.Goals as goal

abbrev Other : ℕ → Type 0
Other octet = octet ≢ 10

pub loop-end-preserved : goal.loop-end-preserved
loop-end-preserved c =
    let octets : List ℕ = c.args.octets.now in
    let end : ℕ = c.loop-end.end in
    let count : end + 16 - end ≡ 16 = omega arith in
    let split : take end octets ++ take 16 (drop end octets) ≡ take (end + 16) octets =
    ap (λ (l : List ℕ). l ++ take 16 (drop end octets)) (sym (take-take end (end + 16) octets (omega arith)))
    ∙ ap (λ (l : List ℕ). take end (take (end + 16) octets) ++ l) (sym (drop-take end 16 octets)) ∙ take-append-drop end (take (end + 16) octets) in
    let block = subst (λ (k : ℕ). All Other (take k (drop end octets))) count (c.is_open.ensures c.if-is_open.true) in
    record {
      within = omega arith;
      before = subst (All Other) split (All-append Other (take end octets) (take 16 (drop end octets)) c.loop-end.invariant.before block);
    }
