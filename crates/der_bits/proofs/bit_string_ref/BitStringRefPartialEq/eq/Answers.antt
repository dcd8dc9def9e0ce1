use Rattle.std.proofs.Common.{◌≡◌, ◌&&◌, false, nat_eq, sym, ap, ◌∙◌, eq-eqb, ne_eqb}
use Rattle.std.specs.Cmp.Lexicographic.{pointwise}
use Rattle.der_bits.specs.EqualBitsLaws.{same_tests}
use Rattle.der_bits.proofs.bit_string_ref.BitStringRefPartialEq.eq.Goals as goal

pub returns-then-self-other : goal.returns-then-self-other
returns-then-self-other c =
    let v = c.args.self.now in
    let w = c.args.other.now in
    let same = same_tests v.unused w.unused v.octets.now w.octets.now v.possible v.zero w.possible w.zero v.octet w.octet in
    let counts = eq-eqb v.unused w.unused c.if-self-other.true in
    c.eq.ensures ∙ ap (λ b. b && pointwise nat_eq v.octets.now w.octets.now) (sym counts) ∙ sym same

pub returns-else-self-other : goal.returns-else-self-other
returns-else-self-other c =
    let v = c.args.self.now in
    let w = c.args.other.now in
    let same = same_tests v.unused w.unused v.octets.now w.octets.now v.possible v.zero w.possible w.zero v.octet w.octet in
    let counts : nat_eq v.unused w.unused ≡ false = ne_eqb v.unused w.unused c.if-self-other.false in
    counts ∙ ap (λ b. b && pointwise nat_eq v.octets.now w.octets.now) (sym counts) ∙ sym same
