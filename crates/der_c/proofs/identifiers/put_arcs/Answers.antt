use Rattle.std.proofs.Common.{ℕ, ◌-◌, ◌*◌, sym, subst, arith, Bool}
use Rattle.std.specs.Fmt.{decimal}
use Rattle.der_c.specs.Dotted.{arcs_text, dot_arc, first_arc}
use Rattle.der_c.specs.RoomText.{Puts}
use Rattle.der_c.proofs.RoomTexts.{puts_both}
use Rattle.der_c.proofs.identifiers.put_arcs.Goals as goal

pub returns-then-is_first : goal.returns-then-is_first
returns-then-is_first c =
    let P : Bool → Type 0 = λ b. Puts (arcs_text b c.args.number) c.args.room.now c.args.position c.put_arc.new.room c.put_arc.result in
    let Q : ℕ → Type 0 = λ n. Puts (decimal n) c.args.room.now c.args.position c.put_number-next.new.room c.put_number-next.result in
    let R : ℕ → Type 0 = λ n. Puts (dot_arc (c.args.number - 40 * n)) c.put_number-next.new.room c.put_number-next.result c.put_arc.new.room c.put_arc.result in
    subst P (sym c.if-is_first.true) (puts_both (decimal (first_arc c.args.number)) (dot_arc (c.args.number - 40 * first_arc c.args.number)) c.args.room.now c.put_number-next.new.room c.put_arc.new.room c.args.position c.put_number-next.result c.put_arc.result (omega arith)
    (subst Q c.min-first.ensures c.put_number-next.ensures) (subst R c.min-first.ensures c.put_arc.ensures))

pub returns-else-is_first : goal.returns-else-is_first
returns-else-is_first c =
    let P : Bool → Type 0 = λ b. Puts (arcs_text b c.args.number) c.args.room.now c.args.position c.put_arc-else-is_first.new.room c.put_arc-else-is_first.result in
    subst P (sym c.if-is_first.false) c.put_arc-else-is_first.ensures
