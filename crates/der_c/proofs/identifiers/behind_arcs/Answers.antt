use Rattle.std.proofs.Common.{ℕ, ◌-◌, ◌*◌, ◌++◌, ◌≡◌, None, sym, subst, Bool}
use Rattle.std.specs.Fmt.{decimal}
use Rattle.der_c.specs.Dotted.{Strips, arcs_text, dot_arc, first_arc}
use Rattle.der_c.proofs.DottedParts.{strips_both, strips_none}
use Rattle.der_c.proofs.identifiers.behind_arcs.Goals as goal

pub returns-in-Some : goal.returns-in-Some
returns-in-Some c =
    let P : Bool → Type 0 = λ b. Strips c.args.text.now (arcs_text b c.args.number) c.behind_arc.result in
    let Q : ℕ → Type 0 = λ n. c.args.text.now ≡ decimal n ++ c.in-Some.rest.now in
    let R : ℕ → Type 0 = λ n. Strips c.in-Some.rest.now (dot_arc (c.args.number - 40 * n)) c.behind_arc.result in
    subst P (sym c.if-is_first.true) (strips_both c.args.text.now (decimal (first_arc c.args.number)) (dot_arc (c.args.number - 40 * first_arc c.args.number)) c.in-Some.rest.now c.behind_arc.result
    (subst Q c.min-first.ensures c.in-Some.ensures) (subst R c.min-first.ensures c.behind_arc.ensures))

pub returns-in-None : goal.returns-in-None
returns-in-None c =
    let P : Bool → Type 0 = λ b. Strips c.args.text.now (arcs_text b c.args.number) None in
    let Q : ℕ → Type 0 = λ n. Strips c.args.text.now (decimal n) None in
    subst P (sym c.if-is_first.true) (strips_none c.args.text.now (decimal (first_arc c.args.number)) (dot_arc (c.args.number - 40 * first_arc c.args.number)) (subst Q c.min-first.ensures c.in-None.ensures))

pub returns-else-is_first : goal.returns-else-is_first
returns-else-is_first c =
    let P : Bool → Type 0 = λ b. Strips c.args.text.now (arcs_text b c.args.number) c.behind_arc-else-is_first.result in
    subst P (sym c.if-is_first.false) c.behind_arc-else-is_first.ensures
