use Rattle.std.proofs.Common.{rules, arith, ◌<◌, sym, subst}
use Rattle.std.specs.Char.{IsScalar}
use Rattle.std.specs.Str.Iter.{chars_rest}
use Rattle.der_text.proofs.FromText.{Taken, taken_more, taken_units, taken_basic, taken_len}
use Rattle.der_text.proofs.bmp_units.octets_of.Goals as goal

pub characters-preserved : goal.characters-preserved
characters-preserved c =
    let before = c.characters.invariant.2 in
    let scalar : IsScalar c.in-Some.character = search rules in
    let less : c.in-Some.character < 65536 = search (rules, arith) in
    let after = taken_more c.in-Some.character (chars_rest c.next.new.self) before scalar less c.in-Some.ensures.steps.0 in
    (tt, tt, subst (λ items. Taken c.args.text.now items (chars_rest c.next.new.self)) (sym c.in_ok-push_unit.ensures.pushed) after)

pub returns-clause-units : goal.returns-clause-units
returns-clause-units c = taken_units c.characters.invariant.2 c.in_default.ensures.steps.0.0

pub returns-clause-basic : goal.returns-clause-basic
returns-clause-basic c = taken_basic c.characters.invariant.2 c.in_default.ensures.steps.0.0

pub returns-clause-len : goal.returns-clause-len
returns-clause-len c =
    let whole = taken_len c.characters.invariant.2 c.in_default.ensures.steps.0.0 in
    let fits = c.in-Ok.ensures.len in
    (whole, omega arith)
