use Rattle.std.proofs.Common.{rules, arith, refl, inr, ◌∙◌, ◌≡◌, ◌<◌, ◌/◌, ◌%◌, ◌+◌, ◌++◌, [], ◌∷◌, length}
use Rattle.std.proofs.lemmas.List.{length-append}
use Rattle.std.specs.Char.{IsScalar}
use Rattle.std.specs.Str.Iter.{chars_rest}
use Rattle.der_text.proofs.FromText.{taken_more, taken_basic, taken_len}
use Rattle.der_text.proofs.bmp_units.units_len.Goals as goal

pub characters-preserved : goal.characters-preserved
characters-preserved c =
    let so_far = c.characters.invariant.2 in
    let before = so_far.1.0 in
    let bound = so_far.1.1 in
    let exact = so_far.1.2 in
    let code = c.in-Some.character in
    let scalar : IsScalar code = search rules in
    let less : code < 65536 = search (rules, arith) in
    let after = taken_more code (chars_rest c.next.new.self) before scalar less c.in-Some.ensures.steps.0 in
    let octets = so_far.0 ++ (code / 256) ∷ (code % 256) ∷ [] in
    let longer : length octets ≡ length so_far.0 + 2 = length-append so_far.0 ((code / 256) ∷ (code % 256) ∷ []) in
    (tt, tt, (octets, (after, omega arith, λ small. omega arith)))

pub returns-in-Ok-clause-len : goal.returns-in-Ok-clause-len
returns-in-Ok-clause-len c =
    let so_far = c.characters.invariant.2.1 in
    let whole = taken_len so_far.0 c.in_default.ensures.steps.0.0 in
    let exact = so_far.2 c.in-Ok.ensures.1 in
    (c.in-Ok.ensures.0 ∙ exact ∙ whole, let same = c.in-Ok.ensures.0 in let small = c.in-Ok.ensures.1 in omega arith)

pub returns-in-Ok-clause-basic : goal.returns-in-Ok-clause-basic
returns-in-Ok-clause-basic c = taken_basic c.characters.invariant.2.1.0 c.in_default.ensures.steps.0.0

pub returns-in-Err-clause-refused : goal.returns-in-Err-clause-refused
returns-in-Err-clause-refused c =
    let so_far = c.characters.invariant.2.1 in
    let whole = taken_len so_far.0 c.in_default.ensures.steps.0.0 in
    let bound = so_far.1 in
    let many = c.in-Err.ensures.1 in
    inr (refl, taken_basic so_far.0 c.in_default.ensures.steps.0.0, omega arith)
