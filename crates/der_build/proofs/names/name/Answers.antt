-- A name is made of its attributes, one after another.
use Rattle.std.proofs.Common.{List, ℕ, ◌≡◌, refl, subst}
use Rattle.std.specs.Prelude.{IfOk}
use Rattle.std.proofs.lemmas.Result.{IfErr-weaker}
use Rattle.der_elem.specs.Encoding.{NoVector}
use Rattle.der_build.specs.Names.{RefusesName}
use Rattle.der_build.proofs.Parts.{all_made, not_written, one_made, part_refused}
use Rattle.der_build.proofs.names.name.Goals as goal

pub returns-in-Err-clause-refused : goal.returns-in-Err-clause-refused
returns-in-Err-clause-refused c =
    part_refused c.in-Err.e.kind c.args.attributes.now c.each.left.now _ _ c.each.parts.items c.each.invariant c.in-len1-up.len_at_least refl c.in-Err.ensures.refused

pub each-preserved : goal.each-preserved
each-preserved c =
    one_made c.args.attributes.now c.each.left.now _ _ _ c.each.parts.items _ c.in-Ok.part c.each.invariant c.in-len1-up.len_at_least refl refl c.in-Ok.ensures.octets c.in-Ok-push.ensures.items

pub returns-clause-octets : goal.returns-clause-octets
returns-clause-octets c =
    let whole = all_made c.args.attributes.now c.each.left.now c.each.parts.items c.each.invariant c.in_default.len_below in
    subst (λ (l : List ℕ). IfOk c.to_der.result (λ octets. octets.items ≡ l)) whole c.to_der.ensures.ok

pub returns-clause-refused : goal.returns-clause-refused
returns-clause-refused c =
    let whole = all_made c.args.attributes.now c.each.left.now c.each.parts.items c.each.invariant c.in_default.len_below in
    IfErr-weaker c.to_der.result (λ e. NoVector _ _ e.kind) (λ e. RefusesName c.args.attributes.now e.kind) (λ e why. not_written c.args.attributes.now _ _ e.kind whole why) c.to_der.ensures.err
