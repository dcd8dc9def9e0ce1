use Rattle.std.proofs.Common.{◌++◌, sym, ap, ◌∙◌, append_assoc}
use Rattle.std.proofs.KnownBytes.{Appends-trans}
use Rattle.der_lines.proofs.sink.write_all.Goals as goal

pub loop-preserved : goal.loop-preserved
loop-preserved g c =
    let so_far = c.loop.invariant in
    let step = c.in_ok-rest.ensures.ok in
    (so_far.0 ++ step.0, so_far.1 ∙ ap (λ l. so_far.0 ++ l) step.1 ∙ sym (append_assoc so_far.0 step.0 _), Appends-trans _ _ _ so_far.0 step.0 so_far.2 step.2)
