use Rattle.std.proofs.Common.{Ok, ap, ◌∙◌}
use Rattle.der_lists.specs.ListRef as list_ref
use Rattle.der_nest.specs.BorrowedSequences.{items_format}
use Rattle.der_nest.specs.KeptFormat.{parse_of_kept}
use Rattle.der_opaque.specs.contracts.any_ref.AnyRefForm.TheImpl.{ghosts as any_form}
use Rattle.der_additions.proofs.additions.Additions.new.Goals as goal

pub returns-in-Ok-clause-kept : goal.returns-in-Ok-clause-kept
returns-in-Ok-clause-kept c = λ fits.
    let kept = c.in-Ok.ensures.kept fits in
    (kept.own, parse_of_kept list_ref.octets_of (items_format any_form) c.in-Ok.list c.args.octets.now kept fits ∙ ap Ok kept.own)
