-- An identifier is added to those that were seen, or is one of them.
use Rattle.std.proofs.Common.{ap, subst, sym, ◌∙◌}
use Rattle.der_lists.specs.ListRef as list
use Rattle.der_opaque.specs.ObjectIdentifierRef as identifier
use Rattle.der_verify.specs.EqualEncodings.{same_extension}
use Rattle.der_verify.specs.contracts.shown.MeaningsMeantExtension.TheImpl as extension_meaning
use Rattle.der_verify.proofs.Repeats.{is_among, Joins, repeats_begin, repeats_end, repeats_here, repeats_on, was_absent, was_present}
use Rattle.der_verify.proofs.rfc5280.repeated.one_repeats.Goals as goal

pub each-init : goal.each-init
each-init c = repeats_begin extension_meaning.ghosts.FORM (list.octets_of c.args.extensions.now) c.new-seen.result.keys c.iter-left.result c.new-seen.ensures.empty c.args.extensions.now.octets.short c.iter-left.ensures.octets

pub returns-then-not-branch : goal.returns-then-not-branch
returns-then-not-branch c =
    repeats_here extension_meaning.ghosts.FORM (list.octets_of c.args.extensions.now) (λ v w e. (same_extension v w e).identifier) c.each.seen.keys c.each.left c.next.new.self c.in-Ok.extension c.each.invariant (rw c.in-Ok.is at c.in-Some.ensures.steps)
    (ap (is_among c.each.seen.keys) (sym (c.as_bytes.ensures.value ∙ ap identifier.octets_of c.extn_id.ensures)) ∙ was_present _ _ c.in_ok-insert.ensures.added c.if-not-branch.true)

pub each-preserved : goal.each-preserved
each-preserved c =
    repeats_on extension_meaning.ghosts.FORM (list.octets_of c.args.extensions.now) (λ v w e. (same_extension v w e).identifier) c.each.seen.keys c.insert.new.self.keys c.each.left c.next.new.self c.in-Ok.extension c.each.invariant (rw c.in-Ok.is at c.in-Some.ensures.steps)
    (ap (is_among c.each.seen.keys) (sym (c.as_bytes.ensures.value ∙ ap identifier.octets_of c.extn_id.ensures)) ∙ was_absent _ _ c.in_ok-insert.ensures.added c.if-not-branch.false)
    (subst (Joins c.each.seen.keys c.insert.new.self.keys) (c.as_bytes.ensures.value ∙ ap identifier.octets_of c.extn_id.ensures) c.in_ok-insert.ensures.updates.0)

pub returns : goal.returns
returns c = repeats_end extension_meaning.ghosts.FORM (list.octets_of c.args.extensions.now) c.each.seen.keys c.each.left c.next.new.self c.each.invariant (rw c.in_default.is at c.next.ensures.steps)
