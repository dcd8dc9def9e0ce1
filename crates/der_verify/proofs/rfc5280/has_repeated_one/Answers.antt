-- Each extension is compared with all after it.
use Rattle.std.proofs.Common.{true, false, sym, ap, subst, ◌∙◌}
use Rattle.std.specs.List.{list_any}
use Rattle.der_lists.specs.Items.{AreToCome}
use Rattle.der_lists.specs.ListRef as list
use Rattle.der_opaque.specs.ObjectIdentifierRef as identifier
use Rattle.der_verify.specs.EqualEncodings.{same_extension}
use Rattle.der_verify.specs.Extensions.{has_identifier}
use Rattle.der_verify.specs.contracts.shown.MeaningsMeantExtension.TheImpl as extension_meaning
use Rattle.der_verify.proofs.Repeats.{two_begin, two_end, two_go}
use Rattle.der_verify.proofs.rfc5280.has_repeated_one.Goals as goal

pub each-init : goal.each-init
each-init c = two_begin extension_meaning.ghosts.FORM (list.octets_of c.args.extensions.now) c.iter-left.result c.args.extensions.now.octets.short c.iter-left.ensures.octets

pub returns-then-one_has : goal.returns-then-one_has
returns-then-one_has c = λ all a.
    (two_go extension_meaning.ghosts.FORM (list.octets_of c.args.extensions.now) (λ v w e. (same_extension v w e).identifier) c.each.left c.next.new.self c.in-Ok.extension true c.each.invariant (rw c.in-Ok.is at c.in-Some.ensures.steps) (λ items a. sym c.if-one_has.true ∙ c.one_has.ensures items (subst (λ s. AreToCome extension_meaning.ghosts.FORM s items) (sym c.in-Ok-clone.ensures.cases) a) ∙ ap (λ o. list_any (has_identifier o) items) (c.as_bytes.ensures.value ∙ ap identifier.octets_of c.extn_id.ensures)) all a).2

pub each-preserved : goal.each-preserved
each-preserved c =
    two_go extension_meaning.ghosts.FORM (list.octets_of c.args.extensions.now) (λ v w e. (same_extension v w e).identifier) c.each.left c.next.new.self c.in-Ok.extension false c.each.invariant (rw c.in-Ok.is at c.in-Some.ensures.steps) (λ items a. sym c.if-one_has.false ∙ c.one_has.ensures items (subst (λ s. AreToCome extension_meaning.ghosts.FORM s items) (sym c.in-Ok-clone.ensures.cases) a) ∙ ap (λ o. list_any (has_identifier o) items) (c.as_bytes.ensures.value ∙ ap identifier.octets_of c.extn_id.ensures))

pub returns : goal.returns
returns c = two_end extension_meaning.ghosts.FORM (list.octets_of c.args.extensions.now) c.each.left c.next.new.self c.each.invariant (rw c.in_default.is at c.next.ensures.steps)
