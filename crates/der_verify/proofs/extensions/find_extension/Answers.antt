-- The extension that is found is the only one.
use Rattle.std.proofs.Common.{sym, ◌∙◌}
use Rattle.der_lists.specs.ListRef.{octets_of}
use Rattle.der_pkix.specs.Certificate.Extensions.{items_of}
use Rattle.der_verify.specs.EqualEncodings.{same_extension}
use Rattle.der_verify.specs.contracts.shown.MeaningsMeantExtension.TheImpl as extension_meaning
use Rattle.der_verify.proofs.EncodedAlike.{alike_identifier}
use Rattle.der_verify.proofs.FindingOne.{finds_begin, finds_more, finds_none, finds_on, finds_one}
use Rattle.der_verify.proofs.extensions.find_extension.Goals as goal

pub each-init : goal.each-init
each-init c = finds_begin extension_meaning.ghosts.FORM c.args.identifier.now (octets_of (items_of c.args.extensions.now)) c.iter-left.result c.args.extensions.now.items.list.octets.short (rw c.items.ensures at c.iter-left.ensures.octets)

pub returns-then-one_has : goal.returns-then-one_has
returns-then-one_has c =
    finds_more extension_meaning.ghosts.FORM c.args.identifier.now (octets_of (items_of c.args.extensions.now)) (λ v w e. alike_identifier c.args.identifier.now v w (same_extension v w e)) c.each.left c.next.new.self c.in-Ok.extension c.from_kind.result c.each.invariant (rw c.in-Ok.is at c.in-Some.ensures.steps) (sym c.has_identifier.ensures ∙ c.if-has_identifier.true) (λ items a. sym c.if-one_has.true ∙ c.one_has.ensures items a) (c.from_kind.ensures.kind ∙ c.value_error.ensures)

pub returns-then-has_identifier : goal.returns-then-has_identifier
returns-then-has_identifier c =
    finds_one extension_meaning.ghosts.FORM c.args.identifier.now (octets_of (items_of c.args.extensions.now)) (λ v w e. alike_identifier c.args.identifier.now v w (same_extension v w e)) c.each.left c.next.new.self c.in-Ok.extension c.each.invariant (rw c.in-Ok.is at c.in-Some.ensures.steps) (sym c.has_identifier.ensures ∙ c.if-has_identifier.true) (λ items a. sym c.if-one_has.false ∙ c.one_has.ensures items a)

pub each-preserved : goal.each-preserved
each-preserved c =
    finds_on extension_meaning.ghosts.FORM c.args.identifier.now (octets_of (items_of c.args.extensions.now)) (λ v w e. alike_identifier c.args.identifier.now v w (same_extension v w e)) c.each.left c.next.new.self c.in-Ok.extension c.each.invariant (rw c.in-Ok.is at c.in-Some.ensures.steps) (sym c.has_identifier.ensures ∙ c.if-has_identifier.false)

pub returns : goal.returns
returns c = finds_none extension_meaning.ghosts.FORM c.args.identifier.now (octets_of (items_of c.args.extensions.now)) c.each.left c.next.new.self c.each.invariant (rw c.in_default.is at c.next.ensures.steps)
