-- The first extension with the identifier has the value.
use Rattle.std.proofs.Common.{ap, sym, ◌∙◌}
use Rattle.der_lists.specs.ListRef as list
use Rattle.der_opaque.specs.OctetStringRef as string
use Rattle.der_verify.specs.EqualEncodings.{same_extension}
use Rattle.der_verify.specs.contracts.shown.MeaningsMeantExtension.TheImpl as extension_meaning
use Rattle.der_verify.proofs.FirstValues.{value_begin, value_here, value_none, value_on}
use Rattle.der_verify.proofs.rfc5280.values.value_in.Goals as goal

pub each-init : goal.each-init
each-init c = value_begin extension_meaning.ghosts.FORM c.args.identifier.now (list.octets_of c.args.extensions.now) c.iter-left.result c.args.extensions.now.octets.short c.iter-left.ensures.octets

pub returns-then-has_identifier : goal.returns-then-has_identifier
returns-then-has_identifier c = λ items a.
    (c.as_bytes.ensures ∙ ap string.octets_of c.extn_value.ensures)
    ∙ value_here extension_meaning.ghosts.FORM c.args.identifier.now (list.octets_of c.args.extensions.now) same_extension c.each.left c.next.new.self c.in-Ok.extension c.each.invariant (rw c.in-Ok.is at c.in-Some.ensures.steps) (sym c.has_identifier.ensures ∙ c.if-has_identifier.true) items a

pub each-preserved : goal.each-preserved
each-preserved c =
    value_on extension_meaning.ghosts.FORM c.args.identifier.now (list.octets_of c.args.extensions.now) same_extension c.each.left c.next.new.self c.in-Ok.extension c.each.invariant (rw c.in-Ok.is at c.in-Some.ensures.steps) (sym c.has_identifier.ensures ∙ c.if-has_identifier.false)

pub returns : goal.returns
returns c = value_none extension_meaning.ghosts.FORM c.args.identifier.now (list.octets_of c.args.extensions.now) c.each.left c.next.new.self c.each.invariant (rw c.in_default.is at c.next.ensures.steps)
