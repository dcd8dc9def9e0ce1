use Rattle.std.proofs.Common.{◌<◌, ◌^◌, length, Ok, ap, sym, subst, ◌∙◌}
use Rattle.der_opaque.specs.OctetStringRef as string
use Rattle.der_verify.specs.Extensions.{with_identifier}
use Rattle.der_path.proofs.Alike.{finds, Finds}
use Rattle.der_path.proofs.Values.{none_there, twice, value_refused, value_there}
use Rattle.der_path.proofs.facts.value_of.Goals as goal

pub returns-in_default : goal.returns-in_default
returns-in_default g c = λ free listed a.
    twice g.T.Form (with_identifier c.args.identifier.now listed) c.in_default.field-0
    (subst (Finds (with_identifier c.args.identifier.now listed)) (sym c.only_extension.ensures ∙ c.in_default.is) (finds c.args.identifier.now listed c.args.extensions.now a))

pub returns-in_default-found : goal.returns-in_default-found
returns-in_default-found g c = λ free listed a.
    none_there g.T.Form (with_identifier c.args.identifier.now listed)
    (subst (Finds (with_identifier c.args.identifier.now listed)) (sym c.only_extension.ensures ∙ c.in-Ok.is ∙ ap Ok c.in_default-found.is) (finds c.args.identifier.now listed c.args.extensions.now a))

pub returns-in-Ok-from_der : goal.returns-in-Ok-from_der
returns-in-Ok-from_der g c = λ free listed a.
    value_there g.T.Form c.as_bytes.result.now c.in-Some.extension (c.as_bytes.ensures ∙ ap string.octets_of c.extn_value.ensures) (with_identifier c.args.identifier.now listed) c.in-Ok-from_der.value
    (subst (Finds (with_identifier c.args.identifier.now listed)) (sym c.only_extension.ensures ∙ c.in-Ok.is ∙ ap Ok c.in-Some.is) (finds c.args.identifier.now listed c.args.extensions.now a))
    c.in-Ok-from_der.ensures

pub returns-in-Err : goal.returns-in-Err
returns-in-Err g c = λ free listed a.
    value_refused g.T.Form c.as_bytes.result.now c.in-Some.extension (c.as_bytes.ensures ∙ ap string.octets_of c.extn_value.ensures) free (subst (λ o. length o < 2 ^ 32) (sym c.as_bytes.ensures) c.extn_value.result.now.short) (with_identifier c.args.identifier.now listed) c.in-Err._error
    (subst (Finds (with_identifier c.args.identifier.now listed)) (sym c.only_extension.ensures ∙ c.in-Ok.is ∙ ap Ok c.in-Some.is) (finds c.args.identifier.now listed c.args.extensions.now a))
    c.in-Err.ensures
