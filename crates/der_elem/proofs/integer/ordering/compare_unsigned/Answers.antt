use Rattle.std.proofs.Common.{◌/◌, ap, ap₂, sym, ◌∙◌, to_z-of_z}
use Rattle.std.specs.Ordering.{ordering_then}
use Rattle.std.specs.declared.cmp.Ordering.TheVariants.{Less, Greater}
use Rattle.der_tlv.specs.Octets.{lex}
use Rattle.der_elem.proofs.IntegerOrder.{long_first, long_second, both_long, natural_of, half_fits, quotient_fits}
use Rattle.der_elem.proofs.integer.ordering.compare_unsigned.Goals as goal

pub returns-in-true-true : goal.returns-in-true-true
returns-in-true-true c =
    let a = c.in-true-true.is-0 in
    let b = c.in-true-true.is-1 in
    c.compare_signed.ensures
    ∙ ap₂ lex (natural_of _ c.args.a (to_z-of_z (half_fits c.args.a a))) (natural_of _ c.args.b (to_z-of_z (half_fits c.args.b b)))

pub returns-in-true-false : goal.returns-in-true-false
returns-in-true-false c =
    let a = c.in-true-false.is-0 in
    let b = c.in-true-false.is-1 in
    c.then.ensures
    ∙ ap (λ o. ordering_then o Less)
    (c.compare_signed-in-true-false.ensures ∙ ap₂ lex (natural_of _ c.args.a (to_z-of_z (half_fits c.args.a a))) (natural_of _ (c.args.b / 256) (to_z-of_z (quotient_fits c.args.b c.ranges.b.fits))))
    ∙ sym (long_second c.args.a c.args.b a b c.ranges.b.fits)

pub returns-in-false-true : goal.returns-in-false-true
returns-in-false-true c =
    let a = c.in-false-true.is-0 in
    let b = c.in-false-true.is-1 in
    c.then-in-false-true.ensures
    ∙ ap (λ o. ordering_then o Greater)
    (c.compare_signed-in-false-true.ensures ∙ ap₂ lex (natural_of _ (c.args.a / 256) (to_z-of_z (quotient_fits c.args.a c.ranges.a.fits))) (natural_of _ c.args.b (to_z-of_z (half_fits c.args.b b))))
    ∙ sym (long_first c.args.a c.args.b a c.ranges.a.fits b)

pub returns-in-false-false : goal.returns-in-false-false
returns-in-false-false c =
    c.cmp.ensures ∙ sym (both_long c.args.a c.args.b c.in-false-false.is-0 c.ranges.a.fits c.in-false-false.is-1 c.ranges.b.fits)
