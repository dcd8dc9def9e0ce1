use Rattle.std.proofs.Common.{rules, refl}
use Rattle.der_elem.proofs.Alone.{not_read, left_over_unread, all_read, unless_true}
use Rattle.der_elem.proofs.blanket.AnyFromDer.from_der.Goals as goal

pub returns-in_err-value : goal.returns-in_err-value
returns-in_err-value g c =
    let none = not_read g.T.Form (record { state = c.in-Ok.ensures.state; fits = c.in-Ok.ensures.ok.0 refl }) c.in_err-value.ensures in
    search rules

pub returns-in_err-finish : goal.returns-in_err-finish
returns-in_err-finish g c =
    let none = left_over_unread g.T.Form (record { state = c.in-Ok.ensures.state; fits = c.in-Ok.ensures.ok.0 refl }) c.in_ok-value.ensures (unless_true _ c.in_err-finish.ensures.ok.1) c.in_err-finish.ensures.err in
    search rules

pub returns : goal.returns
returns g c =
    all_read g.T.Form (record { state = c.in-Ok.ensures.state; fits = c.in-Ok.ensures.ok.0 refl }) c.in_ok-value.ensures (c.in_ok-finish.ensures.ok.0 refl)
