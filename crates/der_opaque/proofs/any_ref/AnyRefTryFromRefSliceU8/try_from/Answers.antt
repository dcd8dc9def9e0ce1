use Rattle.std.proofs.Common.{inr, refl}
use Rattle.der_elem.proofs.Alone.{not_read, left_over_unread, unless_true}
use Rattle.der_opaque.specs.contracts.any_ref.AnyRefForm.TheImpl.{ghosts}
use Rattle.der_opaque.proofs.any_ref.AnyRefTryFromRefSliceU8.try_from.Goals as goal

pub returns-in-Err-read : goal.returns-in-Err-read
returns-in-Err-read c =
    not_read ghosts (record { state = c.in-Ok.ensures.state; fits = c.in-Ok.ensures.ok.0 refl }) c.in-Err-read.ensures

pub returns-in-Err-finish : goal.returns-in-Err-finish
returns-in-Err-finish c =
    inr (left_over_unread ghosts (record { state = c.in-Ok.ensures.state; fits = c.in-Ok.ensures.ok.0 refl }) c.in-Ok-read.ensures (unless_true _ c.in-Err-finish.ensures.ok.1) c.in-Err-finish.ensures.err)
