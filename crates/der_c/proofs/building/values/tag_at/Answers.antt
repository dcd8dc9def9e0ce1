use Rattle.std.proofs.Common.{◌≡◌, Err, inr, refl, subst}
use Rattle.der_tlv.specs.HeaderReading.{read_tag}
use Rattle.der_tlv.specs.ReaderState.{ReaderState, unless_failed}
use Rattle.der_c.proofs.building.values.tag_at.Goals as goal

pub returns-in-Err-decode-clause-err : goal.returns-in-Err-decode-clause-err
returns-in-Err-decode-clause-err c =
    let error = c.in-Err-decode.error in
    let parsed = subst (λ (s : ReaderState). unless_failed read_tag s ≡ Err error.kind) c.in-Ok.ensures.state c.in-Err-decode.ensures.head.fault_is in
    inr (error.kind, parsed, (error, refl, c.fault_of-in-Err-decode.ensures))
