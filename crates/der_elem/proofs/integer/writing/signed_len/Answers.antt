use Rattle.std.proofs.Common.{length, ◌*◌, ◌^◌, ◌<◌, arith, sym, ap, ◌∙◌, to_z-of_z}
use Rattle.std.specs.Int.Signed.{mag}
use Rattle.der_elem.specs.Integer.{natural_contents}
use Rattle.der_elem.specs.IntegerLaws.{integer_contents-length, mag-complement_if, natural_contents-length_le}
use Rattle.der_elem.proofs.integer.writing.signed_len.Goals as goal

pub returns-clause-len : goal.returns-clause-len
returns-clause-len c =
    let parts = c.signed_parts-magnitude in
    c.unsigned_len.ensures.len
    ∙ ap (λ n. length (natural_contents n)) (sym (mag-complement_if parts.result.1 parts.result.0) ∙ ap mag (parts.ensures.value ∙ to_z-of_z c.ranges.number))
    ∙ sym (integer_contents-length c.args.number)

pub returns-clause-bound : goal.returns-clause-bound
returns-clause-bound c =
    let parts = c.signed_parts-magnitude in
    let fits : parts.result.0 < 128 * 256 ^ 15 = omega (arith, parts.ensures.bound) in
    omega (arith, c.unsigned_len.ensures.len, natural_contents-length_le parts.result.0 15 fits)
