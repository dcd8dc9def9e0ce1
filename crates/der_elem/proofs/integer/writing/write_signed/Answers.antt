use Rattle.std.proofs.Common.{◌≡◌, false, length, SFits, to_z, ap, subst, refl, ◌∙◌, arith, to_z-of_z}
use Rattle.std.specs.Int.{cast_unsigned, w64}
use Rattle.der_elem.specs.Encoding.{Encodes}
use Rattle.der_elem.specs.Integer.{integer_contents}
use Rattle.der_elem.proofs.IntegerBytes.{short_length, short_front}
use Rattle.der_elem.proofs.Written.{encoded_whole}
use Rattle.der_elem.proofs.integer.writing.write_signed.Goals as goal

pub overflow_sub-front : goal.overflow_sub-front
overflow_sub-front g c =
    let z = c.args.number in
    let same = to_z-of_z c.ranges.number in
    omega (arith, c.signed_len-len.ensures.len, ap (λ y. length (integer_contents y)) same, short_length z (subst (SFits w64) same c.in-Ok.ensures.0))

pub write_front-requires : goal.write_front-requires
write_front-requires g c =
    let z = c.args.number in
    let same = to_z-of_z c.ranges.number in
    omega (arith, c.signed_len-len.ensures.len, ap (λ y. length (integer_contents y)) same, short_length z (subst (SFits w64) same c.in-Ok.ensures.0))

pub returns : goal.returns
returns g c =
    let z = c.args.number in
    let same = to_z-of_z c.ranges.number in
    let fits : SFits w64 z = subst (SFits w64) same c.in-Ok.ensures.0 in
    let short : c.in-Ok.short ≡ z = c.in-Ok.ensures.1 ∙ same in
    let len : c.signed_len-len.result ≡ length (integer_contents z) = c.signed_len-len.ensures.len ∙ ap (λ y. length (integer_contents y)) same in
    subst (λ octets. Encodes octets false (g.W.Writer.state c.args.writer.now) (g.W.Writer.state c.write_front.new.self) c.write_front.result)
    (short_front z c.signed_len-len.result c.cast_unsigned.result _ c.to_be_bytes.result fits (c.cast_unsigned.ensures ∙ ap (λ y. cast_unsigned w64 (to_z w64 (cast_unsigned w64 y))) short ∙ ap (cast_unsigned w64) (to_z-of_z fits)) refl c.to_be_bytes.ensures len (omega (arith, len, short_length z fits)))
    (encoded_whole _ _ _ c.write_front.result c.write_front.ensures)
