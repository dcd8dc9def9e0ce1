use Rattle.std.proofs.Common.{◌≡◌, length, SFits, to_z, ap, subst, refl, ◌∙◌, arith, to_z-of_z}
use Rattle.std.specs.Int.{cast_unsigned, w64}
use Rattle.der_tlv.specs.WritingBack.{Put}
use Rattle.der_elem.specs.Integer.{integer_contents}
use Rattle.der_elem.proofs.IntegerBytes.{short_length, short_last}
use Rattle.der_elem.proofs.integer.writing.put_signed.Goals as goal

pub put_end-requires-clause-few : goal.put_end-requires-clause-few
put_end-requires-clause-few g c =
    let z = c.args.number in
    let same = to_z-of_z c.ranges.number in
    omega (arith, c.signed_len-len.ensures.len, ap (λ y. length (integer_contents y)) same, short_length z (subst (SFits w64) same c.in-Ok.ensures.0))

pub returns : goal.returns
returns g c =
    let z = c.args.number in
    let same = to_z-of_z c.ranges.number in
    let fits : SFits w64 z = subst (SFits w64) same c.in-Ok.ensures.0 in
    let short : c.in-Ok.short ≡ z = c.in-Ok.ensures.1 ∙ same in
    let len : c.signed_len-len.result ≡ length (integer_contents z) = c.signed_len-len.ensures.len ∙ ap (λ y. length (integer_contents y)) same in
    subst (λ octets. Put octets (g.W.Writer.state c.args.writer.now) (g.W.Writer.state c.put_end.new.self))
    (short_last z c.signed_len-len.result c.cast_unsigned.result c.to_be_bytes.result fits (c.cast_unsigned.ensures ∙ ap (λ y. cast_unsigned w64 (to_z w64 (cast_unsigned w64 y))) short ∙ ap (cast_unsigned w64) (to_z-of_z fits)) c.to_be_bytes.ensures len)
    c.put_end.ensures
