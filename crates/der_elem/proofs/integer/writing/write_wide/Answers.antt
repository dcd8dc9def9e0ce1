use Rattle.std.proofs.Common.{false, length, ap, subst, ◌∙◌, to_z-of_z}
use Rattle.std.specs.Int.{cast_unsigned, w128}
use Rattle.der_elem.specs.Encoding.{Encodes}
use Rattle.der_elem.specs.Integer.{integer_contents}
use Rattle.der_elem.proofs.IntegerBytes.{signed_slice}
use Rattle.der_elem.proofs.Written.{encoded_whole}
use Rattle.der_elem.proofs.integer.writing.write_wide.Goals as goal

pub returns : goal.returns
returns g c =
    let z = c.args.number in
    let same = to_z-of_z c.ranges.number in
    subst (λ octets. Encodes octets false (g.W.Writer.state c.args.writer.now) (g.W.Writer.state c.write.new.self) c.write.result)
    (signed_slice z c.signed_len-len.result _ _ c.ranges.number (c.cast_unsigned.ensures ∙ ap (cast_unsigned w128) same) c.to_be_bytes-octets.ensures (c.signed_len-len.ensures.len ∙ ap (λ y. length (integer_contents y)) same) c.signed_len-len.ensures.bound)
    (encoded_whole _ _ _ c.write.result c.write.ensures)
