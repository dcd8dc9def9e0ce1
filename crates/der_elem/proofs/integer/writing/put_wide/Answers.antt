use Rattle.std.proofs.Common.{length, ap, subst, ◌∙◌, to_z-of_z}
use Rattle.std.specs.Int.{cast_unsigned, w128}
use Rattle.der_tlv.specs.WritingBack.{Put}
use Rattle.der_elem.specs.Integer.{integer_contents}
use Rattle.der_elem.proofs.IntegerBytes.{signed_slice}
use Rattle.der_elem.proofs.integer.writing.put_wide.Goals as goal

pub returns : goal.returns
returns g c =
    let z = c.args.number in
    let same = to_z-of_z c.ranges.number in
    subst (λ octets. Put octets (g.W.Writer.state c.args.writer.now) (g.W.Writer.state c.put.new.self))
    (signed_slice z c.signed_len-len.result _ _ c.ranges.number (c.cast_unsigned.ensures ∙ ap (cast_unsigned w128) same) c.to_be_bytes-whole.ensures (c.signed_len-len.ensures.len ∙ ap (λ y. length (integer_contents y)) same) c.signed_len-len.ensures.bound)
    c.put.ensures
