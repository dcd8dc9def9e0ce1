use Rattle.std.proofs.Common.{length, ap, ◌∙◌, to_z-of_z}
use Rattle.std.specs.Int.{cast_unsigned, w128}
use Rattle.der_elem.specs.Integer.{integer_contents}
use Rattle.der_elem.proofs.IntegerBytes.{aligned_number}
use Rattle.der_elem.proofs.integer.ordering.aligned_contents.Goals as goal

pub returns : goal.returns
returns c =
    let same = to_z-of_z c.ranges.number in
    aligned_number c.args.number c.signed_len.result c.cast_unsigned.result c.ranges.number (c.cast_unsigned.ensures ∙ ap (cast_unsigned w128) same) (c.signed_len.ensures.len ∙ ap (λ y. length (integer_contents y)) same) c.signed_len.ensures.bound
