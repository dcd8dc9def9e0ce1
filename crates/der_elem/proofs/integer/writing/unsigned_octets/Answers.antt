use Rattle.std.proofs.Common.{[], ◌∷◌, ◌++◌, ap, ◌∙◌}
use Rattle.der_elem.proofs.IntegerBytes.{zero_front}
use Rattle.der_elem.proofs.integer.writing.unsigned_octets.Goals as goal

pub returns : goal.returns
returns c = ap (λ octets. 0 ∷ (octets ++ [])) (c.copy_from_slice.ensures.after ∙ c.to_be_bytes.ensures) ∙ zero_front c.args.number c.ranges.number.fits
