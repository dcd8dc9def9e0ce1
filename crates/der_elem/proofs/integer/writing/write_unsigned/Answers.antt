use Rattle.std.proofs.Common.{false, subst, to_z-of_z}
use Rattle.der_elem.specs.Encoding.{Encodes}
use Rattle.der_elem.proofs.IntegerBytes.{unsigned_slice}
use Rattle.der_elem.proofs.IntegerOrder.{natural_of, half_fits}
use Rattle.der_elem.proofs.Written.{encoded_whole}
use Rattle.der_elem.proofs.integer.writing.write_unsigned.Goals as goal

pub returns : goal.returns
returns g c =
    subst (λ octets. Encodes octets false (g.W.Writer.state c.args.writer.now) (g.W.Writer.state c.write.new.self) c.write.result)
    (unsigned_slice c.args.number c.unsigned_len.result _ c.unsigned_octets-octets.ensures c.unsigned_len.ensures.len c.unsigned_len.ensures.bound)
    (encoded_whole _ _ _ c.write.result c.write.ensures)

pub returns-then-number-lt-LEAST_LONG : goal.returns-then-number-lt-LEAST_LONG
returns-then-number-lt-LEAST_LONG g c =
    subst (λ octets. Encodes octets false (g.W.Writer.state c.args.writer.now) (g.W.Writer.state c.write_signed.new.writer) c.write_signed.result)
    (natural_of _ c.args.number (to_z-of_z (half_fits c.args.number c.if-number-lt-LEAST_LONG.true)))
    c.write_signed.ensures
