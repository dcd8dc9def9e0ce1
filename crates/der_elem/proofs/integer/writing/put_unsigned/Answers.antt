use Rattle.std.proofs.Common.{◌≤◌, length, sym, subst, to_z-of_z}
use Rattle.der_tlv.specs.WritingBack.{Put}
use Rattle.der_elem.proofs.IntegerBytes.{unsigned_slice}
use Rattle.der_elem.proofs.IntegerOrder.{natural_of, half_fits}
use Rattle.der_elem.proofs.integer.writing.put_unsigned.Goals as goal

pub put_signed-requires : goal.put_signed-requires
put_signed-requires g c =
    subst (λ octets. length octets ≤ (g.W.Writer.state c.args.writer.now).back.room)
    (sym (natural_of _ c.args.number (to_z-of_z (half_fits c.args.number c.if-number-lt-LEAST_LONG.true))))
    c.requires

pub returns-then-number-lt-LEAST_LONG : goal.returns-then-number-lt-LEAST_LONG
returns-then-number-lt-LEAST_LONG g c =
    subst (λ octets. Put octets (g.W.Writer.state c.args.writer.now) (g.W.Writer.state c.put_signed.new.writer))
    (natural_of _ c.args.number (to_z-of_z (half_fits c.args.number c.if-number-lt-LEAST_LONG.true)))
    c.put_signed.ensures

pub returns : goal.returns
returns g c =
    subst (λ octets. Put octets (g.W.Writer.state c.args.writer.now) (g.W.Writer.state c.put.new.self))
    (unsigned_slice c.args.number c.unsigned_len.result _ c.unsigned_octets-octets.ensures c.unsigned_len.ensures.len c.unsigned_len.ensures.bound)
    c.put.ensures
