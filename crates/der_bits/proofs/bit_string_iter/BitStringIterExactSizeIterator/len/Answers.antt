use Rattle.std.proofs.Common.{◌-◌, ◌*◌, ◌∙◌, sym, ap, length}
use Rattle.der_bits.specs.BitPlaceLaws.{length-bits_from}
use Rattle.der_bits.proofs.bit_string_iter.BitStringIterExactSizeIterator.len.Goals as goal

pub returns : goal.returns
returns c =
    let string = c.self.inside.string in
    let i = c.self.inside.position in
    record {
      bits = ap (λ n. n - i) c.bit_len.ensures ∙ sym (length-bits_from string.octets.now i (8 * length string.octets.now - string.unused - i)) ∙ ap length c.self.view_is;
    }
