use Rattle.std.proofs.Common.{◌≡◌, ◌+◌, ◌-◌, length, arith, refl, rules, ap, ◌∙◌}
use Rattle.std.proofs.lemmas.Slice.{drop-put_mid}
use Rattle.der_tlv.proofs.writer.slice.SliceWriterWriter.write.Goals as goal

-- src/writer/slice.rt:56:5
pub returns-clause-buffer : goal.returns-clause-buffer
returns-clause-buffer c =
    let at = c.args.self.now.position in let end = at + length c.args.octets.now in
    let part_len : length c.copy_from_slice.new.self ≡ end - at = ap length c.copy_from_slice.ensures.after ∙ omega arith in
    record {
      lender = refl;
      refused = search rules;
      behind = drop-put_mid at (end - at) c.args.self.now.bytes.now c.copy_from_slice.new.self end (omega arith) (omega arith) part_len;
    }
