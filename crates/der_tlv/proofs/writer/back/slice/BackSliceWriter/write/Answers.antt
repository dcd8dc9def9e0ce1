use Rattle.der_tlv.proofs.writer.back.slice.BackSliceWriter.write.Goals as goal

pub returns : goal.returns
returns c = c.write.ensures.written c.args.self.now.bytes.ref_ptr
