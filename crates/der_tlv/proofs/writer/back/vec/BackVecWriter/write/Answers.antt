use Rattle.std.proofs.Common.{◌≡◌, length, sym, subst, rules}
use Rattle.std.proofs.lemmas.List.{with_items_is}
use Rattle.der_tlv.specs.Writing.{Writes}
use Rattle.der_tlv.specs.Views.{place_state}
use Rattle.der_tlv.proofs.writer.back.vec.BackVecWriter.write.Goals as goal

pub returns : goal.returns
returns c =
    let vec = c.args.self.now.octets in
    let size : length c.write.new.buffer ≡ vec.len = search rules in
    let now = subst (λ octets. Writes c.args.octets.now (place_state (0, 0) octets c.args.self.now.place) (place_state (0, 0) c.write.new.buffer c.write.new.self) c.write.result) c.deref_mut.ensures.value (c.write.ensures.written (0, 0)) in
    subst (λ octets. Writes c.args.octets.now (place_state (0, 0) vec.items c.args.self.now.place) (place_state (0, 0) octets c.write.new.self) c.write.result) (sym (with_items_is vec c.write.new.buffer size)) now
