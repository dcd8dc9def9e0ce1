use Rattle.std.proofs.Common.{◌≡◌, ◌≤◌, length, rules}
use Rattle.der_tlv.proofs.Places.{end_put}
use Rattle.der_tlv.proofs.writer.back.place.Place.put_end.Goals as goal

pub returns-clause-held : goal.returns-clause-held
returns-clause-held c =
    let far : 8 ≤ c.args.self.now.start = search rules in
    let size : length c.args.block ≡ 8 = search rules in
    end_put c.args.buffer.now c.args.block c.copy_from_slice.new.self c.args.self.now.start c.args.len c.copy_from_slice.ensures.after far c.requires.inside c.requires.few size
