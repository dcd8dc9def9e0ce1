use Rattle.std.proofs.Common.{rules}
use Rattle.der_tlv.specs.ReaderState.{IsReaderState}
use Rattle.der_tlv.proofs.ReaderStates.{finished}
use Rattle.der_tlv.proofs.reader.calls.AnyReader.is_finished.Goals as goal

pub returns : goal.returns
returns g c =
    let sound : IsReaderState (g.S.Source.state c.args.self.now) = search rules in
    finished (g.S.Source.state c.args.self.now) sound c.cursor-cursor.result.position c.cursor-cursor.result.end (search rules) (search rules)
