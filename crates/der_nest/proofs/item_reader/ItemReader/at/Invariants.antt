use Rattle.std.proofs.Common.{◌≡◌, drop}
use Rattle.der_tlv.specs.Views.{slice_reader_state}
use Rattle.der_nest.specs.ReReading.{encodings_left}
use Rattle.der_nest.proofs.item_reader.ItemReader.at.Given as goal

-- the items before were read
abbrev pub invariant-skipped : goal.invariant-skipped
invariant-skipped g l =
    encodings_left l.self.left g.T.Form.parse (slice_reader_state l.self.reader) ≡ drop l._i (encodings_left l.fn.self.left g.T.Form.parse (slice_reader_state l.fn.self.reader))
