use Rattle.std.proofs.Common.{◌≡◌, ◌+◌, ◌<◌, ◌^◌, length}
use Rattle.std.specs.List.{concat}
use Rattle.der_tlv.specs.declared.encoding_rules.EncodingRules.TheVariants.{Der}
use Rattle.der_tlv.specs.Views.{slice_reader_state}
use Rattle.der_nest.specs.ReReading.{encodings_read, encodings_left}
use Rattle.der_nest.proofs.set_of_ref.checked_octets.CheckedOctets.items_len.Given as goal

-- the number of octets of the items before this one, and of the items left
abbrev pub invariant-items : goal.invariant-items
invariant-items g l =
    record { counted : l.len + length (concat (encodings_left l.items.left g.T.Form.parse (slice_reader_state l.items.reader))) ≡ length (concat (encodings_read l.fn.self.count g.T.Form.parse Der 0 l.fn.self.octets.now)); fits : l.len < 2 ^ 32 }

abbrev pub decreases-items : goal.decreases-items
decreases-items g l = length (encodings_left l.items.left g.T.Form.parse (slice_reader_state l.items.reader))
