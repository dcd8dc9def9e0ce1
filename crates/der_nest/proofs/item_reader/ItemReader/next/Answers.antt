use Rattle.std.proofs.Common.{◌≡◌, suc, ◌-◌, ap, arith, ◌∙◌, length}
use Rattle.der_tlv.specs.Views.{slice_reader_state}
use Rattle.der_nest.proofs.ReReadItems.{none_read, next_item, no_item}
use Rattle.der_nest.proofs.item_reader.ItemReader.next.Goals as goal

pub invariant_of-self : goal.invariant_of-self
invariant_of-self g c =
    let self = c.args.self.now in
    let z = c.if-self-eq0.false in
    let one : self.left ≡ suc (self.left - 1) = omega arith in
    let told = c.in-Ok.ensures in
    let next = next_item g.T.Form self.left (self.left - 1) (slice_reader_state self.reader) (slice_reader_state c.decode.new.reader) one self.counted c.in-Ok.item told in
    record { ready = λ _. ap (λ s. s.failed) told.after ∙ told.ready; counted = next.2 }

pub invariant_of-self-in-Err : goal.invariant_of-self-in-Err
invariant_of-self-in-Err g c =
    let new = slice_reader_state c.decode.new.reader in
    record { ready = λ h. absurd (omega arith); counted = ap length (none_read g.T.Form.parse new.rules new.position _) }

pub returns-in-Ok : goal.returns-in-Ok
returns-in-Ok g c =
    let self = c.args.self.now in
    let z = c.if-self-eq0.false in
    let one : self.left ≡ suc (self.left - 1) = omega arith in
    let next = next_item g.T.Form self.left (self.left - 1) (slice_reader_state self.reader) (slice_reader_state c.decode.new.reader) one self.counted c.in-Ok.item c.in-Ok.ensures in
    (next.0, next.1)

pub returns-in-Err : goal.returns-in-Err
returns-in-Err g c =
    let self = c.args.self.now in
    let new = slice_reader_state c.decode.new.reader in
    let z = c.if-self-eq0.false in
    let one : self.left ≡ suc (self.left - 1) = omega arith in
    let counted = self.counted in
    let why = no_item g.T.Form self.left (self.left - 1) (slice_reader_state self.reader) new one self.counted c.in-Err.error.kind (self.ready (omega arith)) c.in-Err.ensures in
    (why.0, why.1, omega arith, none_read g.T.Form.parse new.rules new.position _)
