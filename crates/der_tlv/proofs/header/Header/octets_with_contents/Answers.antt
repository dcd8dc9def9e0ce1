use Rattle.std.proofs.Common.{rules, subst}
use Rattle.der_tlv.specs.Reading.{OctetsRead, OctetsRefused}
use Rattle.der_tlv.specs.Opening.{HeaderStands, ContentsMissing}
use Rattle.der_tlv.proofs.header.Header.octets_with_contents.Goals as goal
use Rattle.der_tlv.proofs.header.Header.octets_with_contents.Goals.{In_ok-header}

stands : (g : _) (c : In_ok-header g) → HeaderStands (g.R.Source.state c.args.reader.now) c.in_ok-header.header
stands g c =
    let head = c.in_ok-header.ensures.head in
    record { ready = head.ready; parsed = head.parsed; taken = head.taken; after = search rules }

pub returns-in_err-contents-clause-err : goal.returns-in_err-contents-clause-err
returns-in_err-contents-clause-err g c =
    let header = c.in_ok-header.header in
    let new = g.R.Source.state c.read_slice.new.self in
    let kind = c.in_err-contents.field-0.0.kind in
    let refused = subst (λ s. OctetsRefused s new header.length kind) c.in_ok-header.ensures.head.after c.in_err-contents.ensures.err in
    let missing : ContentsMissing (g.R.Source.state c.args.reader.now) new kind = record { header = header; head = stands g (goal.at.returns-in_err-contents-clause-err g c).In_ok-header; refused = refused } in
    search rules

pub returns-clause-ok : goal.returns-clause-ok
returns-clause-ok g c =
    let header = c.in_ok-header.header in
    let read = subst (λ s. OctetsRead s (g.R.Source.state c.read_slice.new.self) header.length c.in_ok-contents.contents.now) c.in_ok-header.ensures.head.after c.in_ok-contents.ensures.ok in
    record { head = stands g (goal.at.returns-clause-ok g c).In_ok-header; contents_are = read }
