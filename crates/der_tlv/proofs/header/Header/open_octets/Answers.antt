use Rattle.std.proofs.Common.{rules, ◌≡◌, sym, subst}
use Rattle.der_tlv.specs.HeaderLaws.{same_identifier-true}
use Rattle.der_tlv.specs.Reading.{Nested, OctetsRefused}
use Rattle.der_tlv.specs.Opening.{HeaderStands, TooLong}
use Rattle.der_tlv.proofs.header.Header.open_octets.Goals as goal
use Rattle.der_tlv.proofs.header.Header.open_octets.Goals.{In_ok-header}

stands : (g : _) (c : In_ok-header g) → HeaderStands (g.R.Source.state c.args.reader.now) c.in_ok-header.header
stands g c =
    let head = c.in_ok-header.ensures.head in
    record { ready = head.ready; parsed = head.parsed; taken = head.taken; after = search rules }

pub returns-in_err-end : goal.returns-in_err-end
returns-in_err-end g c =
    let header = c.in_ok-header.header in
    let same : header.tag ≡ c.args.tag = same_identifier-true header.tag c.args.tag (sym c.if-not-equals.ensures) in
    let refused = subst (λ s. OctetsRefused s (g.R.Source.state c.nest.new.self) header.length c.in_err-end.field-0.0.kind) c.in_ok-header.ensures.head.after c.in_err-end.ensures in
    let long : TooLong c.args.tag (g.R.Source.state c.args.reader.now) (g.R.Source.state c.nest.new.self) c.in_err-end.field-0.0.kind = record { header = header; head = stands g (goal.at.returns-in_err-end g c).In_ok-header; tag_is = same; refused = refused } in
    search rules

pub returns : goal.returns
returns g c =
    let header = c.in_ok-header.header in
    let same : header.tag ≡ c.args.tag = same_identifier-true header.tag c.args.tag (sym c.if-not-equals.ensures) in
    record {
      head = stands g (goal.at.returns g c).In_ok-header;
      tag_is = same;
      nested = subst (λ s. Nested s (g.R.Source.state c.nest.new.self) header.length c.in_ok-end.end) c.in_ok-header.ensures.head.after c.in_ok-end.ensures;
    }
