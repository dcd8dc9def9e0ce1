use Rattle.std.proofs.Common.{rules, ◌<◌, ◌∙◌, sym, ap, arith}
use Rattle.der_tlv.proofs.ShortReads.{short_tag_read}
use Rattle.der_tlv.proofs.TagHeads.{NumberRead, number_in_first, number_following, first_missing, number_refused, tag_read, tag_refused}
use Rattle.der_tlv.proofs.tag.Tag.decode.Goals as goal
use Rattle.der_tlv.proofs.tag.Tag.decode.Goals.{then-low-lt31, else-low-lt31+in_ok-number}

pub returns-in_err-first-clause-head : goal.returns-in_err-first-clause-head
returns-in_err-first-clause-head g c =
    let fault = first_missing c.in_err-first.ensures in
    search rules

pub returns-in_err-number-clause-head : goal.returns-in_err-number-clause-head
returns-in_err-number-clause-head g c =
    let fault = number_refused c.in_ok-first.ensures (omega arith) c.in_err-number.ensures.head in
    search rules

pub returns-in-Ok-clause-head : goal.returns-in-Ok-clause-head
returns-in-Ok-clause-head g c =
    let small : c.in_ok-first.first < 256 = search rules in
    let read : NumberRead (g.R.Source.state c.args.reader.now) (g.R.Source.state c.if-low-lt31.reader) c.in_ok-first.first c.if-low-lt31.number =
    elim c.if-low-lt31.branch [
      | then-low-lt31 w ↦ number_in_first c.in_ok-first.ensures small w.if-low-lt31.true (omega arith) (ap g.R.Source.state w.reader-is)
      | else-low-lt31+in_ok-number w ↦ number_following c.in_ok-first.ensures small w.if-low-lt31.false w.in_ok-number.ensures.head w.in_ok-number.ensures.long w.number-is (ap g.R.Source.state w.reader-is)
    ] in
    tag_read read (sym c.in-Ok.ensures)

pub returns-in-Err-clause-head : goal.returns-in-Err-clause-head
returns-in-Err-clause-head g c =
    let small : c.in_ok-first.first < 256 = search rules in
    let read : NumberRead (g.R.Source.state c.args.reader.now) (g.R.Source.state c.if-low-lt31.reader) c.in_ok-first.first c.if-low-lt31.number =
    elim c.if-low-lt31.branch [
      | then-low-lt31 w ↦ number_in_first c.in_ok-first.ensures small w.if-low-lt31.true (omega arith) (ap g.R.Source.state w.reader-is)
      | else-low-lt31+in_ok-number w ↦ number_following c.in_ok-first.ensures small w.if-low-lt31.false w.in_ok-number.ensures.head w.in_ok-number.ensures.long w.number-is (ap g.R.Source.state w.reader-is)
    ] in
    let fault = tag_refused read (sym c.in-Err.ensures) c.error.ensures.failed in
    search rules

pub returns-in-Some-clause-head : goal.returns-in-Some-clause-head
returns-in-Some-clause-head g c =
    let small : c.in_ok-first.first < 256 = search rules in
    short_tag_read c.in_ok-first.ensures small (sym c.short_tag.ensures ∙ c.in-Some.is)
