use Rattle.std.proofs.Common.{rules, ◌<◌, sym}
use Rattle.der_tlv.proofs.TagNumbers.{one_digit_more, number_read, number_invalid, number_missing}
use Rattle.der_tlv.proofs.tag.decoding.decode_number.Goals as goal

pub returns-in_err-octet-clause-head : goal.returns-in_err-octet-clause-head
returns-in_err-octet-clause-head g c =
    let fault = number_missing c.digits.invariant c.in_err-octet.ensures in
    search rules

pub returns-in-None-clause-head : goal.returns-in-None-clause-head
returns-in-None-clause-head g c =
    let fault = number_invalid c.digits.invariant c.in_ok-octet.ensures (sym c.in-None.ensures) c.error.ensures.failed in
    search rules

pub returns-then-octet-lt128-clause-head : goal.returns-then-octet-lt128-clause-head
returns-then-octet-lt128-clause-head g c = number_read c.digits.invariant c.in_ok-octet.ensures (sym c.in-Some.ensures) c.if-octet-lt128.true

pub digits-preserved : goal.digits-preserved
digits-preserved g c =
    let small : c.in_ok-octet.octet < 256 = search rules in
    one_digit_more c.digits.invariant c.in_ok-octet.ensures c.in-Some.ensures c.if-octet-lt128.false small
