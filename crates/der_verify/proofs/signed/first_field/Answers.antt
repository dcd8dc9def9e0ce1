-- The first field is found.
use Rattle.std.proofs.Common.{[], ◌++◌}
use Rattle.der_tlv.specs.HeaderOctets.{tlv}
use Rattle.der_verify.proofs.FirstFields.{outer_begins, inner_begins}
use Rattle.der_verify.proofs.signed.first_field.Goals as goal

pub returns-in-Err : goal.returns-in-Err
returns-in-Err c t u k others h = c.in-Err.ensures t (tlv u k ++ others) [] (outer_begins c.args.octets.now t u k others h)

pub returns-in-Ok-front : goal.returns-in-Ok-front
returns-in-Ok-front c t u k others h =
    let found = c.in-Ok.ensures t (tlv u k ++ others) [] (outer_begins c.args.octets.now t u k others h) in
    (c.in-Ok-front.ensures u k others (inner_begins c.args.octets.now t u k others h c.in-Ok.contents.now found.1)).0

pub returns-in-Err-front : goal.returns-in-Err-front
returns-in-Err-front c t u k others h =
    let found = c.in-Ok.ensures t (tlv u k ++ others) [] (outer_begins c.args.octets.now t u k others h) in
    c.in-Err-front.ensures u k others (inner_begins c.args.octets.now t u k others h c.in-Ok.contents.now found.1)
