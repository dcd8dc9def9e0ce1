-- The signed octets of a request that was read.
use Rattle.der_verify.proofs.FirstFields.{first_read}
use Rattle.der_verify.proofs.signed.octets_of_certification_request_info.Goals as goal

pub returns-clause-read : goal.returns-clause-read
returns-clause-read c v a short =
    let fields = a.2 in
    first_read c.args.octets.now a.0 fields.front fields.others fields.first.0 _ c.first_field.result a.1 fields.octets_are fields.first.1 fields.first short c.first_field.ensures
