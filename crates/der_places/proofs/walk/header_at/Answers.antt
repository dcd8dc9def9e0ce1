use Rattle.der_places.proofs.Headers.{found, not_refused}
use Rattle.der_places.proofs.walk.header_at.Goals as goal

pub returns-in-Ok-decode : goal.returns-in-Ok-decode
returns-in-Ok-decode c = found c.args.octets.now c.args.offset _ _ _ _ _ c.in-Ok.ensures.state c.new-2.ensures c.in-Ok-read_slice.ensures.ok.after c.in-Ok-decode.ensures.head.parsed

pub returns-in-Err : goal.returns-in-Err
returns-in-Err c = not_refused c.args.octets.now c.args.offset _ _ _ _ c.in-Ok.ensures.state c.new-2.ensures c.in-Ok-read_slice.ensures.ok.after c.in-Err.ensures.head.fault_is
