use Rattle.std.proofs.Common.{◌≡◌, ◌+◌, length}
use Rattle.der_path.specs.Ocsp.{responders_from}
use Rattle.der_path.proofs.ocsp.responders_from.Given as goal

abbrev pub invariant-each : goal.invariant-each
invariant-each l = record {
  found : responders_from l.issuer l.fn.responder l.moment l.found.items l.at l.left ≡ responders_from l.issuer l.fn.responder l.moment l.fn.known.items 0 l.delegates;
  counted : l.at + length l.left ≡ length l.delegates;
}

abbrev pub decreases-each : goal.decreases-each
decreases-each l = length l.left
