use Rattle.std.proofs.Common.{◌≡◌, ◌≤◌, ◌+◌, ◌==◌, not, length, take}
use Rattle.std.specs.List.{suffix_len}
use Rattle.der_path.proofs.mailbox.start_of_host.Given as goal

abbrev pub invariant-each : goal.invariant-each
invariant-each l = (l.start ≤ length l.octets) × (l.start + suffix_len (λ x. not (x == 64)) l.octets ≡ length l.octets + suffix_len (λ x. not (x == 64)) (take l.start l.octets))

abbrev pub decreases-each : goal.decreases-each
decreases-each l = l.start
