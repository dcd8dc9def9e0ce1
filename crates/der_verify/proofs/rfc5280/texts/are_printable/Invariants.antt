use Rattle.std.proofs.Common.{◌≡◌, length}
use Rattle.std.specs.List.{list_all}
use Rattle.der_verify.specs.Texts.{is_printable}
use Rattle.der_verify.proofs.rfc5280.texts.are_printable.Given as goal

abbrev pub invariant-each : goal.invariant-each
invariant-each l = list_all is_printable l.left ≡ list_all is_printable l.text

abbrev pub decreases-each : goal.decreases-each
decreases-each l = length l.left
