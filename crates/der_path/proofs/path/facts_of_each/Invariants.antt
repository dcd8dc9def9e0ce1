use Rattle.std.proofs.Common.{◌≡◌, ◌+◌, List, length}
use Rattle.der_pkix.specs.declared.certificate.extension.Extension.{Extension}
use Rattle.der_path.specs.Paths.{EachListed}
use Rattle.der_path.proofs.Reading.{SoFar}
use Rattle.der_path.proofs.path.facts_of_each.Given as goal

abbrev pub invariant-each : goal.invariant-each
invariant-each l = record {
  read : (lists : List (List Extension)) → EachListed l.chain lists → SoFar l.chain lists l.found.items l.at l.left;
  counted : l.at + length l.left ≡ length l.chain;
}

abbrev pub decreases-each : goal.decreases-each
decreases-each l = length l.left
