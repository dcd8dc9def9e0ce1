use Rattle.std.proofs.Common.{◌≡◌, ◌+◌, ◌⊎◌, length, drop}
use Rattle.std.specs.Prelude.{Contains}
use Rattle.der_path.specs.declared.keys.Anchor.{Anchor}
use Rattle.der_path.specs.Finding.{NamesMatch, Refuses, Tries}
use Rattle.der_path.proofs.attempt.try_anchors.Given as goal

-- what became of the chain so far, and each anchor is left, has another name or refuses it
abbrev pub invariant-each : goal.invariant-each
invariant-each l = record {
  counted : l.at + length l.left ≡ length l.anchors;
  place : l.left ≡ drop l.at l.anchors;
  tried : Tries l.anchors l.chain.octets.items l.inputs l.tried;
  refused : l.from ≡ 0 → (a : Anchor) → Contains l.anchors a → Contains l.left a ⊎ (NamesMatch a.name l.chain.first.issuer → Refuses a l.chain.octets.items l.inputs);
}

abbrev pub decreases-each : goal.decreases-each
decreases-each l = length l.left
