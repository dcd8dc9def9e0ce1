use Rattle.std.proofs.Common.{◌≡◌, ◌⊎◌, length}
use Rattle.std.specs.Prelude.{All, Contains}
use Rattle.der_path.specs.declared.link.Link.{Link}
use Rattle.der_path.specs.Finding.{fits, MayStand, Puts, Stands}
use Rattle.der_path.proofs.chain.put_those.Given as goal

-- what was put so far, and each certificate is left or was put
abbrev pub invariant-each : goal.invariant-each
invariant-each l = record {
  left : All (Contains l.links) l.left;
  kept : Puts (Contains l.links) l.chain l.fn.stack.items l.stack.items;
  put : (x : Link) → Contains l.links x → Contains l.left x ⊎ (fits x.subject_key l.chain.first.authority_key ≡ l.fitting → MayStand x l.chain → Stands l.stack.items x l.chain);
}

abbrev pub decreases-each : goal.decreases-each
decreases-each l = length l.left
