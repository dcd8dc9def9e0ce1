use Rattle.std.proofs.Common.{◌⊎◌, List, length}
use Rattle.std.specs.Borrow.{Bor}
use Rattle.std.specs.Prelude.{ℕ, All, Contains}
use Rattle.der_path.specs.Finding.{IsLinkOf, IsRead}
use Rattle.der_path.proofs.link.links_of.Given as goal

-- those that are left are given, and each that is given is left or was read
abbrev pub invariant-each : goal.invariant-each
invariant-each l = record {
  left : All (Contains l.certificates) l.left;
  given : All (IsLinkOf l.certificates) l.links.items;
  read : (octets : Bor (List ℕ)) → Contains l.certificates octets → Contains l.left octets ⊎ IsRead l.links.items octets;
}

abbrev pub decreases-each : goal.decreases-each
decreases-each l = length l.left
