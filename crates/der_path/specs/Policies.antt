-- Policies, by the contents octets of their identifiers.
use Rattle.std.specs.Prelude.{nat_eq, List, [], ◌∷◌, Bool}
use Rattle.std.specs.List.{list_any}
use Rattle.std.specs.Cmp.Lexicographic.{pointwise}
use Rattle.der_path.specs.declared.policy.Policy.{Policy}

-- policies with the same identifier
abbrev pub same_policy : Policy → Policy → Bool
same_policy p q = pointwise nat_eq p.octets.now q.octets.now

-- anyPolicy, 2.5.29.32.0
abbrev pub is_any : Policy → Bool
is_any p = pointwise nat_eq p.octets.now (85 ∷ 29 ∷ 32 ∷ 0 ∷ [])

abbrev pub has_policy : Policy → List Policy → Bool
has_policy p policies = list_any (same_policy p) policies

abbrev pub has_any : List Policy → Bool
has_any policies = list_any is_any policies
