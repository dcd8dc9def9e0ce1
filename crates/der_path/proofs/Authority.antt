-- One depth after another, from the last upwards.
use Rattle.std.proofs.Common.{◌≡◌, ℕ, zero, suc, ◌-◌, ◌<◌, List, ap, arith}
use Rattle.der_path.specs.declared.graph.Edge.{Edge}
use Rattle.der_path.specs.declared.policy.Policy.{Policy}
use Rattle.der_path.specs.Graphs.{add_once, authority, parents_at, roots_at}

pub authority_step : (k : ℕ) (edges : List Edge) (alive found : List Policy) → 0 < k → authority k edges alive found ≡ authority (k - 1) edges (parents_at edges k alive) (add_once found (roots_at edges k alive))
authority_step zero edges alive found some = absurd (omega arith)
authority_step (suc k) edges alive found some =
    let e : k ≡ suc k - 1 = omega arith in
    ap (λ n. authority n edges (parents_at edges (suc k) alive) (add_once found (roots_at edges (suc k) alive))) e
