-- The valid_policy_graph (RFC 9618 section 5, in place of the tree of RFC 5280 section 6.1), without qualifiers.
use Rattle.std.specs.Prelude.{ℕ, zero, suc, ◌==◌, List, [], ◌∷◌, ◌++◌, length, map, filter, Bool, true, false, not, ◌&&◌, ◌||◌, if◌then◌else◌, Option, Some, None}
use Rattle.std.specs.List.{list_any}
use Rattle.der_path.specs.declared.policy.Policy.{Policy}
use Rattle.der_path.specs.declared.policy.Mapping.{Mapping}
use Rattle.der_path.specs.declared.graph.Expected.{Expected}
use Rattle.der_path.specs.declared.graph.Edge.{Edge}
use Rattle.der_path.specs.declared.graph.Graph.{Graph}
use Rattle.der_path.specs.Policies.{has_any, has_policy, is_any, same_policy}

-- the nodes whose expected_policy_set has a policy
abbrev pub expects : Policy → Expected → Bool
expects p e = same_policy e.policy p

abbrev pub expecting : Policy → List Expected → List Policy
expecting p expected = map (λ (e : Expected). e.node) (filter (expects p) expected)

-- 6.1.3 (d)(1)(i), or else (d)(1)(ii): the node of anyPolicy
abbrev pub or_any : List Policy → List Policy → List Policy
or_any nodes [] = filter is_any nodes
or_any nodes (x ∷ xs) = x ∷ xs

abbrev pub parents : List Policy → List Expected → Policy → List Policy
parents nodes expected p = or_any nodes (expecting p expected)

abbrev pub is_expected : Policy → List Expected → Bool
is_expected p expected = list_any (expects p) expected

-- a policy becomes a node if it has a parent, once
abbrev pub is_new : List Policy → List Expected → Bool → List Policy → Policy → Bool
is_new nodes expected may_be_any found p = (may_be_any || not (is_any p)) && (not (has_policy p found) && (is_expected p expected || has_any nodes))

abbrev pub add_nodes : List Policy → List Expected → Bool → List Policy → List Policy → List Policy
add_nodes nodes expected may_be_any found [] = found
add_nodes nodes expected may_be_any found (p ∷ ps) = add_nodes nodes expected may_be_any (if is_new nodes expected may_be_any found p then found ++ p ∷ [] else found) ps

-- the policies of all expected_policy_sets
abbrev pub targets : List Expected → List Policy
targets expected = map (λ (e : Expected). e.policy) expected

abbrev pub edges_of : List Policy → List Expected → ℕ → Policy → List Edge
edges_of nodes expected depth child = map (λ (p : Policy). record { depth = depth; parent = p; child = child }) (parents nodes expected child)

abbrev pub add_edges : List Policy → List Expected → ℕ → List Edge → List Policy → List Edge
add_edges nodes expected depth edges [] = edges
add_edges nodes expected depth edges (q ∷ qs) = add_edges nodes expected depth (edges ++ edges_of nodes expected depth q) qs

-- each new node expects its own policy
abbrev pub expected_alone : List Policy → List Expected
expected_alone nodes = map (λ (p : Policy). record { node = p; policy = p }) nodes

abbrev pub is_issuer : List Mapping → Policy → Bool
is_issuer mappings p = list_any (λ (m : Mapping). same_policy m.issuer p) mappings

abbrev pub first_any : List Policy → Option Policy
first_any [] = None
first_any (p ∷ ps) = if is_any p then Some p else first_any ps

-- 6.1.4 (b)(1): nodes below anyPolicy
abbrev pub add_issuers : List Policy → List Mapping → List Policy
add_issuers nodes [] = nodes
add_issuers nodes (m ∷ ms) = add_issuers (if not (has_policy m.issuer nodes) then nodes ++ m.issuer ∷ [] else nodes) ms

abbrev pub edges_to_issuers : List Policy → List Mapping → ℕ → Policy → List Edge
edges_to_issuers nodes mappings depth any = map (λ (m : Mapping). record { depth = depth; parent = any; child = m.issuer }) (filter (λ (m : Mapping). not (has_policy m.issuer nodes)) mappings)

abbrev pub without_mapped : List Expected → List Mapping → List Expected
without_mapped expected mappings = filter (λ (e : Expected). not (is_issuer mappings e.node)) expected

abbrev pub expected_mapped : List Policy → List Mapping → List Expected
expected_mapped nodes mappings = map (λ (m : Mapping). record { node = m.issuer; policy = m.subject }) (filter (λ (m : Mapping). has_policy m.issuer nodes) mappings)

-- 6.1.4 (b)(2)
abbrev pub without_issuers : List Policy → List Mapping → List Policy
without_issuers nodes mappings = filter (λ (p : Policy). not (is_issuer mappings p)) nodes

-- 6.1.5 (g): of the nodes of a depth that are left, those whose parent is anyPolicy, and the parents
abbrev pub is_left : ℕ → List Policy → Edge → Bool
is_left depth alive e = e.depth == depth && has_policy e.child alive

abbrev pub is_root : ℕ → List Policy → Edge → Bool
is_root depth alive e = is_left depth alive e && (is_any e.parent && not (is_any e.child))

abbrev pub roots_at : List Edge → ℕ → List Policy → List Policy
roots_at edges depth alive = map (λ (e : Edge). e.child) (filter (is_root depth alive) edges)

abbrev pub parents_at : List Edge → ℕ → List Policy → List Policy
parents_at edges depth alive = map (λ (e : Edge). e.parent) (filter (is_left depth alive) edges)

abbrev pub add_once : List Policy → List Policy → List Policy
add_once found [] = found
add_once found (p ∷ ps) = add_once (if not (has_policy p found) then found ++ p ∷ [] else found) ps

abbrev pub authority : ℕ → List Edge → List Policy → List Policy → List Policy
authority zero edges alive found = found
authority (suc k) edges alive found = authority k edges (parents_at edges (suc k) alive) (add_once found (roots_at edges (suc k) alive))

abbrev pub common : List Policy → List Policy → List Policy
common found wanted = filter (λ (p : Policy). has_policy p wanted) found

-- user_constrained_policy_set, from authority_constrained_policy_set
abbrev pub user_constrained : List Policy → List Policy → List Policy
user_constrained found wanted = if has_any wanted then found else (if has_any found then wanted else common found wanted)

-- the nodes of the last depth, the policies in their expected_policy_sets, and the parents of all nodes. The graph is NULL if the last depth has no nodes; nodes above it without children are left, since only 6.1.5 (g) reads them.
pub record SeenGraph : Type 0 where
  pub nodes : List Policy
  pub expected : List Expected
  pub edges : List Edge

abbrev pub seen_graph : Graph → SeenGraph
seen_graph g = record { nodes = g.nodes.items; expected = g.expected.items; edges = g.edges.items }

-- 6.1.2 (a)
abbrev pub first_graph : Policy → SeenGraph
first_graph any = record { nodes = any ∷ []; expected = record { node = any; policy = any } ∷ []; edges = [] }

-- 6.1.3 (e)
abbrev pub null_graph : SeenGraph
null_graph = record { nodes = []; expected = []; edges = [] }

abbrev pub is_null : SeenGraph → Bool
is_null g = length g.nodes == 0

-- 6.1.3 (d)(1), and (d)(2) if anyPolicy is processed
abbrev pub new_nodes : SeenGraph → List Policy → Bool → List Policy
new_nodes g policies may_be_any =
    if may_be_any && has_any policies
    then add_nodes g.nodes g.expected true (add_nodes g.nodes g.expected false [] policies) (targets g.expected)
    else add_nodes g.nodes g.expected false [] policies

abbrev pub after_nodes : List Policy → ℕ → SeenGraph → SeenGraph
after_nodes nodes depth g = record { nodes = nodes; expected = expected_alone nodes; edges = add_edges g.nodes g.expected depth g.edges nodes }

abbrev pub process : List Policy → Bool → ℕ → SeenGraph → SeenGraph
process policies may_be_any depth g = after_nodes (new_nodes g policies may_be_any) depth g

-- 6.1.4 (b)(1)
abbrev pub with_issuers_below : Option Policy → List Mapping → ℕ → SeenGraph → SeenGraph
with_issuers_below None mappings depth g = g
with_issuers_below (Some any) mappings depth g = record { nodes = add_issuers g.nodes mappings; expected = g.expected; edges = g.edges ++ edges_to_issuers g.nodes mappings depth any }

abbrev pub with_issuers : List Mapping → ℕ → SeenGraph → SeenGraph
with_issuers mappings depth g = with_issuers_below (first_any g.nodes) mappings depth g

abbrev pub remapped : List Mapping → SeenGraph → SeenGraph
remapped mappings g = record { nodes = g.nodes; expected = without_mapped g.expected mappings ++ expected_mapped g.nodes mappings; edges = g.edges }

-- 6.1.4 (b)(2)
abbrev pub without_graph : List Mapping → SeenGraph → SeenGraph
without_graph mappings g = record { nodes = without_issuers g.nodes mappings; expected = without_mapped g.expected mappings; edges = g.edges }

abbrev pub process_mappings : Bool → List Mapping → ℕ → SeenGraph → SeenGraph
process_mappings is_mapping mappings depth g = if is_mapping then remapped mappings (with_issuers mappings depth g) else without_graph mappings g

-- 6.1.5 (g): authority_constrained_policy_set
abbrev pub authority_of : ℕ → SeenGraph → List Policy
authority_of depth g = authority depth g.edges g.nodes (filter is_any g.nodes)
