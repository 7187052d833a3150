-- Links at positions of a node's lists.
use Rattle.std.proofs.Common.{◌≡◌, ℕ, ◌<◌, true, false, cond, List, [], ◌∷◌, Some, None, map, option_map, slice_get}
use Rattle.std.proofs.Common.{slice_index_or, length, ◌≤◌, refl, ap, sym, ◌∙◌, subst, arith, suc, zero}
use Rattle.alias_base.specs.declared.ids.IdentifierId.{IdentifierId}
use Rattle.alias_graph.specs.declared.types.StoredLink.{StoredLink}
use Rattle.alias_graph.specs.declared.types.LinkList.{LinkList}
use Rattle.alias_graph.specs.declared.types.Node.{Node as StoredNode}
use Rattle.alias_graph.specs.Nodes.{Entries, node_at, same_id}
use Rattle.alias_graph.specs.Lists.{forward_link, backward_link, links_in, link_in}
use Rattle.alias_graph.specs.Flat.{AllBelow, AllFit, NodeFits, link_at, edge_of, source_of, edges_at, sources_at}
use Rattle.alias_graph.specs.Flat.{node_of, nodes_of}
use Rattle.alias_graph.proofs.Flats.{node_at_of}

pub below_at : (n : ℕ) (ps : List ℕ) (i : ℕ) → AllBelow n ps → i < length ps → slice_index_or ps i 0 < n
below_at n [] i h lt = absurd (omega arith)
below_at n (p ∷ ps) zero h lt = h.0
below_at n (p ∷ ps) (suc i) h lt = below_at n ps i h.1 (omega arith)

pub edge_there : (links : List StoredLink) (ps : List ℕ) (i : ℕ) → i < length ps
    → slice_get (map forward_link (edges_at links ps)) i
    ≡ Some (forward_link (edge_of (link_at links (slice_index_or ps i 0))))
edge_there links [] i lt = absurd (omega arith)
edge_there links (p ∷ ps) zero lt = refl
edge_there links (p ∷ ps) (suc i) lt = edge_there links ps i (omega arith)

pub edge_missing : (links : List StoredLink) (ps : List ℕ) (i : ℕ) → length ps ≤ i
    → slice_get (map forward_link (edges_at links ps)) i ≡ None
edge_missing links [] i le = refl
edge_missing links (p ∷ ps) zero le = absurd (omega arith)
edge_missing links (p ∷ ps) (suc i) le = edge_missing links ps i (omega arith)

pub source_there : (links : List StoredLink) (ps : List ℕ) (i : ℕ) → i < length ps
    → slice_get (map backward_link (sources_at links ps)) i
    ≡ Some (backward_link (source_of (link_at links (slice_index_or ps i 0))))
source_there links [] i lt = absurd (omega arith)
source_there links (p ∷ ps) zero lt = refl
source_there links (p ∷ ps) (suc i) lt = source_there links ps i (omega arith)

pub source_missing : (links : List StoredLink) (ps : List ℕ) (i : ℕ) → length ps ≤ i
    → slice_get (map backward_link (sources_at links ps)) i ≡ None
source_missing links [] i le = refl
source_missing links (p ∷ ps) zero le = absurd (omega arith)
source_missing links (p ∷ ps) (suc i) le = source_missing links ps i (omega arith)

pub fit_node : (n : ℕ) (g : Entries StoredNode) (id : IdentifierId) (k : StoredNode) → AllFit n g → Some k
    ≡ node_at g id → NodeFits n k
fit_node n [] id k h is = absurd (cc)
fit_node n (p ∷ g) id k h is = elim (same_id id p.0) as (λ b. Some k ≡ cond b (Some p.1) (node_at g id) → NodeFits n k) [
  | true ↦ λ e. let same : p.1 ≡ k = cc in subst (NodeFits n) same h.0
  | false ↦ λ e. fit_node n g id k h.1 e
] is

pub no_link_at : (links : List StoredLink) (g : Entries StoredNode) (id : IdentifierId) (list : LinkList) (i : ℕ) → None
    ≡ node_at g id → None ≡ link_in (node_at (nodes_of links g) id) list i
no_link_at links g id list i h = ap (λ o. link_in (option_map (node_of links) o) list i) h
    ∙ ap (λ o. link_in o list i) (sym (node_at_of links g id))

pub link_at_node : (links : List StoredLink) (g : Entries StoredNode) (id : IdentifierId) (list : LinkList) (i : ℕ)
    (k : StoredNode) → Some k ≡ node_at g id → slice_get (links_in list (node_of links k)) i
    ≡ link_in (node_at (nodes_of links g) id) list i
link_at_node links g id list i k h = ap (λ o. link_in (option_map (node_of links) o) list i) h
    ∙ ap (λ o. link_in o list i) (sym (node_at_of links g id))
