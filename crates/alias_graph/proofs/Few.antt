-- The lists of nodes have each link at most twice.
use Rattle.std.proofs.Common.{◌≡◌, ℕ, ◌+◌, ◌≤◌, true, false, cond, List, [], ◌∷◌, ◌++◌, length, if◌then◌else◌, ap, sym}
use Rattle.std.proofs.Common.{◌∙◌, subst, arith, length-append}
use Rattle.alias_base.specs.declared.ids.IdentifierId.{IdentifierId}
use Rattle.alias_graph.specs.declared.types.EdgeKind.{EdgeKind}
use Rattle.alias_graph.specs.declared.types.EdgeKind.TheVariants.{Capture, Alias, MaybeAlias}
use Rattle.alias_graph.specs.declared.types.NodeValue.{NodeValue}
use Rattle.alias_graph.specs.declared.types.NodeValue.TheVariants.{Object}
use Rattle.alias_graph.specs.declared.types.Entry.{Entry}
use Rattle.alias_graph.specs.declared.types.Origin.{Origin}
use Rattle.alias_graph.specs.declared.types.StoredLink.{StoredLink}
use Rattle.alias_graph.specs.declared.types.Node.{Node as StoredNode}
use Rattle.alias_graph.specs.Nodes.{Entries, with_node, same_id}
use Rattle.alias_graph.specs.Graph.{changed, has_source}
use Rattle.alias_graph.specs.Links.{all_links}
use Rattle.alias_graph.specs.NodeMarks.{marked}
use Rattle.alias_graph.specs.Flat.{AllFit, LinksFit, IsCreated, link_at, sources_at, nodes_of, noted_slot, stored_links}
use Rattle.alias_graph.specs.Flat.{all_stored_links, stored_fresh, with_forward_slot, with_created_slot}
use Rattle.alias_graph.specs.Flat.{with_source_slot}
use Rattle.alias_graph.proofs.Flats.{fits_after_link, with_node_fits, fit_fresh}
use Rattle.alias_graph.proofs.FlatWalk.{links_kept}
use Rattle.alias_graph.proofs.Shapes.{marked_links}

changed_links : (F : StoredNode → StoredNode) → ((k : StoredNode) → stored_links (F k) ≤ stored_links k + 1)
    → (g : Entries StoredNode) (id : IdentifierId) → all_stored_links (changed g id F) ≤ all_stored_links g + 1
changed_links F f [] id = omega arith
changed_links F f (p ∷ g) id =
    let here = f p.1 in
    let rest = changed_links F f g id in
    elim (same_id id p.0) as (λ b. all_stored_links (cond b ((p.0, F p.1) ∷ g) (p ∷ changed g id F)) ≤ stored_links p.1
    + all_stored_links g + 1) [ true ↦ omega arith | false ↦ omega arith ]

forward_links : (p : ℕ) (k : StoredNode) → stored_links (with_forward_slot p k) ≤ stored_links k + 1
forward_links p k = let n = length-append k.forward (p ∷ []) in omega arith

noted_length : (links : List StoredLink) (p : ℕ) (ps : List ℕ) → length (noted_slot links p ps) ≤ length ps + 1
noted_length links p ps =
    let n = length-append ps (p ∷ []) in
    elim (has_source (link_at links p).from (sources_at links ps)) as
    (λ b. length (cond b ps (ps ++ p ∷ [])) ≤ length ps + 1) [ true ↦ omega arith | false ↦ omega arith ]

created_links : (links : List StoredLink) (p : ℕ) (k : StoredNode) → stored_links (with_created_slot links p k)
    ≤ stored_links k + 1
created_links links p k = let n = noted_length links p k.created_from in omega arith

source_links : (kind : EdgeKind) (links : List StoredLink) (p : ℕ) (k : StoredNode)
    → stored_links (with_source_slot kind links p k) ≤ stored_links k + 1
source_links Capture links p k = let n = noted_length links p k.captures in omega arith
source_links Alias links p k = let n = noted_length links p k.aliases in omega arith
source_links MaybeAlias links p k = let n = noted_length links p k.maybe_aliases in omega arith

made_links : (g : Entries StoredNode) (id : IdentifierId) (v : NodeValue)
    → all_stored_links (with_node g id (stored_fresh v)) ≤ all_stored_links g
made_links [] id v = omega arith
made_links (p ∷ g) id v =
    let rest = made_links g id v in
    elim (same_id id p.0) as (λ b. all_stored_links
    (if b then (p.0, stored_fresh v) ∷ g else p ∷ with_node g id (stored_fresh v)) ≤ stored_links p.1
    + all_stored_links g) [ true ↦ omega arith | false ↦ omega arith ]

-- a node without links
pub make_fits : (links : List StoredLink) (g new : Entries StoredNode) (id : IdentifierId) (k : StoredNode)
    (v : NodeValue) → LinksFit links g → k ≡ stored_fresh v → new ≡ with_node g id k → LinksFit links new
make_fits links g new id k v h fresh is =
    subst (LinksFit links) (sym (is ∙ ap (with_node g id) fresh)) (
    let few = made_links g id v in
    let twice = h.twice in
    record {
      within = with_node_fits (length links) g id (stored_fresh v) (fit_fresh (length links) v) h.within;
      twice = omega arith;
    })

-- a link that no node has
pub link_fits : (links more : List StoredLink) (g new : Entries StoredNode) (l : StoredLink) → LinksFit links g → more
    ≡ links ++ l ∷ [] → new ≡ g → LinksFit more new
link_fits links more g new l h is same =
    subst (LinksFit more) (sym same) (
    subst (λ z. LinksFit z g) (sym is) (
    let n = length-append links (l ∷ []) in
    let twice = h.twice in
    record { within = fits_after_link links l g h.within; twice = omega arith }))

module _ (links more : List StoredLink) (g new : Entries StoredNode) (l : StoredLink) (h : LinksFit links g)
    (is : more ≡ links ++ l ∷ []) (fit : AllFit (length more) new) where
  -- a link between two nodes
  pub join_fits : (kind : EdgeKind) (all : List StoredLink) (from into : IdentifierId) (p : ℕ) → new
      ≡ changed (changed g from (with_forward_slot p)) into (with_source_slot kind all p) → LinksFit more new
  join_fits kind all from into p at =
      let one = changed_links (with_forward_slot p) (forward_links p) g from in
      let two = changed_links (with_source_slot kind all p) (source_links kind all p)
      (changed g from (with_forward_slot p)) into in
      let n = ap length is ∙ length-append links (l ∷ []) in
      let same = ap all_stored_links at in
      let twice = h.twice in
      record { within = fit; twice = omega arith }

  -- a link that makes its target
  pub created_fit : (from into : IdentifierId) (p : ℕ) → IsCreated g from into p new → LinksFit more new
  created_fit from into p at =
      let made = made_links g into Object in
      let one = changed_links (with_forward_slot p) (forward_links p) (with_node g into (stored_fresh Object)) from in
      let two = changed_links (with_created_slot links p) (created_links links p)
      (changed (with_node g into (stored_fresh Object)) from (with_forward_slot p)) into in
      let n = ap length is ∙ length-append links (l ∷ []) in
      let same = ap all_stored_links (at links) in
      let twice = h.twice in
      record { within = fit; twice = omega arith }

-- marks change no link
pub marked_fit : (links : List StoredLink) (g₀ g : Entries StoredNode) (index : ℕ) (origin : Origin) (done : List Entry)
    → LinksFit links g₀ → AllFit (length links) g → nodes_of links g ≡ marked index origin (nodes_of links g₀) done
    → LinksFit links g
marked_fit links g₀ g index origin done h fit is =
    let old = links_kept links g₀ in
    let new = links_kept links g in
    let same = ap all_links is ∙ marked_links index origin (nodes_of links g₀) done in
    let twice = h.twice in
    record { within = fit; twice = omega arith }
