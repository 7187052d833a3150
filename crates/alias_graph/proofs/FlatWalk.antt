-- A visit over slots.
use Rattle.std.proofs.Common.{◌≡◌, ℕ, List, [], ◌∷◌, Some, length, option_map, slice_get, refl, ap, sym, ◌∙◌, arith}
use Rattle.std.proofs.Common.{suc}
use Rattle.alias_base.specs.declared.ids.IdentifierId.{IdentifierId}
use Rattle.alias_graph.specs.declared.types.StoredLink.{StoredLink}
use Rattle.alias_graph.specs.declared.types.Origin.{Origin}
use Rattle.alias_graph.specs.declared.types.Entry.{Entry}
use Rattle.alias_graph.specs.declared.types.Node.{Node as StoredNode}
use Rattle.alias_graph.specs.Nodes.{Entries, slot_of}
use Rattle.alias_graph.specs.Links.{led_to, led_from, next, all_links}
use Rattle.alias_graph.specs.Flat.{node_of, nodes_of, edges_at, sources_at, stored_visited, all_stored_links}
use Rattle.alias_graph.proofs.Slots.{slot_found, found_node}
use Rattle.alias_graph.proofs.Shapes.{led_visited}
use Rattle.alias_graph.proofs.Flats.{visited_slot, node_at_of}

pub next_slot : (links : List StoredLink) (g : Entries StoredNode) (m : ℕ) (e : Entry) (i : ℕ) (n w : StoredNode)
    (index : ℕ) (origin : Origin)
    → slot_of g e.id ≡ Some i → Some n ≡ option_map (λ (p : IdentifierId × StoredNode). p.1) (slice_get g i) → w
    ≡ stored_visited index origin e n → next (nodes_of links g) m e ≡ led_to m e (node_of links w)
next_slot links g m e i n w index origin p h is =
    ap (led_from m e) (node_at_of links g e.id
    ∙ ap (option_map (node_of links)) (found_node g e.id i n (slot_found g e.id i n p (sym h))))
    ∙ sym (ap (λ z. led_to m e (node_of links z)) is ∙ ap (led_to m e) (visited_slot links index origin e n)
    ∙ led_visited m e e index origin (node_of links n))

edges_length : (links : List StoredLink) (ps : List ℕ) → length (edges_at links ps) ≡ length ps
edges_length links [] = refl
edges_length links (p ∷ ps) = ap suc (edges_length links ps)

sources_length : (links : List StoredLink) (ps : List ℕ) → length (sources_at links ps) ≡ length ps
sources_length links [] = refl
sources_length links (p ∷ ps) = ap suc (sources_length links ps)

pub links_kept : (links : List StoredLink) (g : Entries StoredNode) → all_links (nodes_of links g) ≡ all_stored_links g
links_kept links [] = refl
links_kept links (e ∷ g) =
    let a = edges_length links e.1.forward in
    let b = sources_length links e.1.created_from in
    let c = sources_length links e.1.aliases in
    let d = sources_length links e.1.maybe_aliases in
    let f = sources_length links e.1.captures in
    let rest = links_kept links g in
    omega arith
