-- Changes of stored nodes are changes of nodes.
use Rattle.std.proofs.Common.{◌≡◌, ℕ, ◌+◌, ◌<◌, Bool, true, false, cond, List, [], ◌∷◌, ◌++◌, Option, Some, None}
use Rattle.std.proofs.Common.{is_some, length, option_map, slice_get, position, if◌then◌else◌, refl, ap, sym, ◌∙◌}
use Rattle.std.proofs.Common.{subst, arith, suc, zero, length-append}
use Rattle.std.specs.Map.{keys_of}
use Rattle.indexmap.specs.IndexMap.{set_value_at}
use Rattle.alias_base.specs.declared.ids.IdentifierId.{IdentifierId}
use Rattle.alias_graph.specs.declared.types.EdgeKind.{EdgeKind}
use Rattle.alias_graph.specs.declared.types.EdgeKind.TheVariants.{Capture, Alias, MaybeAlias}
use Rattle.alias_graph.specs.declared.types.NodeValue.{NodeValue}
use Rattle.alias_graph.specs.declared.types.StoredLink.{StoredLink}
use Rattle.alias_graph.specs.declared.types.Origin.{Origin}
use Rattle.alias_graph.specs.declared.types.Entry.{Entry}
use Rattle.alias_graph.specs.declared.types.Node.{Node as StoredNode}
use Rattle.alias_graph.specs.Nodes.{Node, Entries, node_at, has_node, slot_of, with_node, same_id}
use Rattle.alias_graph.specs.Graph.{changed, with_edge, with_created_from, with_source, noted, has_source}
use Rattle.alias_graph.specs.NodeMarks.{visited, info, marked_by, later, first_reason}
use Rattle.alias_graph.specs.Flat.{link_at, edge_of, source_of, edges_at, sources_at, node_of, nodes_of, AllBelow}
use Rattle.alias_graph.specs.Flat.{NodeFits, AllFit, noted_slot, stored_visited, stored_marked_by, stored_fresh}
use Rattle.alias_graph.specs.Flat.{with_forward_slot, with_created_slot, with_source_slot}
use Rattle.alias_graph.proofs.Slots.{Found, slot_found}

-- a change of the stored node is a change of the node
pub nodes_changed : (links : List StoredLink) (F : StoredNode → StoredNode) (f : Node → Node)
    → ((n : StoredNode) → node_of links (F n) ≡ f (node_of links n)) → (g : Entries StoredNode) (id : IdentifierId)
    → nodes_of links (changed g id F) ≡ changed (nodes_of links g) id f
nodes_changed links F f h [] id = refl
nodes_changed links F f h (p ∷ g) id = elim (same_id id p.0) as
    (λ b. nodes_of links (cond b ((p.0, F p.1) ∷ g) (p ∷ changed g id F))
    ≡ cond b ((p.0, f (node_of links p.1)) ∷ nodes_of links g)
    ((p.0, node_of links p.1) ∷ changed (nodes_of links g) id f)) [
      | true ↦ ap (λ n. (p.0, n) ∷ nodes_of links g) (h p.1)
      | false ↦ ap (λ r. (p.0, node_of links p.1) ∷ r) (nodes_changed links F f h g id)
    ]

edges_push : (links : List StoredLink) (ps : List ℕ) (p : ℕ) → edges_at links (ps ++ p ∷ []) ≡ edges_at links ps
    ++ edge_of (link_at links p) ∷ []
edges_push links [] p = refl
edges_push links (x ∷ ps) p = ap (λ r. edge_of (link_at links x) ∷ r) (edges_push links ps p)

sources_push : (links : List StoredLink) (ps : List ℕ) (p : ℕ) → sources_at links (ps ++ p ∷ []) ≡ sources_at links ps
    ++ source_of (link_at links p) ∷ []
sources_push links [] p = refl
sources_push links (x ∷ ps) p = ap (λ r. source_of (link_at links x) ∷ r) (sources_push links ps p)

sources_noted : (links : List StoredLink) (p : ℕ) (ps : List ℕ) → sources_at links (noted_slot links p ps)
    ≡ noted (source_of (link_at links p)) (sources_at links ps)
sources_noted links p ps = elim (has_source (link_at links p).from (sources_at links ps)) as
    (λ b. sources_at links (cond b ps (ps ++ p ∷ []))
    ≡ cond b (sources_at links ps) (sources_at links ps ++ source_of (link_at links p) ∷ []))
    [ true ↦ refl | false ↦ sources_push links ps p ]

pub forward_slot : (links : List StoredLink) (p : ℕ) (n : StoredNode) → node_of links (with_forward_slot p n)
    ≡ with_edge (edge_of (link_at links p)) (node_of links n)
forward_slot links p n = ap (λ z. let v : Node = record (node_of links n) { forward = z } in v)
    (edges_push links n.forward p)

pub created_slot : (links : List StoredLink) (p : ℕ) (n : StoredNode) → node_of links (with_created_slot links p n)
    ≡ with_created_from (source_of (link_at links p)) (node_of links n)
created_slot links p n = ap (λ z. let v : Node = record (node_of links n) { created_from = z } in v)
    (sources_noted links p n.created_from)

pub source_slot : (kind : EdgeKind) (links : List StoredLink) (p : ℕ) (n : StoredNode)
    → node_of links (with_source_slot kind links p n) ≡ with_source kind (source_of (link_at links p)) (node_of links n)
source_slot Capture links p n = ap (λ z. let v : Node = record (node_of links n) { captures = z } in v)
    (sources_noted links p n.captures)
source_slot Alias links p n = ap (λ z. let v : Node = record (node_of links n) { aliases = z } in v)
    (sources_noted links p n.aliases)
source_slot MaybeAlias links p n = ap (λ z. let v : Node = record (node_of links n) { maybe_aliases = z } in v)
    (sources_noted links p n.maybe_aliases)

visit_slot : (b : Bool) (links : List StoredLink) (index : ℕ) (origin : Origin) (e : Entry) (n : StoredNode)
    → node_of links (record (stored_marked_by b (info e.kind origin.span) n)
    { last_mutated = later index n.last_mutated; mutation_reason = first_reason origin.reason n.mutation_reason })
    ≡ record (marked_by b (info e.kind origin.span) (node_of links n))
    { last_mutated = later index n.last_mutated; mutation_reason = first_reason origin.reason n.mutation_reason }
visit_slot true links index origin e n = refl
visit_slot false links index origin e n = refl

pub visited_slot : (links : List StoredLink) (index : ℕ) (origin : Origin) (e : Entry) (n : StoredNode)
    → node_of links (stored_visited index origin e n) ≡ visited index origin e (node_of links n)
visited_slot links index origin e n = visit_slot e.transitive links index origin e n

-- places below a bound
pub below_push : (n : ℕ) (ps : List ℕ) (p : ℕ) → p < n → AllBelow n ps → AllBelow n (ps ++ p ∷ [])
below_push n [] p lt h = (lt, tt)
below_push n (x ∷ ps) p lt h = (h.0, below_push n ps p lt h.1)

pub below_noted : (links : List StoredLink) (n : ℕ) (ps : List ℕ) (p : ℕ) → p < n → AllBelow n ps
    → AllBelow n (noted_slot links p ps)
below_noted links n ps p lt h = elim (has_source (link_at links p).from (sources_at links ps)) as
    (λ b. AllBelow n (cond b ps (ps ++ p ∷ []))) [ true ↦ h | false ↦ below_push n ps p lt h ]

below_up : (n : ℕ) (ps : List ℕ) → AllBelow n ps → AllBelow (n + 1) ps
below_up n [] h = tt
below_up n (p ∷ ps) h = let lt = h.0 in (omega arith, below_up n ps h.1)

pub fits_up : (n : ℕ) (k : StoredNode) → NodeFits n k → NodeFits (n + 1) k
fits_up n k h = record {
  forward = below_up n k.forward h.forward;
  created_from = below_up n k.created_from h.created_from;
  captures = below_up n k.captures h.captures;
  aliases = below_up n k.aliases h.aliases;
  maybe_aliases = below_up n k.maybe_aliases h.maybe_aliases;
}

pub all_fit_up : (n : ℕ) (g : Entries StoredNode) → AllFit n g → AllFit (n + 1) g
all_fit_up n [] h = tt
all_fit_up n (e ∷ g) h = (fits_up n e.1 h.0, all_fit_up n g h.1)

pub all_fit_changed : (n : ℕ) (F : StoredNode → StoredNode) → ((k : StoredNode) → NodeFits n k → NodeFits n (F k))
    → (g : Entries StoredNode) (id : IdentifierId) → AllFit n g → AllFit n (changed g id F)
all_fit_changed n F f [] id h = tt
all_fit_changed n F f (p ∷ g) id h = elim (same_id id p.0) as
    (λ b. AllFit n (cond b ((p.0, F p.1) ∷ g) (p ∷ changed g id F))) [
      | true ↦ (f p.1 h.0, h.1)
      | false ↦ (h.0, all_fit_changed n F f g id h.1)
    ]

pub fit_forward : (n p : ℕ) → p < n → (k : StoredNode) → NodeFits n k → NodeFits n (with_forward_slot p k)
fit_forward n p lt k h = record {
  forward = below_push n k.forward p lt h.forward;
  created_from = h.created_from;
  captures = h.captures;
  aliases = h.aliases;
  maybe_aliases = h.maybe_aliases;
}

pub fit_created : (links : List StoredLink) (n p : ℕ) → p < n → (k : StoredNode) → NodeFits n k
    → NodeFits n (with_created_slot links p k)
fit_created links n p lt k h = record {
  forward = h.forward;
  created_from = below_noted links n k.created_from p lt h.created_from;
  captures = h.captures;
  aliases = h.aliases;
  maybe_aliases = h.maybe_aliases;
}

fit_marked : (b : Bool) (n index : ℕ) (origin : Origin) (e : Entry) (k : StoredNode) → NodeFits n k
    → NodeFits n (record (stored_marked_by b (info e.kind origin.span) k)
    { last_mutated = later index k.last_mutated; mutation_reason = first_reason origin.reason k.mutation_reason })
fit_marked true n index origin e k h = record {
  forward = h.forward;
  created_from = h.created_from;
  captures = h.captures;
  aliases = h.aliases;
  maybe_aliases = h.maybe_aliases;
}
fit_marked false n index origin e k h = record {
  forward = h.forward;
  created_from = h.created_from;
  captures = h.captures;
  aliases = h.aliases;
  maybe_aliases = h.maybe_aliases;
}

pub fit_visited : (n index : ℕ) (origin : Origin) (e : Entry) (k : StoredNode) → NodeFits n k
    → NodeFits n (stored_visited index origin e k)
fit_visited n index origin e k h = fit_marked e.transitive n index origin e k h

pub fit_found : (n : ℕ) (g : Entries StoredNode) (id : IdentifierId) (i : ℕ) (k : StoredNode) → AllFit n g
    → Found g id i k → NodeFits n k
fit_found n [] id i k h f = absurd f
fit_found n (p ∷ g) id zero k h f = subst (NodeFits n) f.1 h.0
fit_found n (p ∷ g) id (suc i) k h f = fit_found n g id i k h.1 f.1

pub fit_at : (n : ℕ) (g : Entries StoredNode) (id : IdentifierId) (i : ℕ) (k : StoredNode) → AllFit n g → slot_of g id
    ≡ Some i → Some k ≡ option_map (λ (e : IdentifierId × StoredNode). e.1) (slice_get g i) → NodeFits n k
fit_at n g id i k h p v = fit_found n g id i k h (slot_found g id i k p (sym v))

-- a link more at the end
link_kept : (links : List StoredLink) (l : StoredLink) (p : ℕ) → p < length links → link_at (links ++ l ∷ []) p
    ≡ link_at links p
link_kept [] l p h = absurd (omega arith)
link_kept (x ∷ links) l zero h = refl
link_kept (x ∷ links) l (suc p) h = link_kept links l p (omega arith)

pub link_new : (links : List StoredLink) (l : StoredLink) → link_at (links ++ l ∷ []) (length links) ≡ l
link_new [] l = refl
link_new (x ∷ links) l = link_new links l

edges_kept : (links : List StoredLink) (l : StoredLink) (ps : List ℕ) → AllBelow (length links) ps
    → edges_at (links ++ l ∷ []) ps ≡ edges_at links ps
edges_kept links l [] h = refl
edges_kept links l (p ∷ ps) h = let a = link_kept links l p h.0 in let b = edges_kept links l ps h.1 in
    λ i. edge_of (a i) ∷ b i

pub sources_kept : (links : List StoredLink) (l : StoredLink) (ps : List ℕ) → AllBelow (length links) ps
    → sources_at (links ++ l ∷ []) ps ≡ sources_at links ps
sources_kept links l [] h = refl
sources_kept links l (p ∷ ps) h = let a = link_kept links l p h.0 in let b = sources_kept links l ps h.1 in
    λ i. source_of (a i) ∷ b i

node_kept : (links : List StoredLink) (l : StoredLink) (n : StoredNode) → NodeFits (length links) n
    → node_of (links ++ l ∷ []) n ≡ node_of links n
node_kept links l n h =
    let a = edges_kept links l n.forward h.forward in
    let b = sources_kept links l n.created_from h.created_from in
    let c = sources_kept links l n.captures h.captures in
    let d = sources_kept links l n.aliases h.aliases in
    let e = sources_kept links l n.maybe_aliases h.maybe_aliases in
    λ i. let v : Node = record {
      value = n.value;
      local = n.local;
      transitive = n.transitive;
      last_mutated = n.last_mutated;
      mutation_reason = n.mutation_reason;
      forward = a i;
      created_from = b i;
      captures = c i;
      aliases = d i;
      maybe_aliases = e i;
    } in v

pub nodes_kept : (links : List StoredLink) (l : StoredLink) (g : Entries StoredNode) → AllFit (length links) g
    → nodes_of (links ++ l ∷ []) g ≡ nodes_of links g
nodes_kept links l [] h = refl
nodes_kept links l (p ∷ g) h = let a = node_kept links l p.1 h.0 in let b = nodes_kept links l g h.1 in λ i. (p.0, a i)
    ∷ b i

-- look-ups
pub node_at_of : (links : List StoredLink) (g : Entries StoredNode) (id : IdentifierId) → node_at (nodes_of links g) id
    ≡ option_map (node_of links) (node_at g id)
node_at_of links [] id = refl
node_at_of links (p ∷ g) id = elim (same_id id p.0) as
    (λ b. cond b (Some (node_of links p.1)) (node_at (nodes_of links g) id)
    ≡ option_map (node_of links) (cond b (Some p.1) (node_at g id))) [ true ↦ refl | false ↦ node_at_of links g id ]

is_some_map : (links : List StoredLink) (o : Option StoredNode) → is_some (option_map (node_of links) o) ≡ is_some o
is_some_map links None = refl
is_some_map links (Some n) = refl

pub has_node_of : (links : List StoredLink) (g : Entries StoredNode) (id : IdentifierId)
    → has_node (nodes_of links g) id ≡ has_node g id
has_node_of links g id = ap is_some (node_at_of links g id) ∙ is_some_map links (node_at g id)

keys_of_nodes : (links : List StoredLink) (g : Entries StoredNode) → keys_of (nodes_of links g) ≡ keys_of g
keys_of_nodes links [] = refl
keys_of_nodes links (p ∷ g) = ap (λ r. p.0 ∷ r) (keys_of_nodes links g)

pub slot_of_nodes : (links : List StoredLink) (g : Entries StoredNode) (id : IdentifierId)
    → slot_of (nodes_of links g) id ≡ slot_of g id
slot_of_nodes links g id = ap (λ ks. position (same_id id) ks) (keys_of_nodes links g)

pub length_of_nodes : (links : List StoredLink) (g : Entries StoredNode) → length (nodes_of links g) ≡ length g
length_of_nodes links [] = refl
length_of_nodes links (p ∷ g) = ap suc (length_of_nodes links g)

pub with_node_of : (links : List StoredLink) (g : Entries StoredNode) (id : IdentifierId) (k : StoredNode)
    → nodes_of links (with_node g id k) ≡ with_node (nodes_of links g) id (node_of links k)
with_node_of links [] id k = refl
with_node_of links (p ∷ g) id k = elim (same_id id p.0) as
    (λ b. nodes_of links (if b then (p.0, k) ∷ g else p ∷ with_node g id k)
    ≡ (if b then (p.0, node_of links k) ∷ nodes_of links g else (p.0, node_of links p.1)
    ∷ with_node (nodes_of links g) id (node_of links k))) [
      | true ↦ refl
      | false ↦ ap (λ r. (p.0, node_of links p.1) ∷ r) (with_node_of links g id k)
    ]

pub with_node_fits : (n : ℕ) (g : Entries StoredNode) (id : IdentifierId) (k : StoredNode) → NodeFits n k → AllFit n g
    → AllFit n (with_node g id k)
with_node_fits n [] id k f h = (f, tt)
with_node_fits n (p ∷ g) id k f h = elim (same_id id p.0) as
    (λ b. AllFit n (if b then (p.0, k) ∷ g else p ∷ with_node g id k)) [
      | true ↦ (f, h.1)
      | false ↦ (h.0, with_node_fits n g id k f h.1)
    ]

pub fit_fresh : (n : ℕ) (v : NodeValue) → NodeFits n (stored_fresh v)
fit_fresh n v = record { forward = tt; created_from = tt; captures = tt; aliases = tt; maybe_aliases = tt }

pub fits_after_link : (links : List StoredLink) (l : StoredLink) (g : Entries StoredNode) → AllFit (length links) g
    → AllFit (length (links ++ l ∷ [])) g
fits_after_link links l g h = subst (λ n. AllFit n g) (sym (length-append links (l ∷ [])))
    (all_fit_up (length links) g h)

module _ (links : List StoredLink) (g : Entries StoredNode) (fit : AllFit (length links) g) (l : StoredLink) where
  abbrev more : List StoredLink
  more = links ++ l ∷ []

  abbrev new_slot : ℕ
  new_slot = length links

  pub is_new_slot : new_slot < length more
  is_new_slot = let n = length-append links (l ∷ []) in omega arith

  abbrev with_forward : Entries StoredNode
  with_forward = changed g l.from (with_forward_slot new_slot)

  pub forward_fits : AllFit (length more) with_forward
  forward_fits = all_fit_changed (length more) (with_forward_slot new_slot)
      (fit_forward (length more) new_slot is_new_slot) g l.from (fits_after_link links l g fit)

  forward_is : nodes_of more with_forward ≡ changed (nodes_of links g) l.from (with_edge (edge_of l))
  forward_is =
      nodes_changed more (with_forward_slot new_slot) (with_edge (edge_of l))
      (λ n. forward_slot more new_slot n ∙ ap (λ z. with_edge (edge_of z) (node_of more n)) (link_new links l)) g
      l.from
      ∙ ap (λ z. changed z l.from (with_edge (edge_of l))) (nodes_kept links l g fit)

  pub created_fits : AllFit (length more) (changed with_forward l.into (with_created_slot more new_slot))
  created_fits = all_fit_changed (length more) (with_created_slot more new_slot)
      (fit_created more (length more) new_slot is_new_slot) with_forward l.into forward_fits

  pub created_is : nodes_of more (changed with_forward l.into (with_created_slot more new_slot))
      ≡ changed (changed (nodes_of links g) l.from (with_edge (edge_of l))) l.into (with_created_from (source_of l))
  created_is =
      nodes_changed more (with_created_slot more new_slot) (with_created_from (source_of l))
      (λ n. created_slot more new_slot n ∙ ap (λ z. with_created_from (source_of z) (node_of more n))
      (link_new links l)) with_forward l.into
      ∙ ap (λ z. changed z l.into (with_created_from (source_of l))) forward_is

  pub source_is : nodes_of more (changed with_forward l.into (with_source_slot l.kind more new_slot))
      ≡ changed (changed (nodes_of links g) l.from (with_edge (edge_of l))) l.into (with_source l.kind (source_of l))
  source_is =
      nodes_changed more (with_source_slot l.kind more new_slot) (with_source l.kind (source_of l))
      (λ n. source_slot l.kind more new_slot n
      ∙ ap (λ z. with_source l.kind (source_of z) (node_of more n)) (link_new links l)) with_forward l.into
      ∙ ap (λ z. changed z l.into (with_source l.kind (source_of l))) forward_is

pub forward_keeps : (n p : ℕ) (g : Entries StoredNode) (id : IdentifierId) → p < n → AllFit n g
    → AllFit n (changed g id (with_forward_slot p))
forward_keeps n p g id lt h = all_fit_changed n (with_forward_slot p) (fit_forward n p lt) g id h

pub fit_set : (n : ℕ) (g : Entries StoredNode) (i : ℕ) (w : StoredNode) → NodeFits n w → AllFit n g
    → AllFit n (set_value_at g i w)
fit_set n [] i w f h = tt
fit_set n (p ∷ g) zero w f h = (f, h.1)
fit_set n (p ∷ g) (suc i) w f h = (h.0, fit_set n g i w f h.1)
