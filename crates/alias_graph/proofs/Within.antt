-- Which identifiers have a node.
use Rattle.std.proofs.Common.{◌≡◌, ℕ, Bool, true, false, cond, ◌||◌, ◌==◌, List, [], ◌∷◌, Option, Some, None, is_some}
use Rattle.std.proofs.Common.{if◌then◌else◌, refl, ap, sym, ◌∙◌}
use Rattle.alias_base.specs.declared.ids.IdentifierId.{IdentifierId}
use Rattle.alias_graph.specs.declared.types.EdgeKind.TheVariants.{Alias}
use Rattle.alias_graph.specs.declared.types.NodeValue.{NodeValue}
use Rattle.alias_graph.specs.declared.types.NodeValue.TheVariants.{Object}
use Rattle.alias_graph.specs.declared.types.Origin.{Origin}
use Rattle.alias_graph.specs.declared.types.Entry.{Entry}
use Rattle.alias_graph.specs.declared.types.StoredLink.{StoredLink}
use Rattle.alias_graph.specs.declared.types.Node.{Node as StoredNode}
use Rattle.alias_graph.specs.Nodes.{Node, Entries, Nodes, node_at, has_node, with_node, same_id, SameIds, OneMore}
use Rattle.alias_graph.specs.Graph.{changed, created, made_from, fresh, edge, source, with_edge, with_created_from}
use Rattle.alias_graph.specs.NodeMarks.{visited, marked}
use Rattle.alias_graph.specs.Flat.{nodes_of}
use Rattle.alias_graph.proofs.Covering.{eqb_is}
use Rattle.alias_graph.proofs.Flats.{has_node_of}

pub same_changed : {V : Type 0} (g : Entries V) (id : IdentifierId) (f : V → V) (q : IdentifierId)
    → has_node (changed g id f) q ≡ has_node g q
same_changed [] id f q = refl
same_changed (p ∷ g) id f q = elim (same_id id p.0) as
    (λ b. is_some (node_at (cond b ((p.0, f p.1) ∷ g) (p ∷ changed g id f)) q)
    ≡ is_some (cond (same_id q p.0) (Some p.1) (node_at g q))) [
      | true ↦ elim (same_id q p.0) as (λ b. is_some (cond b (Some (f p.1)) (node_at g q))
          ≡ is_some (cond b (Some p.1) (node_at g q))) [ true ↦ refl | false ↦ refl ]
      | false ↦ elim (same_id q p.0) as (λ b. is_some (cond b (Some p.1) (node_at (changed g id f) q))
          ≡ is_some (cond b (Some p.1) (node_at g q))) [ true ↦ refl | false ↦ same_changed g id f q ]
    ]

some_or : (b : Bool) (n : Node) (o : Option Node) → is_some (cond b (Some n) o) ≡ (b || is_some o)
some_or true n o = refl
some_or false n o = refl

swap_or : (a b c : Bool) → (a || (b || c)) ≡ (b || (a || c))
swap_or true true c = refl
swap_or true false c = refl
swap_or false b c = refl

or_twice : (a c : Bool) → (a || c) ≡ (a || (a || c))
or_twice true c = refl
or_twice false c = refl

one_put : (g : Nodes) (id : IdentifierId) (n : Node) → OneMore id g (with_node g id n)
one_put [] id n q = some_or (same_id q id) n None
one_put (p ∷ g) id n q = elim (same_id id p.0) as
    (λ b. same_id id p.0 ≡ b → is_some (node_at (if b then (p.0, n) ∷ g else p ∷ with_node g id n) q)
    ≡ (same_id q id || is_some (cond (same_id q p.0) (Some p.1) (node_at g q)))) [
      | true ↦ λ is.
          let at : id.0 ≡ p.0.0 = eqb_is id.0 p.0.0 is in
          some_or (same_id q p.0) n (node_at g q) ∙ or_twice (same_id q p.0) (has_node g q)
          ∙ ap (λ k. (q.0 == k) || (same_id q p.0 || has_node g q)) (sym at)
          ∙ ap (λ r. same_id q id || r) (sym (some_or (same_id q p.0) p.1 (node_at g q)))
      | false ↦ λ is.
          some_or (same_id q p.0) p.1 (node_at (with_node g id n) q) ∙ ap (λ r. same_id q p.0 || r) (one_put g id n q)
          ∙ swap_or (same_id q p.0) (same_id q id) (has_node g q)
          ∙ ap (λ r. same_id q id || r) (sym (some_or (same_id q p.0) p.1 (node_at g q)))
    ] refl

pub created_more : (g : Nodes) (id : IdentifierId) (value : NodeValue) → OneMore id g (created g id value)
created_more g id value = one_put g id (fresh value)

pub made_more : (g : Nodes) (index : ℕ) (from into : IdentifierId) → OneMore into g (made_from g index from into)
made_more g index from into q =
    same_changed (changed (created g into Object) from (with_edge (edge index into Alias))) into
    (with_created_from (source index from)) q
    ∙ same_changed (created g into Object) from (with_edge (edge index into Alias)) q
    ∙ created_more g into Object q

pub joined_same : (links more : List StoredLink) (g new : Entries StoredNode) (from into : IdentifierId)
    (f h : StoredNode → StoredNode) → new ≡ changed (changed g from f) into h
    → SameIds (nodes_of links g) (nodes_of more new)
joined_same links more g new from into f h is q =
    has_node_of more new q ∙ ap (λ z. has_node z q) is
    ∙ same_changed (changed g from f) into h q ∙ same_changed g from f q
    ∙ sym (has_node_of links g q)

pub marked_same : (m : ℕ) (origin : Origin) (g : Nodes) (done : List Entry) → SameIds g (marked m origin g done)
marked_same m origin g [] q = refl
marked_same m origin g (e ∷ done) q = same_changed (marked m origin g done) e.id (visited m origin e) q
    ∙ marked_same m origin g done q
