-- A walk's marks change no link.
use Rattle.std.proofs.Common.{◌≡◌, ℕ, ◌+◌, Bool, true, false, cond, List, [], ◌∷◌, Option, Some, None, length}
use Rattle.std.proofs.Common.{option_map, position, refl, ap, sym, ◌∙◌, suc}
use Rattle.std.specs.Map.{keys_of}
use Rattle.alias_base.specs.declared.ids.IdentifierId.{IdentifierId}
use Rattle.alias_graph.specs.declared.types.Entry.{Entry}
use Rattle.alias_graph.specs.Nodes.{Node}
use Rattle.alias_graph.specs.declared.types.Origin.{Origin}
use Rattle.alias_graph.specs.Nodes.{Nodes, node_at, slot_of, same_id}
use Rattle.alias_graph.specs.Graph.{changed}
use Rattle.alias_graph.specs.Links.{led_to, led_from, next, links_of, all_links}
use Rattle.alias_graph.specs.NodeMarks.{visited, marked_by, info, later, first_reason, marked}

-- a node without its marks
abbrev pub shape : Node → Node
shape n = record n { local = None; transitive = None; last_mutated = None; mutation_reason = None }

abbrev pub shape_at : Nodes → IdentifierId → Option Node
shape_at g id = option_map shape (node_at g id)

shape_marked : (b : Bool) (index : ℕ) (origin : Origin) (e : Entry) (n : Node)
    → shape (record (marked_by b (info e.kind origin.span) n)
    { last_mutated = later index n.last_mutated; mutation_reason = first_reason origin.reason n.mutation_reason })
    ≡ shape n
shape_marked true index origin e n = refl
shape_marked false index origin e n = refl

pub shape_visited : (index : ℕ) (origin : Origin) (e : Entry) (n : Node) → shape (visited index origin e n) ≡ shape n
shape_visited index origin e n = shape_marked e.transitive index origin e n

pub led_visited : (m : ℕ) (d e : Entry) (index : ℕ) (origin : Origin) (n : Node) → led_to m d (visited index origin e n)
    ≡ led_to m d n
led_visited m d e index origin n = ap (led_to m d) (shape_visited index origin e n)

changed_shape : (f : Node → Node) → ((n : Node) → shape (f n) ≡ shape n) → (g : Nodes) (id q : IdentifierId)
    → shape_at (changed g id f) q ≡ shape_at g q
changed_shape f h [] id q = refl
changed_shape f h (p ∷ g) id q =
    elim (same_id id p.0) as (λ b. option_map shape (node_at (cond b ((p.0, f p.1) ∷ g) (p ∷ changed g id f)) q)
    ≡ option_map shape (node_at (p ∷ g) q)) [
      | true ↦ elim (same_id q p.0) as (λ b. option_map shape (cond b (Some (f p.1)) (node_at g q))
          ≡ option_map shape (cond b (Some p.1) (node_at g q))) [
            | true ↦ ap Some (h p.1)
            | false ↦ refl
          ]
      | false ↦ elim (same_id q p.0) as (λ b. option_map shape (cond b (Some p.1) (node_at (changed g id f) q))
          ≡ option_map shape (cond b (Some p.1) (node_at g q))) [
            | true ↦ refl
            | false ↦ changed_shape f h g id q
          ]
    ]

keys_changed : (g : Nodes) (id : IdentifierId) (f : Node → Node) → keys_of (changed g id f) ≡ keys_of g
keys_changed [] id f = refl
keys_changed (p ∷ g) id f = elim (same_id id p.0) as
    (λ b. keys_of (cond b ((p.0, f p.1) ∷ g) (p ∷ changed g id f)) ≡ keys_of (p ∷ g)) [
      | true ↦ refl
      | false ↦ ap (λ ks. p.0 ∷ ks) (keys_changed g id f)
    ]

pub length_changed : (g : Nodes) (id : IdentifierId) (f : Node → Node) → length (changed g id f) ≡ length g
length_changed [] id f = refl
length_changed (p ∷ g) id f = elim (same_id id p.0) as
    (λ b. length (cond b ((p.0, f p.1) ∷ g) (p ∷ changed g id f)) ≡ suc (length g)) [
      | true ↦ refl
      | false ↦ ap suc (length_changed g id f)
    ]

links_changed : (f : Node → Node) → ((n : Node) → links_of (f n) ≡ links_of n) → (g : Nodes) (id : IdentifierId)
    → all_links (changed g id f) ≡ all_links g
links_changed f h [] id = refl
links_changed f h (p ∷ g) id = elim (same_id id p.0) as
    (λ b. all_links (cond b ((p.0, f p.1) ∷ g) (p ∷ changed g id f)) ≡ links_of p.1 + all_links g) [
      | true ↦ ap (λ n. n + all_links g) (h p.1)
      | false ↦ ap (λ n. links_of p.1 + n) (links_changed f h g id)
    ]

module _ (index : ℕ) (origin : Origin) (g : Nodes) where
  pub marked_links : (done : List Entry) → all_links (marked index origin g done) ≡ all_links g
  marked_links [] = refl
  marked_links (e ∷ done) = links_changed (visited index origin e) (λ n. ap links_of (shape_visited index origin e n))
      (marked index origin g done) e.id ∙ marked_links done

  pub marked_shape : (done : List Entry) (q : IdentifierId) → shape_at (marked index origin g done) q ≡ shape_at g q
  marked_shape [] q = refl
  marked_shape (e ∷ done) q = changed_shape (visited index origin e) (shape_visited index origin e)
      (marked index origin g done) e.id q ∙ marked_shape done q

  pub marked_keys : (done : List Entry) → keys_of (marked index origin g done) ≡ keys_of g
  marked_keys [] = refl
  marked_keys (e ∷ done) = keys_changed (marked index origin g done) e.id (visited index origin e) ∙ marked_keys done

  pub marked_length : (done : List Entry) → length (marked index origin g done) ≡ length g
  marked_length [] = refl
  marked_length (e ∷ done) = length_changed (marked index origin g done) e.id (visited index origin e)
      ∙ marked_length done

  pub marked_slot : (done : List Entry) (q : IdentifierId) → slot_of (marked index origin g done) q ≡ slot_of g q
  marked_slot done q = ap (λ ks. position (same_id q) ks) (marked_keys done)

  next_shape : (m : ℕ) (e : Entry) (o : Option Node) → led_from m e (option_map shape o) ≡ led_from m e o
  next_shape m e None = refl
  next_shape m e (Some n) = refl

  pub marked_next : (done : List Entry) (m : ℕ) (e : Entry) → next (marked index origin g done) m e ≡ next g m e
  marked_next done m e =
      sym (next_shape m e (node_at (marked index origin g done) e.id)) ∙ ap (led_from m e) (marked_shape done e.id)
      ∙ next_shape m e (node_at g e.id)
