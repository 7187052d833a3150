-- Links that are put in another order, or taken back.
use Rattle.std.proofs.Common.{◌≡◌, ℕ, true, false, cond, ◌==◌, List, [], ◌∷◌, ◌++◌, Option, Some, None, MatchOption}
use Rattle.std.proofs.Common.{length, if◌then◌else◌, refl, ap, sym, ◌∙◌, subst, arith}
use Rattle.alias_base.specs.declared.ids.IdentifierId.{IdentifierId}
use Rattle.alias_graph.specs.declared.types.NodeValue.TheVariants.{Object}
use Rattle.alias_graph.specs.declared.types.EdgeKind.TheVariants.{Alias}
use Rattle.alias_graph.specs.declared.types.StoredLink.{StoredLink}
use Rattle.alias_graph.specs.declared.types.Node.{Node as StoredNode}
use Rattle.alias_graph.specs.Nodes.{Entries, with_node, same_id}
use Rattle.alias_graph.specs.Graph.{changed, created, made_from, edge, with_edge, with_created_from}
use Rattle.alias_graph.specs.Flat.{AllFit, nodes_of, edge_of, source_of, but_last, but_last_from, stored_fresh}
use Rattle.alias_graph.specs.Flat.{stored_created, with_forward_slot, without_last_edge, with_created_slot, IsCreated}
use Rattle.alias_graph.proofs.Covering.{eqb_is, eqb_itself}
use Rattle.alias_graph.proofs.Flats.{created_is, created_fits, with_node_of, with_node_fits, fit_fresh}

last_from : (p : ℕ) (ps : List ℕ) (q : ℕ) → but_last_from p (ps ++ q ∷ []) ≡ p ∷ ps
last_from p [] q = refl
last_from p (x ∷ ps) q = ap (λ r. p ∷ r) (last_from x ps q)

pub last_off : (ps : List ℕ) (q : ℕ) → but_last (ps ++ q ∷ []) ≡ ps
last_off [] q = refl
last_off (p ∷ ps) q = last_from p ps q

pub popped : (ps qs : List ℕ) (q : ℕ) → ps ≡ qs ++ q ∷ [] → qs ≡ but_last ps
popped ps qs q h = sym (ap but_last h ∙ last_off qs q)

pub last_popped : (o : Option ℕ) (old new : List ℕ)
    → MatchOption o ((old ≡ []) × (new ≡ [])) (λ last. old ≡ new ++ last ∷ []) → new ≡ but_last old
last_popped None old new h = h.1 ∙ ap but_last (sym h.0)
last_popped (Some q) old new h = popped old new q h

module _ {V : Type 0} where
  -- a change that is changed back
  undone : (f h : V → V) → ((n : V) → h (f n) ≡ n) → (g : Entries V) (id : IdentifierId) → changed (changed g id f) id h
      ≡ g
  undone f h back [] id = refl
  undone f h back (p ∷ g) id = elim (same_id id p.0) as
      (λ b. same_id id p.0 ≡ b → changed (cond b ((p.0, f p.1) ∷ g) (p ∷ changed g id f)) id h ≡ p ∷ g) [
        | true ↦ λ is. ap (λ b. cond b ((p.0, h (f p.1)) ∷ g) ((p.0, f p.1) ∷ changed g id h)) is
            ∙ ap (λ n. (p.0, n) ∷ g) (back p.1)
        | false ↦ λ is. ap (λ b. cond b ((p.0, h p.1) ∷ changed g id f) (p ∷ changed (changed g id f) id h)) is
            ∙ ap (λ r. p ∷ r) (undone f h back g id)
      ] refl

  -- a change of the node that was just put
  put_changed : (g : Entries V) (id : IdentifierId) (k : V) (f : V → V) → changed (with_node g id k) id f
      ≡ with_node g id (f k)
  put_changed [] id k f = ap (λ b. cond b ((id, f k) ∷ []) ((id, k) ∷ [])) (eqb_itself id.0)
  put_changed (p ∷ g) id k f = elim (same_id id p.0) as
      (λ b. same_id id p.0 ≡ b → changed (if b then (p.0, k) ∷ g else p ∷ with_node g id k) id f
      ≡ (if b then (p.0, f k) ∷ g else p ∷ with_node g id (f k))) [
        | true ↦ λ is. ap (λ b. cond b ((p.0, f k) ∷ g) ((p.0, k) ∷ changed g id f)) is
        | false ↦ λ is. ap (λ b. cond b ((p.0, f p.1) ∷ with_node g id k) (p ∷ changed (with_node g id k) id f)) is
            ∙ ap (λ r. p ∷ r) (put_changed g id k f)
      ] refl

  -- a node that is put, and a change of another
  put_apart : (g : Entries V) (a b : IdentifierId) (k : V) (f : V → V) → (a.0 ≡ b.0 → ⊥) → changed (with_node g b k) a f
      ≡ with_node (changed g a f) b k
  put_apart [] a b k f apart = elim (same_id a b) as
      (λ x. same_id a b ≡ x → cond {A = Entries V} x ((b, f k) ∷ []) ((b, k) ∷ []) ≡ (b, k) ∷ []) [
        | true ↦ λ is. absurd (apart (eqb_is a.0 b.0 is))
        | false ↦ λ is. refl
      ] refl
  put_apart (p ∷ g) a b k f apart = elim (same_id b p.0) as
      (λ x. same_id b p.0 ≡ x → changed (if x then (p.0, k) ∷ g else p ∷ with_node g b k) a f
      ≡ with_node (changed (p ∷ g) a f) b k) [
        | true ↦ λ at. elim (same_id a p.0) as
            (λ y. same_id a p.0 ≡ y → cond {A = Entries V} y ((p.0, f k) ∷ g) ((p.0, k) ∷ changed g a f)
            ≡ with_node (cond y ((p.0, f p.1) ∷ g) (p ∷ changed g a f)) b k) [
              | true ↦ λ is. absurd (let x = eqb_is a.0 p.0.0 is in let y = eqb_is b.0 p.0.0 at in apart (x ∙ sym y))
              | false ↦ λ is. ap (λ x. if x then (p.0, k) ∷ changed g a f else p ∷ with_node (changed g a f) b k)
                  (sym at)
            ] refl
        | false ↦ λ at. elim (same_id a p.0) as
            (λ y. cond {A = Entries V} y ((p.0, f p.1) ∷ with_node g b k) (p ∷ changed (with_node g b k) a f)
            ≡ with_node (cond y ((p.0, f p.1) ∷ g) (p ∷ changed g a f)) b k) [
              | true ↦ ap (λ x. if x then (p.0, k) ∷ g else (p.0, f p.1) ∷ with_node g b k) (sym at)
              | false ↦ ap (λ r. p ∷ r) (put_apart g a b k f apart)
                  ∙ ap (λ x. if x then (p.0, k) ∷ changed g a f else p ∷ with_node (changed g a f) b k) (sym at)
            ]
      ] refl

back_off : (p : ℕ) (n : StoredNode) → without_last_edge (with_forward_slot p n) ≡ n
back_off p n = ap (λ z. let v : StoredNode = record n { forward = z } in v) (last_off n.forward p)

-- an edge that is taken back
pub edge_dropped : (g h k : Entries StoredNode) (id : IdentifierId) (p : ℕ) → h ≡ changed g id (with_forward_slot p) → k
    ≡ changed h id without_last_edge → k ≡ g
edge_dropped g h k id p a b = b ∙ ap (λ z. changed z id without_last_edge) a
    ∙ undone (with_forward_slot p) without_last_edge (back_off p) g id

-- the node of a link from itself
pub created_own : (g new : Entries StoredNode) (from into : IdentifierId) (p : ℕ) (k : StoredNode) → from.0 ≡ into.0 → k
    ≡ stored_created (same_id from into) p → new ≡ with_node g into k → IsCreated g from into p new
created_own g new from into p k same is h links =
    let own : k ≡ stored_created true p = is
    ∙ ap (λ b. stored_created b p) (ap (λ n. n == into.0) same ∙ eqb_itself into.0) in
    let one : from ≡ into = ap (λ (n : ℕ). let z : IdentifierId = record { 0 = n } in z) same in
    h ∙ ap (with_node g into) own
    ∙ sym (
    ap (λ z. changed (changed (with_node g into (stored_fresh Object)) z (with_forward_slot p)) into
    (with_created_slot links p)) one
    ∙ ap (λ z. changed z into (with_created_slot links p))
    (put_changed g into (stored_fresh Object) (with_forward_slot p))
    ∙ put_changed g into (with_forward_slot p (stored_fresh Object)) (with_created_slot links p)
    )

not_same : (a b : ℕ) → (a ≡ b → ⊥) → (a == b) ≡ false
not_same a b h = grind arith

-- the node of a link from another
pub created_apart : (g h new : Entries StoredNode) (from into : IdentifierId) (p : ℕ) (k : StoredNode)
    → (from.0 ≡ into.0 → ⊥) → k ≡ stored_created (same_id from into) p → h ≡ changed g from (with_forward_slot p) → new
    ≡ with_node h into k → IsCreated g from into p new
created_apart g h new from into p k apart is a b links =
    let other : k ≡ stored_created false p = is ∙ ap (λ x. stored_created x p) (not_same from.0 into.0 apart) in
    b ∙ ap (λ z. with_node z into k) a ∙ ap (with_node (changed g from (with_forward_slot p)) into) other
    ∙ sym (
    ap (λ z. changed z into (with_created_slot links p))
    (put_apart g from into (stored_fresh Object) (with_forward_slot p) apart)
    ∙ put_changed (changed g from (with_forward_slot p)) into (stored_fresh Object) (with_created_slot links p)
    )

module _ (links more : List StoredLink) (g new : Entries StoredNode) (l : StoredLink) (p : ℕ)
    (fit : AllFit (length links) g) (is : more ≡ links ++ l ∷ []) (at : p ≡ length links)
    (h : IsCreated g l.from l.into p new) where
  abbrev made : Entries StoredNode
  made = with_node g l.into (stored_fresh Object)

  made_fits : AllFit (length links) made
  made_fits = with_node_fits (length links) g l.into (stored_fresh Object) (fit_fresh (length links) Object) fit

  new_is : new ≡ changed (changed made l.from (with_forward_slot (length links))) l.into
      (with_created_slot (links ++ l ∷ []) (length links))
  new_is = h (links ++ l ∷ []) ∙ ap (λ q.
      changed (changed made l.from (with_forward_slot q)) l.into (with_created_slot (links ++ l ∷ []) q)) at

  pub created_fits_there : AllFit (length more) new
  created_fits_there = subst (λ z. AllFit (length z) new) (sym is)
      (subst (AllFit (length (links ++ l ∷ []))) (sym new_is) (created_fits links made made_fits l))

  pub created_there : l.kind ≡ Alias → nodes_of more new ≡ made_from (nodes_of links g) l.index l.from l.into
  created_there alias =
      ap (λ z. nodes_of z new) is ∙ ap (nodes_of (links ++ l ∷ [])) new_is
      ∙ created_is links made made_fits l
      ∙ ap (λ z. changed (changed z l.from (with_edge (edge_of l))) l.into (with_created_from (source_of l)))
      (with_node_of links g l.into (stored_fresh Object))
      ∙ ap (λ x. changed (changed (created (nodes_of links g) l.into Object) l.from (with_edge (edge l.index l.into x)))
      l.into (with_created_from (source_of l))) alias
