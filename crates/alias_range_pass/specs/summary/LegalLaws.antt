-- Marks change no legal path.
use Rattle.std.proofs.Common.{◌≡◌, ℕ, IsTrue, Option, Some, None, is_some, option_map, refl, ap, sym, ◌∙◌, subst}
use Rattle.alias_graph.specs.declared.types.Entry.{Entry}
use Rattle.alias_graph.specs.Legal.{Link, Legal, forward_alias, forward_maybe_alias, forward_capture, created_from}
use Rattle.alias_graph.specs.Legal.{alias, maybe_alias, capture, begin, go_on}
use Rattle.alias_graph.specs.Links.{node_exists}
use Rattle.alias_graph.specs.Nodes.{Node, Nodes, node_at}
use Rattle.alias_graph.proofs.Shapes.{shape, marked_shape}
use Rattle.alias_range_pass.specs.declared.summary.start.WalkStart.{WalkStart}
use Rattle.alias_range_pass.specs.summary.Laws.{SameLinks}
use Rattle.alias_range_pass.specs.summary.Walking.{start_origin, expanded, nodes_after}

pub links_same : (g : Nodes) → SameLinks g g
links_same g = record { shapes = λ q. refl }

pub links_back : (g h : Nodes) → SameLinks g h → SameLinks h g
links_back g h same = record { shapes = λ q. sym (same.shapes q) }

-- a walk keeps nodes and links
pub links_after : (g h : Nodes) (s : WalkStart) → SameLinks g h → SameLinks g (nodes_after s h)
links_after g h s same = record {
  shapes = λ q. marked_shape s.index (start_origin s) h (expanded h s) q
      ∙ same.shapes q;
}

link_shape : (m : ℕ) (n : Node) (e f : Entry) → Link m n e f → Link m (shape n) e f
link_shape m n e f (forward_alias l i lt k is) = forward_alias l i lt k is
link_shape m n e f (forward_maybe_alias l i lt k is) = forward_maybe_alias l i lt k is
link_shape m n e f (forward_capture l i lt k is) = forward_capture l i lt k is
link_shape m n e f (created_from l i lt is) = created_from l i lt is
link_shape m n e f (alias l i lt o is) = alias l i lt o is
link_shape m n e f (maybe_alias l i lt o is) = maybe_alias l i lt o is
link_shape m n e f (capture l i lt t is) = capture l i lt t is

link_unshape : (m : ℕ) (n : Node) (e f : Entry) → Link m (shape n) e f → Link m n e f
link_unshape m n e f (forward_alias l i lt k is) = forward_alias l i lt k is
link_unshape m n e f (forward_maybe_alias l i lt k is) = forward_maybe_alias l i lt k is
link_unshape m n e f (forward_capture l i lt k is) = forward_capture l i lt k is
link_unshape m n e f (created_from l i lt is) = created_from l i lt is
link_unshape m n e f (alias l i lt o is) = alias l i lt o is
link_unshape m n e f (maybe_alias l i lt o is) = maybe_alias l i lt o is
link_unshape m n e f (capture l i lt t is) = capture l i lt t is

some_shape : (o : Option Node) → is_some (option_map shape o) ≡ is_some o
some_shape None = refl
some_shape (Some n) = refl

-- the node with this shape
shaped : (o : Option Node) (n : Node) → option_map shape o ≡ Some (shape n) → (w : Node) × (o ≡ Some w)
    × (shape w ≡ shape n)
shaped None n h = cc
shaped (Some w) n h = (w, refl, cc)

module _ (g h : Nodes) (same : SameLinks g h) where
  exists_same : (e : Entry) → IsTrue (node_exists g e) → IsTrue (node_exists h e)
  exists_same e p =
      let is : is_some (node_at g e.id) ≡ is_some (node_at h e.id) = sym (some_shape (node_at g e.id))
      ∙ ap is_some (sym (same.shapes e.id)) ∙ some_shape (node_at h e.id) in
      subst IsTrue is p

  -- legal paths are the same then
  pub legal_same : (m : ℕ) (s e : Entry) → Legal g m s e → Legal h m s e
  legal_same m s e (begin p) = begin (exists_same s p)
  legal_same m s f (go_on {e} n p at link there) =
      let w = shaped (node_at h e.id) n (same.shapes e.id ∙ ap (option_map shape) at) in
      let P : Node → Type 0 = λ z. Link m z e f in
      go_on w.0 (legal_same m s e p) w.1 (link_unshape m w.0 e f (subst P (sym w.2) (link_shape m n e f link)))
      (exists_same f there)
