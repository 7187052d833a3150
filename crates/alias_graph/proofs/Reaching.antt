-- A walk of the graph visits exactly the nodes of legal paths.
use Rattle.std.proofs.Common.{◌≡◌, ℕ, Bool, true, false, IsTrue, [], Option, Some, None, is_some, refl, ap, sym, ◌∙◌}
use Rattle.std.proofs.Common.{subst}
use Rattle.alias_base.specs.declared.ids.IdentifierId.{IdentifierId}
use Rattle.alias_graph.specs.declared.types.MutationKind.{MutationKind}
use Rattle.alias_graph.specs.declared.types.MutationKind.TheVariants.{Conditional}
use Rattle.alias_graph.specs.declared.types.Direction.{Direction}
use Rattle.alias_graph.specs.declared.types.Direction.TheVariants.{Backwards, Forwards}
use Rattle.alias_graph.specs.declared.types.Entry.{Entry}
use Rattle.alias_graph.specs.Nodes.{Node}
use Rattle.alias_graph.specs.Nodes.{Nodes, node_at}
use Rattle.alias_graph.specs.Walks.{IsOneOf, Path, begin as starting, more, run}
use Rattle.alias_graph.specs.Links.{is_backwards, is_definite, at_least, covers, entry, led_from, next, node_exists}
use Rattle.alias_graph.specs.Legal.{Legal, begin, go_on, Link, IsOpen, forward_alias, forward_maybe_alias}
use Rattle.alias_graph.specs.Legal.{forward_capture, created_from, alias, maybe_alias, capture}
use Rattle.alias_graph.proofs.Covering.{Covers, opened, closed, least_itself, least_trans}
use Rattle.alias_graph.proofs.Legality.{link_of, of_link}
use Rattle.alias_graph.proofs.Visits.{CoverLaws, Met, run_reaches, run_on_paths}

pub covers_itself : (e : Entry) → IsTrue (covers e e)
covers_itself e = closed e e (record {
  id = refl;
  transitive = least_itself e.transitive;
  direction = least_itself (is_backwards e.direction);
  kind = least_itself (is_definite e.kind);
})

covers_trans : (d e f : Entry) → IsTrue (covers d e) → IsTrue (covers e f) → IsTrue (covers d f)
covers_trans d e f p q = let a = opened d e p in let b = opened e f q in closed d f (record {
  id = a.id ∙ b.id;
  transitive = least_trans d.transitive e.transitive f.transitive a.transitive b.transitive;
  direction = least_trans (is_backwards d.direction) (is_backwards e.direction) (is_backwards f.direction) a.direction
      b.direction;
  kind = least_trans (is_definite d.kind) (is_definite e.kind) (is_definite f.kind) a.kind b.kind;
})

pub id_is : (a b : IdentifierId) → a.0 ≡ b.0 → a ≡ b
id_is a b h = ap (λ (n : ℕ). let z : IdentifierId = record { 0 = n } in z) h

same_node : (g : Nodes) (d e : Entry) → IsTrue (covers d e) → node_at g d.id ≡ node_at g e.id
same_node g d e h = ap (node_at g) (id_is d.id e.id (opened d e h).id)

not_forwards : (d : Direction) → is_backwards d ≡ true → d ≡ Forwards → ⊥
not_forwards Backwards p q = cc
not_forwards Forwards p q = cc

lower : (d e : Bool) → at_least d e ≡ true → e ≡ true → d ≡ true
lower true e h i = refl
lower false true h i = cc
lower false false h i = i

-- a covered entry is no more open than the one that covers it
stays_open : (v : Node) (d e : Entry) → Covers d e → IsOpen v e → IsOpen v d
stays_open v d e h free phi forwards =
    free phi (back e.direction (λ is. not_forwards d.direction
    (lower (is_backwards d.direction) (is_backwards e.direction) h.direction is) forwards))
  where
    back : (x : Direction) → (is_backwards x ≡ true → ⊥) → x ≡ Forwards
    back Backwards never = absurd (never refl)
    back Forwards never = refl

-- the entries that two links of one kind lead to
ahead : (id : IdentifierId) (t s : Bool) (x : Direction) (j k : MutationKind) → at_least t s ≡ true
    → at_least (is_definite j) (is_definite k) ≡ true → IsTrue (covers (entry id t x j) (entry id s x k))
ahead id t s x j k p q = closed (entry id t x j) (entry id s x k)
    (record { id = refl; transitive = p; direction = least_itself (is_backwards x); kind = q })

module _ (m : ℕ) (n : Node) (d e : Entry) (h : Covers d e) where
  abbrev By : Entry → Type 0
  By f = (c : Entry) × Link m n d c × IsTrue (covers c f)

  by : (id : IdentifierId) (t s : Bool) (x : Direction) (j k : MutationKind) (f : Entry) → f ≡ entry id s x k
      → Link m n d (entry id t x j) → at_least t s ≡ true → at_least (is_definite j) (is_definite k) ≡ true → By f
  by id t s x j k f is l p q = (
    entry id t x j,
    l,
    subst (λ z. IsTrue (covers (entry id t x j) z)) (sym is) (ahead id t s x j k p q),
  )

  link_mono : (f : Entry) → Link m n e f → By f
  link_mono f (forward_alias l i lt is z) =
      by l.other d.transitive e.transitive Forwards d.kind e.kind f z (forward_alias l i lt is refl) h.transitive h.kind
  link_mono f (forward_maybe_alias l i lt is z) =
      by l.other d.transitive e.transitive Forwards Conditional Conditional f z (forward_maybe_alias l i lt is refl)
      h.transitive refl
  link_mono f (forward_capture l i lt is z) =
      by l.other d.transitive e.transitive Backwards d.kind e.kind f z (forward_capture l i lt is refl) h.transitive
      h.kind
  link_mono f (created_from l i lt z) = by l.other true true Backwards d.kind e.kind f z (created_from l i lt refl) refl
      h.kind
  link_mono f (alias l i lt free z) = by l.other d.transitive e.transitive Backwards d.kind e.kind f z
      (alias l i lt (stays_open n d e h free) refl) h.transitive h.kind
  link_mono f (maybe_alias l i lt free z) =
      by l.other d.transitive e.transitive Backwards Conditional Conditional f z
      (maybe_alias l i lt (stays_open n d e h free) refl) h.transitive refl
  link_mono f (capture l i lt is z) = by l.other d.transitive e.transitive Backwards d.kind e.kind f z
      (capture l i lt (lower d.transitive e.transitive h.transitive is) refl) h.transitive h.kind

mono_from : (m : ℕ) (o : Option Node) (d e f : Entry) → Covers d e → IsOneOf f (led_from m e o) → (c : Entry)
    × IsOneOf c (led_from m d o) × IsTrue (covers c f)
mono_from m None d e f h i = absurd i
mono_from m (Some n) d e f h i = let r = link_mono m n d e h f (link_of m n e f i) in (r.0, of_link m n d r.0 r.1, r.2)

pub graph_laws : (g : Nodes) (m : ℕ) → CoverLaws covers (node_exists g) (next g m)
graph_laws g m = record {
  itself = covers_itself;
  trans = covers_trans;
  alike = λ d e h. ap is_some (same_node g d e h);
  mono = λ d e f h i. subst (λ o. (c : Entry) × IsOneOf c (led_from m d o) × IsTrue (covers c f))
      (sym (same_node g d e h)) (mono_from m (node_at g e.id) d e f (opened d e h) i);
}

some_of : {A : Type 0} (o : Option A) → is_some o ≡ true → (x : A) × (o ≡ Some x)
some_of None h = cc
some_of (Some x) h = (x, refl)

-- legal paths are the paths over what entries lead to
pub path_of : (g : Nodes) (m : ℕ) (s e : Entry) → Legal g m s e → Path (node_exists g) (next g m) s e
path_of g m s e (begin t) = starting t
path_of g m s e (go_on {e = d} n p at l t) =
    more (path_of g m s d p) (subst (λ o. IsOneOf e (led_from m d o)) (sym at) (of_link m n d e l)) t

node_exists_at : (g : Nodes) (m : ℕ) (s e : Entry) → Path (node_exists g) (next g m) s e → IsTrue (node_exists g e)
node_exists_at g m s e (starting t) = t
node_exists_at g m s e (more p i t) = t

pub legal_of : (g : Nodes) (m : ℕ) (s e : Entry) → Path (node_exists g) (next g m) s e → Legal g m s e
legal_of g m s e (starting t) = begin t
legal_of g m s e (more {e = d} p i t) =
    let n = some_of (node_at g d.id) (node_exists_at g m s d p) in
    go_on n.0 (legal_of g m s d p) n.1 (link_of m n.0 d e (subst (λ o. IsOneOf e (led_from m d o)) n.1 i)) t

-- each entry of a legal path is covered by one that the walk expanded
pub walk_reaches : (g : Nodes) (m : ℕ) (s : Entry) (k : ℕ) → (run covers (node_exists g) (next g m) s k).stack ≡ []
    → (e : Entry) → Legal g m s e → Met covers (run covers (node_exists g) (next g m) s k).done e
walk_reaches g m s k is e p = run_reaches (graph_laws g m) s k is e (path_of g m s e p)

-- each entry that the walk expanded is on a legal path
pub walk_stays : (g : Nodes) (m : ℕ) (s : Entry) (k : ℕ) → (e : Entry)
    → IsOneOf e (run covers (node_exists g) (next g m) s k).done → Legal g m s e
walk_stays g m s k e i = legal_of g m s e ((run_on_paths covers (node_exists g) (next g m) s k).expanded e i)

pub legal_exists : (g : Nodes) (m : ℕ) (s e : Entry) → Legal g m s e → IsTrue (node_exists g e)
legal_exists g m s e (begin t) = t
legal_exists g m s e (go_on n p at l t) = t
