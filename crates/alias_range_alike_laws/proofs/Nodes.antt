-- Graphs that are alike: they differ in the spans of marks and in reasons of mutations alone, and walks go the same
-- ways.
use Rattle.std.specs.Prelude.{◌≡◌, ℕ, ◌+◌, ◌*◌, Bool, true, false, cond, List, [], ◌∷◌, Option, Some, None, is_some}
use Rattle.std.specs.Prelude.{refl}
use Rattle.std.proofs.Common.{ap, ◌∙◌}
use Rattle.alias_base.specs.declared.ids.IdentifierId.{IdentifierId}
use Rattle.alias_hir.specs.declared.effect.MutationReason.{MutationReason}
use Rattle.alias_hir.specs.declared.place.Span.{Span}
use Rattle.alias_graph.specs.declared.types.Entry.{Entry}
use Rattle.alias_graph.specs.declared.types.MutationInfo.{MutationInfo}
use Rattle.alias_graph.specs.declared.types.MutationKind.{MutationKind}
use Rattle.alias_graph.specs.declared.types.MutationKind.TheVariants.{Conditional, Definite}
use Rattle.alias_graph.specs.declared.types.Origin.{Origin}
use Rattle.alias_graph.specs.Graph.{changed}
use Rattle.alias_graph.specs.Links.{covers, next, node_exists, led_from, links_of, all_links, walk}
use Rattle.alias_graph.specs.NodeMarks.{later, first_reason, higher, remarked, info, marked_by, visited, marked}
use Rattle.alias_graph.specs.Nodes.{Node, Nodes, node_at, same_id}
use Rattle.alias_graph.specs.Walks.{run}
use Rattle.alias_certificate_laws.specs.accepting.Alike.{Paired, none, more, Maybe, nothing, just}

-- ---- what is alike

pub data AlikeInfo : MutationInfo → MutationInfo → Type 0 where
  of_info : (i : MutationInfo) (span : Option Span) → AlikeInfo i (record i { span = span })

-- the same but for reasons and spans of marks
pub data AlikeNode : Node → Node → Type 0 where
  of_node : (n : Node) (local transitive : Option MutationInfo) (reason : Option MutationReason)
      → Maybe AlikeInfo n.local local → Maybe AlikeInfo n.transitive transitive
      → AlikeNode n (record n { local = local; transitive = transitive; mutation_reason = reason })

pub data AlikeEntry : IdentifierId × Node → IdentifierId × Node → Type 0 where
  of_entry : (id : IdentifierId) (n m : Node) → AlikeNode n m → AlikeEntry (id, n) (id, m)

abbrev pub AlikeNodes : Nodes → Nodes → Type 0
AlikeNodes = Paired AlikeEntry

info_self : (o : Option MutationInfo) → Maybe AlikeInfo o o
info_self None = nothing
info_self (Some i) = just (of_info i i.span)

node_self : (n : Node) → AlikeNode n n
node_self n = of_node n n.local n.transitive n.mutation_reason (info_self n.local) (info_self n.transitive)

pub nodes_self : (g : Nodes) → AlikeNodes g g
nodes_self [] = none
nodes_self (e ∷ g) = more (of_entry e.0 e.1 e.1 (node_self e.1)) (nodes_self g)

-- ---- one node

chosen_node : (b : Bool) (n m : Node) (o p : Option Node) → AlikeNode n m → Maybe AlikeNode o p
    → Maybe AlikeNode (cond b (Some n) o) (cond b (Some m) p)
chosen_node true n m o p q r = just q
chosen_node false n m o p q r = r

pub node_alike : (g h : Nodes) (id : IdentifierId) → AlikeNodes g h → Maybe AlikeNode (node_at g id) (node_at h id)
node_alike g h id none = nothing
node_alike g h id (more {xs = us} {ys = vs} (of_entry x n m q) ps) =
    chosen_node (same_id id x) n m (node_at us id) (node_at vs id) q (node_alike us vs id ps)

chosen_nodes : (b : Bool) (g h g' h' : Nodes) → AlikeNodes g h → AlikeNodes g' h'
    → AlikeNodes (cond b g g') (cond b h h')
chosen_nodes true g h g' h' q r = q
chosen_nodes false g h g' h' q r = r

pub changed_alike : (id : IdentifierId) (f f' : Node → Node) → ((n m : Node) → AlikeNode n m → AlikeNode (f n) (f' m))
    → (g h : Nodes) → AlikeNodes g h → AlikeNodes (changed g id f) (changed h id f')
changed_alike id f f' each g h none = none
changed_alike id f f' each g h (more {xs = us} {ys = vs} (of_entry x n m q) ps) =
    chosen_nodes (same_id id x) ((x, f n) ∷ us) ((x, f' m) ∷ vs) ((x, n) ∷ changed us id f) ((x, m) ∷ changed vs id f')
    (more (of_entry x (f n) (f' m) (each n m q)) ps) (more (of_entry x n m q) (changed_alike id f f' each us vs ps))

-- ---- marks

higher_alike : (k l : MutationKind) (i j old other : MutationInfo) → AlikeInfo i j → AlikeInfo old other
    → AlikeInfo (higher i k l old) (higher j k l other)
higher_alike Definite Conditional i j old other q r = q
higher_alike Definite Definite i j old other q r = r
higher_alike Conditional l i j old other q r = r

remarked_alike : (i j : MutationInfo) (o p : Option MutationInfo) → AlikeInfo i j → Maybe AlikeInfo o p
    → Maybe AlikeInfo (remarked i o) (remarked j p)
remarked_alike i j o p q nothing = just q
remarked_alike i j o p (of_info _ span) (just (of_info old other)) =
    just (higher_alike i.kind old.kind i (record i { span = span }) old (record old { span = other }) (of_info i span)
    (of_info old other))

-- a node that is visited, as one of a transitive entry or not
abbrev visited_by : Bool → ℕ → MutationInfo → Option MutationReason → Node → Node
visited_by b index i reason n = record (marked_by b i n)
    { last_mutated = later index n.last_mutated; mutation_reason = first_reason reason n.mutation_reason }

visit_by : (b : Bool) (index : ℕ) (i j : MutationInfo) (reason other : Option MutationReason) (n m : Node)
    → AlikeInfo i j → AlikeNode n m → AlikeNode (visited_by b index i reason n) (visited_by b index j other m)
visit_by true index i j reason other n m a (of_node _ l t s ql qt) =
    of_node (visited_by true index i reason n) l (remarked j t) (first_reason other s) ql
    (remarked_alike i j n.transitive t a qt)
visit_by false index i j reason other n m a (of_node _ l t s ql qt) =
    of_node (visited_by false index i reason n) (remarked j l) t (first_reason other s)
    (remarked_alike i j n.local l a ql) qt

visit_alike : (index : ℕ) (o p : Origin) (e : Entry) (n m : Node) → AlikeNode n m
    → AlikeNode (visited index o e n) (visited index p e m)
visit_alike index o p e n m q = visit_by e.transitive index (info e.kind o.span) (info e.kind p.span) o.reason p.reason
    n m (of_info (info e.kind o.span) p.span) q

pub marked_alike : (index : ℕ) (o p : Origin) (g h : Nodes) (es : List Entry) → AlikeNodes g h
    → AlikeNodes (marked index o g es) (marked index p h es)
marked_alike index o p g h [] q = q
marked_alike index o p g h (e ∷ es) q = changed_alike e.id (visited index o e) (visited index p e)
    (visit_alike index o p e) (marked index o g es) (marked index p h es) (marked_alike index o p g h es q)

-- ---- walks

led_same : (m : ℕ) (e : Entry) (o p : Option Node) → Maybe AlikeNode o p → led_from m e p ≡ led_from m e o
led_same m e o p nothing = refl
led_same m e o p (just (of_node n l t r a b)) = refl

there_same : (o p : Option Node) → Maybe AlikeNode o p → is_some p ≡ is_some o
there_same o p nothing = refl
there_same o p (just q) = refl

links_same : (g h : Nodes) → AlikeNodes g h → all_links h ≡ all_links g
links_same g h none = refl
links_same g h (more {xs = us} {ys = vs} (of_entry x n m (of_node _ l t r a b)) ps) =
    ap (λ k. links_of n + k) (links_same us vs ps)

module _ (g h : Nodes) (q : AlikeNodes g h) where
  next_same : (m : ℕ) → next h m ≡ next g m
  next_same m = λ i e. led_same m e (node_at g e.id) (node_at h e.id) (node_alike g h e.id q) i

  exists_same : node_exists h ≡ node_exists g
  exists_same = λ i e. there_same (node_at g e.id) (node_at h e.id) (node_alike g h e.id q) i

  -- a walk goes the same way
  pub walk_same : (m : ℕ) (start : Entry) → walk h m start ≡ walk g m start
  walk_same m start =
      ap (λ (z : Entry → Bool). run covers z (next h m) start (1 + 8 * all_links h)) exists_same
      ∙ ap (λ (z : Entry → List Entry). run covers (node_exists g) z start (1 + 8 * all_links h)) (next_same m)
      ∙ ap (λ (z : ℕ). run covers (node_exists g) (next g m) start (1 + 8 * z)) (links_same g h q)
