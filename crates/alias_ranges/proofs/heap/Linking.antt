-- Links that stand in the lists of both of their ends before a position, chains of them, and that a graph that grows
-- keeps both.
use Rattle.std.proofs.Common.{◌≡◌, ℕ, ◌<◌, ◌≤◌, Bool, true, List, Option, Some, None, is_some, refl, ap, subst, arith}
use Rattle.alias_base.specs.declared.ids.IdentifierId.{IdentifierId}
use Rattle.alias_graph.specs.declared.types.Direction.{Direction}
use Rattle.alias_graph.specs.declared.types.Direction.TheVariants.{Backwards, Forwards}
use Rattle.alias_graph.specs.declared.types.EdgeKind.{EdgeKind}
use Rattle.alias_graph.specs.declared.types.EdgeKind.TheVariants.{Capture, Alias, MaybeAlias}
use Rattle.alias_graph.specs.declared.types.Entry.{Entry}
use Rattle.alias_graph.specs.declared.types.MutationKind.{MutationKind}
use Rattle.alias_graph.specs.declared.types.MutationKind.TheVariants.{Conditional}
use Rattle.alias_graph.specs.Legal.{Link, Legal, go_on, forward_alias, forward_maybe_alias, forward_capture}
use Rattle.alias_graph.specs.Legal.{created_from, alias, maybe_alias, capture}
use Rattle.alias_graph.specs.Links.{entry}
use Rattle.alias_graph.specs.Nodes.{Edge, Source, Node, Nodes, node_at, has_node}
use Rattle.alias_graph.specs.Walks.{IsOneOf}

-- ---- links

pub data LinkKind : Type 0 where
  CreatedLink : LinkKind
  CaptureLink : LinkKind
  AliasLink : LinkKind
  MaybeLink : LinkKind

-- a CreateFrom is an alias in a forward list
abbrev pub edge_kind : LinkKind → EdgeKind
edge_kind CreatedLink = Alias
edge_kind CaptureLink = Capture
edge_kind AliasLink = Alias
edge_kind MaybeLink = MaybeAlias

abbrev pub sources_of : LinkKind → Node → List Source
sources_of CreatedLink n = n.created_from
sources_of CaptureLink n = n.captures
sources_of AliasLink n = n.aliases
sources_of MaybeLink n = n.maybe_aliases

-- an edge from a to x stands before n
pub record HasEdge (g : Nodes) (n : ℕ) (k : EdgeKind) (a x : IdentifierId) : Type 0 where
  pub node : Node
  pub is_node : node_at g a ≡ Some node
  pub edge : Edge
  pub listed : IsOneOf edge node.forward
  pub before : edge.index < n
  pub kind : edge.kind ≡ k
  pub other : edge.other ≡ x

-- a source a of x stands before n
pub record HasSource (g : Nodes) (n : ℕ) (k : LinkKind) (a x : IdentifierId) : Type 0 where
  pub node : Node
  pub is_node : node_at g x ≡ Some node
  pub source : Source
  pub listed : IsOneOf source (sources_of k node)
  pub before : source.index < n
  pub other : source.other ≡ a

-- the link stands in the lists of both ends
pub record Joins (g : Nodes) (n : ℕ) (k : LinkKind) (a x : IdentifierId) : Type 0 where
  pub forward : HasEdge g n (edge_kind k) a x
  pub back : HasSource g n k a x

has_at : (g : Nodes) (q : IdentifierId) (n : Node) → node_at g q ≡ Some n → has_node g q ≡ true
has_at g q n e = ap is_some e

pub from_there : (g : Nodes) (n : ℕ) (k : LinkKind) (a x : IdentifierId) → Joins g n k a x → has_node g a ≡ true
from_there g n k a x j = has_at g a j.forward.node j.forward.is_node

pub into_there : (g : Nodes) (n : ℕ) (k : LinkKind) (a x : IdentifierId) → Joins g n k a x → has_node g x ≡ true
into_there g n k a x j = has_at g x j.back.node j.back.is_node

-- ---- growing

-- the second node has all links of the first
pub record NodeGrows (v w : Node) : Type 0 where
  pub forward : (l : Edge) → IsOneOf l v.forward → IsOneOf l w.forward
  pub sources : (k : LinkKind) (l : Source) → IsOneOf l (sources_of k v) → IsOneOf l (sources_of k w)

-- the second graph has all nodes and links of the first
abbrev pub Grows : Nodes → Nodes → Type 0
Grows g h = (q : IdentifierId) (v : Node) → node_at g q ≡ Some v → (w : Node) × (node_at h q ≡ Some w) × NodeGrows v w

pub node_same : (v : Node) → NodeGrows v v
node_same v = record { forward = λ l i. i; sources = λ k l i. i }

pub node_grows : (u v w : Node) → NodeGrows u v → NodeGrows v w → NodeGrows u w
node_grows u v w a b = record {
  forward = λ l i. b.forward l (a.forward l i);
  sources = λ k l i. b.sources k l (a.sources k l i);
}

pub grows_same : (g : Nodes) → Grows g g
grows_same g q v e = (v, e, node_same v)

pub grows_on : (g h k : Nodes) → Grows g h → Grows h k → Grows g k
grows_on g h k a b q v e =
    let x = a q v e in
    let y = b q x.0 x.1 in
    (y.0, y.1, node_grows v x.0 y.0 x.2 y.2)

some_node : (o : Option Node) → is_some o ≡ true → (n : Node) × (o ≡ Some n)
some_node None h = cc
some_node (Some n) h = (n, refl)

-- the node that is there
pub node_of : (g : Nodes) (q : IdentifierId) → has_node g q ≡ true → (n : Node) × (node_at g q ≡ Some n)
node_of g q h = some_node (node_at g q) h

pub grows_has : (g h : Nodes) → Grows g h → (q : IdentifierId) → has_node g q ≡ true → has_node h q ≡ true
grows_has g h gr q t =
    let n = node_of g q t in
    let w = gr q n.0 n.1 in
    has_at h q w.0 w.1

edge_grows : (g h : Nodes) (n m : ℕ) (k : EdgeKind) (a x : IdentifierId) → Grows g h → n ≤ m → HasEdge g n k a x
    → HasEdge h m k a x
edge_grows g h n m k a x gr le s =
    let w = gr a s.node s.is_node in
    let lt : s.edge.index < n = s.before in
    record {
      node = w.0;
      is_node = w.1;
      edge = s.edge;
      listed = w.2.forward s.edge s.listed;
      before = omega arith;
      kind = s.kind;
      other = s.other;
    }

source_grows : (g h : Nodes) (n m : ℕ) (k : LinkKind) (a x : IdentifierId) → Grows g h → n ≤ m → HasSource g n k a x
    → HasSource h m k a x
source_grows g h n m k a x gr le s =
    let w = gr x s.node s.is_node in
    let lt : s.source.index < n = s.before in
    record {
      node = w.0;
      is_node = w.1;
      source = s.source;
      listed = w.2.sources k s.source s.listed;
      before = omega arith;
      other = s.other;
    }

pub joins_grow : (g h : Nodes) (n m : ℕ) (k : LinkKind) (a x : IdentifierId) → Grows g h → n ≤ m → Joins g n k a x
    → Joins h m k a x
joins_grow g h n m k a x gr le j = record
    { forward = edge_grows g h n m (edge_kind k) a x gr le j.forward; back = source_grows g h n m k a x gr le j.back }

-- ---- chains

abbrev pub IsAlias : LinkKind → Type 0
IsAlias CreatedLink = Unit {0}
IsAlias CaptureLink = ⊥
IsAlias AliasLink = Unit {0}
IsAlias MaybeLink = Unit {0}

-- links from r to a place, all before n, none of them a capture
pub data Chain (g : Nodes) (n : ℕ) (r : IdentifierId) : IdentifierId → Type 0 where
  here : Chain g n r r
  further : (a x : IdentifierId) (k : LinkKind) → Chain g n r a → IsAlias k → Joins g n k a x → Chain g n r x

pub chain_grows : (g h : Nodes) (n m : ℕ) (r y : IdentifierId) → Grows g h → n ≤ m → Chain g n r y → Chain h m r y
chain_grows g h n m r _ gr le here = here
chain_grows g h n m r _ gr le (further a x k c al j) =
    further a x k (chain_grows g h n m r a gr le c) al (joins_grow g h n m k a x gr le j)

-- a capture of a place that may hold what began at q, into one that may hold what began at o
pub record StoreLink (g : Nodes) (n : ℕ) (o q : IdentifierId) : Type 0 where
  pub from : IdentifierId
  pub into : IdentifierId
  pub captured : Joins g n CaptureLink from into
  pub value : Chain g n q from
  pub holder : Chain g n o into

pub store_grows : (g h : Nodes) (n m : ℕ) (o q : IdentifierId) → Grows g h → n ≤ m → StoreLink g n o q
    → StoreLink h m o q
store_grows g h n m o q gr le s = record {
  from = s.from;
  into = s.into;
  captured = joins_grow g h n m CaptureLink s.from s.into gr le s.captured;
  value = chain_grows g h n m q s.from gr le s.value;
  holder = chain_grows g h n m o s.into gr le s.holder;
}

-- ---- legal paths over them

-- a legal path to x leads on over a forward edge
edge_step : (g : Nodes) (m : ℕ) (start : Entry) (k : EdgeKind) (a x : IdentifierId) (t : Bool) (b c : Direction)
    (d f : MutationKind)
    → ((l : Edge) → l.index < m → l.kind ≡ k → (v : Node) → IsOneOf l v.forward
    → Link m v (entry a t b d) (entry l.other t c f))
    → HasEdge g m k a x → has_node g x ≡ true → Legal g m start (entry a t b d) → Legal g m start (entry x t c f)
edge_step g m start k a x t b c d f link s there p =
    let P : IdentifierId → Type 0 = λ z. Link m s.node (entry a t b d) (entry z t c f) in
    go_on s.node p s.is_node (subst P s.other (link s.edge s.before s.kind s.node s.listed)) there

-- and back to one of its sources
source_step : (g : Nodes) (m : ℕ) (start : Entry) (k : LinkKind) (a x : IdentifierId) (t u : Bool) (b : Direction)
    (d f : MutationKind)
    → ((l : Source) → l.index < m → (v : Node) → IsOneOf l (sources_of k v)
    → Link m v (entry x t b d) (entry l.other u Backwards f))
    → HasSource g m k a x → has_node g a ≡ true → Legal g m start (entry x t b d)
    → Legal g m start (entry a u Backwards f)
source_step g m start k a x t u b d f link s there p =
    let P : IdentifierId → Type 0 = λ z. Link m s.node (entry x t b d) (entry z u Backwards f) in
    go_on s.node p s.is_node (subst P s.other (link s.source s.before s.node s.listed)) there

module _ (g : Nodes) (m : ℕ) (start : Entry) where
  -- a path goes on to an entry of the node y that is Backwards, and its flag stays set
  abbrev pub BackAt : Bool → IdentifierId → Type 0
  BackAt t y = (u : Bool) × (d : MutationKind) × Legal g m start (entry y u Backwards d) × (t ≡ true → u ≡ true)

  back_step : (k : LinkKind) (a x : IdentifierId) (t : Bool) (d : MutationKind) → IsAlias k → Joins g m k a x
      → Legal g m start (entry x t Backwards d) → BackAt t a
  back_step CreatedLink a x t d al j p = (
    true,
    d,
    source_step g m start CreatedLink a x t true Backwards d d (λ l lt v i. created_from l i lt refl) j.back
        (from_there g m CreatedLink a x j) p,
    λ h. refl,
  )
  back_step CaptureLink a x t d al j p = absurd al
  back_step AliasLink a x t d al j p = (
    t,
    d,
    source_step g m start AliasLink a x t t Backwards d d (λ l lt v i. alias l i lt (λ is r. cc) refl) j.back
        (from_there g m AliasLink a x j) p,
    λ h. h,
  )
  back_step MaybeLink a x t d al j p = (
    t,
    Conditional,
    source_step g m start MaybeLink a x t t Backwards d Conditional
        (λ l lt v i. maybe_alias l i lt (λ is r. cc) refl) j.back (from_there g m MaybeLink a x j) p,
    λ h. h,
  )

  -- a path goes on to an entry of the node y with this flag
  abbrev pub At : Bool → IdentifierId → Type 0
  At t y = (b : Direction) × (d : MutationKind) × Legal g m start (entry y t b d)

  forward_step : (k : LinkKind) (a x : IdentifierId) (t : Bool) (b : Direction) (d : MutationKind) → IsAlias k
      → Joins g m k a x → Legal g m start (entry a t b d) → At t x
  forward_step CreatedLink a x t b d al j p = (
    Forwards,
    d,
    edge_step g m start Alias a x t b Forwards d d (λ l lt is v i. forward_alias l i lt is refl)
        j.forward (into_there g m CreatedLink a x j) p,
  )
  forward_step CaptureLink a x t b d al j p = absurd al
  forward_step AliasLink a x t b d al j p = (
    Forwards,
    d,
    edge_step g m start Alias a x t b Forwards d d (λ l lt is v i. forward_alias l i lt is refl)
        j.forward (into_there g m AliasLink a x j) p,
  )
  forward_step MaybeLink a x t b d al j p = (
    Forwards,
    Conditional,
    edge_step g m start MaybeAlias a x t b Forwards d Conditional
        (λ l lt is v i. forward_maybe_alias l i lt is refl) j.forward (into_there g m MaybeLink a x j) p,
  )

  -- forward over a capture, which enters Backwards
  pub into_holder : (a x : IdentifierId) (t : Bool) (b : Direction) (d : MutationKind) → Joins g m CaptureLink a x
      → Legal g m start (entry a t b d) → Legal g m start (entry x t Backwards d)
  into_holder a x t b d j p =
      edge_step g m start Capture a x t b Backwards d d (λ l lt is v i. forward_capture l i lt is refl) j.forward
      (into_there g m CaptureLink a x j) p

  -- back over a capture, with the flag set
  pub into_stored : (a x : IdentifierId) (b : Direction) (d : MutationKind) → Joins g m CaptureLink a x
      → Legal g m start (entry x true b d) → Legal g m start (entry a true Backwards d)
  into_stored a x b d j p =
      source_step g m start CaptureLink a x true true b d d (λ l lt v i. capture l i lt refl refl) j.back
      (from_there g m CaptureLink a x j) p

  -- Backwards from a place to where its chain began
  pub back_along : (r y : IdentifierId) → Chain g m r y → (t : Bool) (d : MutationKind)
      → Legal g m start (entry y t Backwards d) → BackAt t r
  back_along r _ here t d p = (t, d, p, λ h. h)
  back_along r _ (further a x k c al j) t d p =
      let s = back_step k a x t d al j p in
      let w = back_along r a c s.0 s.1 s.2 in
      (w.0, w.1, w.2, λ h. w.3 (s.3 h))

  -- and from there to a place that its chain leads to
  pub along : (r y : IdentifierId) → Chain g m r y → (t : Bool) (b : Direction) (d : MutationKind)
      → Legal g m start (entry r t b d) → At t y
  along r _ here t b d p = (b, d, p)
  along r _ (further a x k c al j) t b d p =
      let w = along r a c t b d p in
      forward_step k a x t w.0 w.1 al j w.2
