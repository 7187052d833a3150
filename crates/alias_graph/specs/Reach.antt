-- What holds after a walk, by legal paths.
use Rattle.std.specs.Prelude.{◌≡◌, ℕ, ◌<◌, ◌≤◌, ◌⊎◌, Bool, true, false, cond, ◌==◌, IsTrue, List, Option, Some, None}
use Rattle.std.specs.Prelude.{slice_get, option_map}
use Rattle.alias_base.specs.declared.ids.IdentifierId.{IdentifierId}
use Rattle.alias_base.specs.declared.ids.EvaluationOrder.{EvaluationOrder}
use Rattle.alias_hir.specs.declared.env.Identifier.{Identifier}
use Rattle.alias_hir.specs.declared.place.Span.{Span}
use Rattle.alias_graph.specs.declared.types.MutationKind.{MutationKind}
use Rattle.alias_graph.specs.declared.types.MutationKind.TheVariants.{Definite}
use Rattle.alias_graph.specs.declared.types.MutationInfo.{MutationInfo}
use Rattle.alias_graph.specs.declared.types.Entry.{Entry}
use Rattle.alias_graph.specs.Nodes.{Node, Nodes, node_at}
use Rattle.alias_graph.specs.Walks.{IsOneOf, AllNew, total}
use Rattle.alias_graph.specs.Links.{covers, at_least, is_definite}
use Rattle.alias_graph.specs.NodeMarks.{info}
use Rattle.alias_graph.specs.Legal.{Legal}

abbrev pub once : Bool → ℕ
once b = cond b 1 0

-- how many of the entries are at the node of the identifier
abbrev pub times : IdentifierId → List Entry → ℕ
times id es = total (λ e. once (e.id.0 == id.0)) es

-- the walk expanded entries of legal paths alone, and for each entry of a legal path one at its node with at least its
-- kind, its flag and its direction; no entry that an earlier one equals or passes; and none of a node more than eight
-- times
pub record Visits (g : Nodes) (m : ℕ) (start : Entry) (done : List Entry) : Type 0 where
  pub legal : (e : Entry) → IsOneOf e done → Legal g m start e
  pub reached : (e : Entry) → Legal g m start e → (d : Entry) × IsOneOf d done × IsTrue (covers d e)
  pub new : AllNew covers done
  pub eight : (id : IdentifierId) → times id done ≤ 8

abbrev pub end_of : Option Identifier → ℕ
end_of None = 0
end_of (Some x) = x.mutable_range.end.0

-- the end of an identifier's range, 0 where there is none
abbrev pub end_at : List Identifier → ℕ → ℕ
end_at xs i = end_of (slice_get xs i)

abbrev pub AtLeast : Option EvaluationOrder → ℕ → Type 0
AtLeast None x = Unit {0}
AtLeast (Some end) x = end.0 ≤ x

-- a given end is reached at each node of a legal path
abbrev pub Covered : Nodes → ℕ → Entry → Option EvaluationOrder → List Identifier → Type 0
Covered g m start end xs = (e : Entry) → Legal g m start e → AtLeast end (end_at xs e.id.0)

-- all of an identifier but the end of its range
abbrev pub but_end : Identifier → Identifier
but_end x = record x { mutable_range = record x.mutable_range { end = record { 0 = 0 } } }

-- no end falls, nothing but ends changes, and an identifier that changed is on a legal path and has the given end
pub record Caused (g : Nodes) (m : ℕ) (start : Entry) (end : Option EvaluationOrder) (old new : List Identifier) : Type
    0 where
  pub kept : (i : ℕ) → end_at old i ≤ end_at new i
  pub rest : (i : ℕ) → option_map but_end (slice_get new i) ≡ option_map but_end (slice_get old i)
  pub cause : (i : ℕ) → (slice_get new i ≡ slice_get old i)
      ⊎ ((v : EvaluationOrder) × (end ≡ Some v) × (end_at new i ≡ v.0) × (e : Entry) × (e.id.0 ≡ i) × Legal g m start e)

abbrev pub IsDefiniteMark : Option MutationInfo → Type 0
IsDefiniteMark mark = (i : MutationInfo) × (mark ≡ Some i) × (i.kind ≡ Definite)

-- a mark of the node is definite
abbrev pub SeenDefinite : Nodes → IdentifierId → Type 0
SeenDefinite g id = (n : Node) × (node_at g id ≡ Some n) × (IsDefiniteMark n.transitive ⊎ IsDefiniteMark n.local)

abbrev pub MutatedAt : ℕ → Node → Type 0
MutatedAt m n = (k : ℕ) × (n.last_mutated ≡ Some k) × (m ≤ k)

abbrev pub Reached : Nodes → ℕ → IdentifierId → Type 0
Reached g m id = (n : Node) × (node_at g id ≡ Some n) × MutatedAt m n

-- what the marks are after the walk
pub record Marks (old : Nodes) (m : ℕ) (start : Entry) (new : Nodes) : Type 0 where
  pub reached : (e : Entry) → Legal old m start e → Reached new m e.id
  pub definite : (e : Entry) → Legal old m start e → e.kind ≡ Definite → SeenDefinite new e.id
  pub untouched : (id : IdentifierId) → ((e : Entry) → Legal old m start e → e.id.0 ≡ id.0 → ⊥) → node_at new id
      ≡ node_at old id

-- the mark is there, and is at least as high as the kind
abbrev pub MarkedAs : MutationKind → Option MutationInfo → Type 0
MarkedAs k mark = (i : MutationInfo) × (mark ≡ Some i) × IsTrue (at_least (is_definite i.kind) (is_definite k))

-- the mark is that of before, or that of an entry of a legal path with this flag
abbrev pub MarkCause : Nodes → ℕ → Entry → Option Span → Bool → IdentifierId → Option MutationInfo → Option MutationInfo
    → Type 0
MarkCause g m start span flag id before after = (after ≡ before)
    ⊎ ((e : Entry) × (e.id.0 ≡ id.0) × (e.transitive ≡ flag) × (after ≡ Some (info e.kind span)) × Legal g m start e)

-- a transitive entry of a legal path leaves a transitive mark, and each mark has its cause
pub record Kinds (old : Nodes) (m : ℕ) (start : Entry) (span : Option Span) (new : Nodes) : Type 0 where
  pub transitive : (e : Entry) → Legal old m start e → e.transitive ≡ true → (n : Node) × (node_at new e.id ≡ Some n)
      × MarkedAs e.kind n.transitive
  pub transitive_cause : (id : IdentifierId) (n w : Node) → node_at old id ≡ Some n → node_at new id ≡ Some w
      → MarkCause old m start span true id n.transitive w.transitive
  pub local_cause : (id : IdentifierId) (n w : Node) → node_at old id ≡ Some n → node_at new id ≡ Some w
      → MarkCause old m start span false id n.local w.local

-- the last position of the node is m
abbrev pub EndsAt : Nodes → ℕ → IdentifierId → Type 0
EndsAt g m id = (n : Node) × (node_at g id ≡ Some n) × (n.last_mutated ≡ Some m)

-- all last positions are before m
abbrev pub AllMutatedBefore : Nodes → ℕ → Type 0
AllMutatedBefore g m = (id : IdentifierId) (n : Node) (k : ℕ) → node_at g id ≡ Some n → n.last_mutated ≡ Some k → k < m

-- the nodes whose last position is this walk's are those that legal paths lead to
pub record Flows (old : Nodes) (m : ℕ) (start : Entry) (new : Nodes) : Type 0 where
  pub listed : (id : IdentifierId) → EndsAt new m id → (e : Entry) × (e.id.0 ≡ id.0) × Legal old m start e
  pub all : (e : Entry) → Legal old m start e → EndsAt new m e.id
