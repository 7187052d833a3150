-- Legal paths of a mutation.
use Rattle.std.specs.Prelude.{◌≡◌, ℕ, ◌<◌, true, Some, IsTrue}
use Rattle.alias_graph.specs.declared.types.MutationKind.TheVariants.{Conditional}
use Rattle.alias_graph.specs.declared.types.Direction.TheVariants.{Backwards, Forwards}
use Rattle.alias_graph.specs.declared.types.EdgeKind.TheVariants.{Capture, Alias, MaybeAlias}
use Rattle.alias_graph.specs.declared.types.NodeValue.TheVariants.{Phi}
use Rattle.alias_graph.specs.Nodes.{Edge}
use Rattle.alias_graph.specs.Nodes.{Source}
use Rattle.alias_graph.specs.declared.types.Entry.{Entry}
use Rattle.alias_graph.specs.Nodes.{Node}
use Rattle.alias_graph.specs.Walks.{IsOneOf}
use Rattle.alias_graph.specs.Links.{entry, node_exists}
use Rattle.alias_graph.specs.Nodes.{Nodes, node_at}

-- the node is no phi that was entered forwards
abbrev pub IsOpen : Node → Entry → Type 0
IsOpen n e = n.value ≡ Phi → e.direction ≡ Forwards → ⊥

-- a link of the node n that leads from the entry e to the entry f, for a mutation at m
pub data Link (m : ℕ) (n : Node) (e f : Entry) : Type 0 where
  forward_alias : (l : Edge) → IsOneOf l n.forward → l.index < m → l.kind ≡ Alias → f
      ≡ entry l.other e.transitive Forwards e.kind → Link m n e f
  forward_maybe_alias : (l : Edge) → IsOneOf l n.forward → l.index < m → l.kind ≡ MaybeAlias → f
      ≡ entry l.other e.transitive Forwards Conditional → Link m n e f
  forward_capture : (l : Edge) → IsOneOf l n.forward → l.index < m → l.kind ≡ Capture → f
      ≡ entry l.other e.transitive Backwards e.kind → Link m n e f
  created_from : (l : Source) → IsOneOf l n.created_from → l.index < m → f ≡ entry l.other true Backwards e.kind
      → Link m n e f
  alias : (l : Source) → IsOneOf l n.aliases → l.index < m → IsOpen n e → f
      ≡ entry l.other e.transitive Backwards e.kind → Link m n e f
  maybe_alias : (l : Source) → IsOneOf l n.maybe_aliases → l.index < m → IsOpen n e → f
      ≡ entry l.other e.transitive Backwards Conditional → Link m n e f
  capture : (l : Source) → IsOneOf l n.captures → l.index < m → e.transitive ≡ true → f
      ≡ entry l.other e.transitive Backwards e.kind → Link m n e f

-- a legal path from the first entry to the second
pub data Legal (g : Nodes) (m : ℕ) (start : Entry) : Entry → Type 0 where
  begin : IsTrue (node_exists g start) → Legal g m start start
  go_on : {e f : Entry} (n : Node) → Legal g m start e → node_at g e.id ≡ Some n → Link m n e f
      → IsTrue (node_exists g f) → Legal g m start f
