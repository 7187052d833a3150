-- The part of a graph that is walked for what can be seen.
use Rattle.std.specs.Prelude.{◌≡◌, Bool, true, false, IsTrue, List, [], Some}
use Rattle.alias_base.specs.declared.ids.IdentifierId.{IdentifierId}
use Rattle.alias_hir.specs.declared.env.Environment.{Environment}
use Rattle.alias_graph.specs.Nodes.{Edge, Source, Node, Nodes, node_at, has_node, SameIds}
use Rattle.alias_graph.specs.Reports.{value_reports}
use Rattle.alias_graph.specs.Walks.{IsOneOf}

-- each link of the node leads to an identifier that is outside of the part
pub record LeadsOut (keep : IdentifierId → Bool) (n : Node) : Type 0 where
  pub forward : (l : Edge) → IsOneOf l n.forward → keep l.other ≡ false
  pub created_from : (l : Source) → IsOneOf l n.created_from → keep l.other ≡ false
  pub captures : (l : Source) → IsOneOf l n.captures → keep l.other ≡ false
  pub aliases : (l : Source) → IsOneOf l n.aliases → keep l.other ≡ false
  pub maybe_aliases : (l : Source) → IsOneOf l n.maybe_aliases → keep l.other ≡ false

pub record HasNoLink (n : Node) : Type 0 where
  pub forward : n.forward ≡ []
  pub created_from : n.created_from ≡ []
  pub captures : n.captures ≡ []
  pub aliases : n.aliases ≡ []
  pub maybe_aliases : n.maybe_aliases ≡ []

-- The same nodes, alike in the part. In the first graph no link leads into the part from outside, and in the second
-- there is none outside.
pub record SamePart (keep : IdentifierId → Bool) (g h : Nodes) : Type 0 where
  pub ids : SameIds g h
  pub alike : (id : IdentifierId) → keep id ≡ true → node_at h id ≡ node_at g id
  pub outside : (id : IdentifierId) (n : Node) → node_at g id ≡ Some n → keep id ≡ false → LeadsOut keep n
  pub cut_off : (id : IdentifierId) (n : Node) → node_at h id ≡ Some n → keep id ≡ false → HasNoLink n

-- no node outside of the part has a report
abbrev pub IsQuiet : (IdentifierId → Bool) → Environment → Nodes → Type 0
IsQuiet keep env g = (id : IdentifierId) (n : Node) → node_at g id ≡ Some n → keep id ≡ false
    → value_reports env n.value ≡ []

-- a graph cut off to a part in which these identifiers are, and, where errors are recorded, all nodes with reports
pub record CutOff (record_errors : Bool) (env : Environment) (targets : List IdentifierId) (old new : Nodes) : Type
    0 where
  pub keep : IdentifierId → Bool
  pub part : SamePart keep old new
  pub kept : (id : IdentifierId) → IsOneOf id targets → IsTrue (has_node old id) → keep id ≡ true
  pub quiet : record_errors ≡ true → IsQuiet keep env old × IsQuiet keep env new
