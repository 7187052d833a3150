-- What holds of a function's range ends, marks and summary after the range pass, by what its effects record.
use Rattle.std.specs.Prelude.{Bool, List, IsOkAnd}
use Rattle.alias_hir.specs.declared.effect.AliasingEffect.{AliasingEffect}
use Rattle.alias_hir.specs.declared.env.Environment.{Environment}
use Rattle.alias_hir.specs.declared.env.Identifier.{Identifier}
use Rattle.alias_hir.specs.declared.hir.HirFunction.{HirFunction}
use Rattle.alias_graph.specs.recorded.Recording.{graph_listed}
use Rattle.alias_range_pass.specs.summary.Laws.{Covers, SeesDefinite, EndsWithFlows}
use Rattle.alias_range_pass.specs.summary.Summaries.{tracked}
use Rattle.alias_range_pass.specs.summary.Walking.{mutations_done}
use Rattle.alias_range_pass.specs.Laws.{Causes}
use Rattle.alias_range_pass.specs.Passes.{records}
use Rattle.alias_range_pass.specs.Refusals.{recorded}

-- in the graph that the effects record, each identifier that a legal path joins to a recorded mutation has its range
-- end past it
abbrev pub RangesCover : HirFunction → List Identifier → Type 0
RangesCover f ids = IsOkAnd (recorded f) (λ l. Covers (graph_listed l) l.mutations ids)

-- where such a path ends with Definite, the node is marked as Definite after the walks
abbrev pub MarksAreDefinite : Bool → HirFunction → Environment → Type 0
MarksAreDefinite is_function_expression f env =
    IsOkAnd (recorded f) (λ l. SeesDefinite (graph_listed l) l.mutations
    (mutations_done (records is_function_expression env) l env).0)

-- each range end is that of before, or one past a recorded mutation that a legal path joins to the identifier, or one
-- past an instruction that assigns or stores it
abbrev pub RangesHaveCauses : HirFunction → List Identifier → List Identifier → Type 0
RangesHaveCauses f old new = IsOkAnd (recorded f) (λ l. Causes (graph_listed l) l.mutations f.instructions old new)

-- the summary ends with the flows between parameters, context places and what is returned, which are those of legal
-- paths
abbrev pub ListsFlows : HirFunction → List AliasingEffect → Type 0
ListsFlows f summary = IsOkAnd (recorded f) (λ l. EndsWithFlows (graph_listed l) l.next f.returns (tracked f) summary)
