-- What the range pass leaves of a function that the inference takes.
use Rattle.std.specs.Prelude.{Bool}
use Rattle.alias_ranges.specs.heap.Reading.{HeapIsCovered}
use Rattle.alias_hir.specs.declared.env.Environment.{Environment}
use Rattle.alias_hir.specs.declared.hir.HirFunction.{HirFunction}
use Rattle.alias_ranges.specs.Ranges.{RangesCover, MarksAreDefinite, RangesHaveCauses, ListsFlows}
use Rattle.alias_range_pass.specs.Passes.{Ranged}

-- ranges cover what the function records, and the heap; what legal paths lead to with Definite is marked so; each end
-- is that of before or has a cause; and the summary ends with the flows
pub record LeavesRanges (is_function_expression : Bool) (f : HirFunction) (env : Environment) (r : Ranged)
    : Type 0 where
  pub cover : RangesCover f r.after.1.identifiers
  pub definite : MarksAreDefinite is_function_expression f env
  pub heap : HeapIsCovered f r.after.1.identifiers
  pub cause : RangesHaveCauses f env.identifiers r.after.1.identifiers
  pub flows : ListsFlows f r.summary
