-- What holds of the root of a unit that is inferred: of its range ends in the unit that is handed out, and of its
-- summary.
use Rattle.std.specs.Prelude.{false, List, Option, None, IsOkAnd, IsSomeAnd}
use Rattle.std.specs.List.{last_or}
use Rattle.alias_hir.specs.declared.effect.AliasingEffect.{AliasingEffect}
use Rattle.alias_hir.specs.declared.env.Identifier.{Identifier}
use Rattle.alias_hir.specs.declared.hir.HirFunction.{HirFunction}
use Rattle.alias_effects.specs.Inference.{env_inferred}
use Rattle.alias_effects.specs.Recording.{with_effects_of}
use Rattle.alias_ranges.specs.heap.Reading.{HeapIsCovered}
use Rattle.alias_ranges.specs.Ranges.{RangesCover, RangesHaveCauses, ListsFlows}
use Rattle.alias_nested.specs.declared.infer.Inferred.{Inferred}
use Rattle.alias_nested.specs.Analysis.{Analysed}
use Rattle.alias_nested.specs.Units.{RootAnalysis}

-- the root as its effects pass began: it is the last function that is analysed
abbrev pub root_of : List Analysed → Option Analysed
root_of fs = last_or None fs

-- a function as its range pass begins: with the effects of its solution on its instructions and terminals
abbrev pub with_effects : Analysed → HirFunction
with_effects x = with_effects_of x.solved x.func

-- each range end is that of when the root's range pass began, or has a cause in what the root records or in one of its
-- instructions
abbrev pub EndsHaveCauses : Analysed → List Identifier → Type 0
EndsHaveCauses x ids = IsOkAnd (env_inferred x.env x.func false)
    (λ begun. RangesHaveCauses (with_effects x) begun.identifiers ids)

-- each identifier that a legal path joins to a mutation that the root records has its range end past it, in the unit
-- that is handed out
abbrev pub RootIsCovered : List Analysed → Inferred → Type 0
RootIsCovered fs i = IsSomeAnd (root_of fs) (λ x. RangesCover (with_effects x) i.unit.env.identifiers)

-- along each path of the root's blocks, the range of each identifier that reaches a written object ends past the write,
-- in the unit that is handed out
abbrev pub RootCoversHeap : List Analysed → Inferred → Type 0
RootCoversHeap fs i = IsSomeAnd (root_of fs) (λ x. HeapIsCovered (with_effects x) i.unit.env.identifiers)

-- each range end in the unit that is handed out has a cause
abbrev pub RootHasCauses : List Analysed → Inferred → Type 0
RootHasCauses fs i = IsSomeAnd (root_of fs) (λ x. EndsHaveCauses x i.unit.env.identifiers)

-- the summary that is handed out ends with the root's flows
abbrev pub RootListsFlows : List Analysed → Inferred → Type 0
RootListsFlows fs i = IsSomeAnd (root_of fs) (λ x. ListsFlows (with_effects x) i.summary)

-- ---- the same while the unit is inferred

-- what holds of a root, of range ends and of a summary
pub record RootRanged (x : Analysed) (ids : List Identifier) (summary : List AliasingEffect) : Type 0 where
  pub cover : RangesCover (with_effects x) ids
  pub heap : HeapIsCovered (with_effects x) ids
  pub cause : EndsHaveCauses x ids
  pub flows : ListsFlows (with_effects x) summary

abbrev pub IsRanged : RootAnalysis → Type 0
IsRanged r = IsSomeAnd (root_of r.analysis.functions) (λ x. RootRanged x r.analysis.env.identifiers r.summary)
