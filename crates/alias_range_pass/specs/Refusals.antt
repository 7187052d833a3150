-- What the range pass refuses, before it changes anything.
use Rattle.std.specs.Prelude.{ℕ, ◌+◌, Bool, false, List, [], ◌∷◌, Option, Some, None, Result, Ok, Err, ⊤, if◌then◌else◌}
use Rattle.std.specs.Prelude.{nat_le, length, slice_get, codes}
use Rattle.std.specs.List.{list_any}
use Rattle.std.specs.Option.{option_map_or}
use Rattle.alias_base.specs.Answer.{◌>>=◌}
use Rattle.alias_base.specs.declared.ids.BlockId.{BlockId}
use Rattle.alias_base.specs.declared.ids.InstructionId.{InstructionId}
use Rattle.alias_hir.specs.declared.effect.AliasingEffect.{AliasingEffect}
use Rattle.alias_hir.specs.declared.error.Counter.TheVariants.{GraphPositions}
use Rattle.alias_hir.specs.declared.error.HirError.{HirError}
use Rattle.alias_hir.specs.declared.error.InferError.{InferError}
use Rattle.alias_hir.specs.declared.error.InferError.TheVariants.{UnreplacedApply, TooMany}
use Rattle.alias_hir.specs.declared.hir.BasicBlock.{BasicBlock}
use Rattle.alias_hir.specs.declared.hir.HirFunction.{HirFunction}
use Rattle.alias_hir.specs.declared.hir.Instruction.{Instruction}
use Rattle.alias_hir.specs.declared.report.ErrorCategory.TheVariants.{Invariant}
use Rattle.alias_hir.specs.declared.report.Report.{Report}
use Rattle.alias_hir.specs.Errors.{infer_error}
use Rattle.alias_rules.specs.Fitting.{is_apply}
use Rattle.alias_graph.specs.declared.recorded.listing.Listing.{Listing}
use Rattle.alias_graph.specs.recorded.BlockListings.{listed}
use Rattle.alias_range_pass.specs.summary.Summaries.{tracked}

-- ---- an Apply that is left

abbrev pub has_apply : Option (List AliasingEffect) → Bool
has_apply None = false
has_apply (Some es) = list_any is_apply es

abbrev pub carries_apply : List Instruction → InstructionId → Bool
carries_apply is id = option_map_or (λ (i : Instruction). has_apply i.effects) (slice_get is id.0) false

abbrev pub first_apply : List Instruction → List InstructionId → Option InstructionId
first_apply is [] = None
first_apply is (id ∷ ids) = if carries_apply is id then Some id else first_apply is ids

abbrev pub or_else : {A : Type 0} → Option A → Option A → Option A
or_else None o = o
or_else (Some x) o = Some x

abbrev pub first_apply_of : List Instruction → List (BlockId × BasicBlock) → Option InstructionId
first_apply_of is [] = None
first_apply_of is (b ∷ bs) = or_else (first_apply is b.1.instructions) (first_apply_of is bs)

-- the first instruction in stored order that carries Apply
abbrev pub unreplaced : HirFunction → Option InstructionId
unreplaced f = first_apply_of f.instructions f.body.blocks

abbrev pub apply_left_report : Report
apply_left_report = record {
  category = Invariant;
  message = codes "[AnalyzeFunctions] Expected Apply effects to be replaced with more precise effects";
  help = None;
  labels = [];
}

abbrev pub none_unreplaced : Option InstructionId → Result ⊤ InferError
none_unreplaced None = Ok tt
none_unreplaced (Some i) = Err (UnreplacedApply i apply_left_report)

-- ---- positions

abbrev pub listing_or : Result Listing HirError → Result Listing InferError
listing_or (Ok l) = Ok l
listing_or (Err e) = Err (infer_error e)

-- n further positions, of 4,294,967,295
abbrev pub positions_left : ℕ → ℕ → Result ⊤ InferError
positions_left next n = if nat_le (next + n) 4294967295 then Ok tt else Err (TooMany GraphPositions)

-- what the effects record, where none is Apply, and there is a position for each tracked place
abbrev pub recorded : HirFunction → Result Listing InferError
recorded f = do
  replaced ← none_unreplaced (unreplaced f)
  l ← listing_or (listed f)
  left ← positions_left l.next (length (tracked f))
  Ok l
