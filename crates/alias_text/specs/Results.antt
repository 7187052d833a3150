-- The text of what was inferred of a unit.
use Rattle.std.specs.Prelude.{ℕ, List, [], ◌++◌, Option, None, Some, slice_get}
use Rattle.std.specs.List.{flat_map}
use Rattle.alias_base.specs.Find.{value_at}
use Rattle.alias_base.specs.declared.ids.FunctionId.{FunctionId}
use Rattle.alias_hir.specs.declared.effect.AliasingEffect.{AliasingEffect}
use Rattle.alias_hir.specs.declared.env.Unit.{Unit as HirUnit}
use Rattle.alias_hir.specs.declared.hir.HirFunction.{HirFunction}
use Rattle.alias_hir.specs.declared.report.Report.{Report}
use Rattle.alias_effects.specs.declared.solved.BlockEntry.{BlockEntry}
use Rattle.alias_effects.specs.declared.solved.Solved.{Solved}
use Rattle.alias_text.specs.declared.detail.Detail.{Detail}
use Rattle.alias_text.specs.declared.detail.Detail.TheVariants.{Infer, Certify, Counts}
use Rattle.alias_text.specs.Certificates.{state_lines, visits_line, table_lines}
use Rattle.alias_text.specs.Counts.{counts_text}
use Rattle.alias_text.specs.Lines.{function_head, block_head, block_lines}
use Rattle.alias_text.specs.Ranges.{ranges_text}
use Rattle.alias_text.specs.Reports.{reports_text}
use Rattle.alias_text.specs.Summaries.{summary_of, summary_lines}

-- the function of a unit with this number, which is the root at None
abbrev pub function_of : HirUnit → Option FunctionId → Option HirFunction
function_of u None = Some u.function
function_of u (Some f) = slice_get u.env.functions f.0

-- what only `certify` prints
abbrev pub certify_only : Detail → List ℕ → List ℕ
certify_only Infer text = []
certify_only Certify text = text
certify_only Counts text = []

-- the block's line, the lines of its entry state, and those of its effects
abbrev pub entry_text : Detail → HirFunction → BlockEntry → List ℕ
entry_text detail func e = block_head e.block ++ certify_only detail (state_lines e.state)
    ++ block_lines func.instructions (value_at func.body.blocks e.block)

abbrev pub blocks_text : Detail → HirFunction → List BlockEntry → List ℕ
blocks_text detail func entries = flat_map (entry_text detail func) entries

-- a function that isn't there has no blocks
abbrev pub found_text : Detail → Option HirFunction → List BlockEntry → List ℕ
found_text detail None entries = []
found_text detail (Some func) entries = blocks_text detail func entries

-- the lines of the function that was solved, of its visits, its reached blocks and its tables, and then its summary.
-- `summary` is that of the root
abbrev pub function_text : Detail → HirUnit → List AliasingEffect → Solved → List ℕ
function_text detail u summary s =
    function_head s.function ++ certify_only detail (visits_line s.visits)
    ++ found_text detail (function_of u s.function) s.entries ++ certify_only detail (table_lines s)
    ++ summary_lines (summary_of u summary s.function)

-- the functions in the order in which they were solved
abbrev pub functions_text : Detail → HirUnit → List AliasingEffect → List Solved → List ℕ
functions_text detail u summary solved = flat_map (function_text detail u summary) solved

-- the functions, the mutable ranges and the reports
abbrev pub listing_text : Detail → HirUnit → List Solved → List AliasingEffect → List Report → List ℕ
listing_text detail u solved summary reports = functions_text detail u summary solved ++ ranges_text u.env.identifiers
    ++ reports_text reports

-- what was inferred, in this detail
abbrev pub result_text : Detail → HirUnit → List Solved → List AliasingEffect → List Report → List ℕ
result_text Infer u solved summary reports = listing_text Infer u solved summary reports
result_text Certify u solved summary reports = listing_text Certify u solved summary reports
result_text Counts u solved summary reports = counts_text u solved reports
