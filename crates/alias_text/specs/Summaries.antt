-- The lines that are printed of the summaries of functions.
use Rattle.std.specs.Prelude.{ℕ, List, [], ◌++◌, codes, Option, None, Some, slice_get}
use Rattle.std.specs.List.{flat_map}
use Rattle.alias_base.specs.declared.ids.FunctionId.{FunctionId}
use Rattle.alias_hir.specs.declared.effect.AliasingEffect.{AliasingEffect}
use Rattle.alias_hir.specs.declared.env.Unit.{Unit as HirUnit}
use Rattle.alias_hir.specs.declared.hir.HirFunction.{HirFunction}
use Rattle.alias_text.specs.Lines.{effect_text, recorded}

-- the summary that was recorded of a function: none where it isn't there
abbrev pub recorded_summary : Option HirFunction → List AliasingEffect
recorded_summary None = []
recorded_summary (Some func) = recorded func.aliasing_effects

-- the summary of a function of the unit. That of the root, which is the function at None, is the given one
abbrev pub summary_of : HirUnit → List AliasingEffect → Option FunctionId → List AliasingEffect
summary_of u summary None = summary
summary_of u summary (Some f) = recorded_summary (slice_get u.env.functions f.0)

abbrev pub summary_line : AliasingEffect → List ℕ
summary_line effect = codes "summary " ++ effect_text effect ++ codes "\n"

abbrev pub summary_lines : List AliasingEffect → List ℕ
summary_lines effects = flat_map summary_line effects
