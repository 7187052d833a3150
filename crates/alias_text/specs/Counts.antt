-- The lines that are printed of a unit's size, and of what was inferred of it.
use Rattle.std.specs.Prelude.{ℕ, ◌+◌, List, ◌++◌, codes, length, sum_by, count_by}
use Rattle.alias_step.specs.declared.block.recorded.InstructionEffects.{InstructionEffects}
use Rattle.alias_step.specs.declared.block.recorded.TerminalEffects.{TerminalEffects}
use Rattle.alias_hir.specs.declared.env.Identifier.{Identifier}
use Rattle.alias_hir.specs.declared.env.Unit.{Unit as HirUnit}
use Rattle.alias_hir.specs.declared.report.Report.{Report}
use Rattle.alias_effects.specs.declared.solved.Solved.{Solved}
use Rattle.alias_text.specs.Lines.{spaced}
use Rattle.alias_text.specs.Ranges.{has_range}

-- what was recorded of these instructions
abbrev pub instruction_effects : List InstructionEffects → ℕ
instruction_effects recorded = sum_by (λ (r : InstructionEffects). length r.effects) recorded

-- what was recorded of these terminals
abbrev pub terminal_effects : List TerminalEffects → ℕ
terminal_effects recorded = sum_by (λ (r : TerminalEffects). length r.effects) recorded

-- how many effects were recorded of a function, those of terminals among them
abbrev pub effects_of : Solved → ℕ
effects_of s = instruction_effects s.effects + terminal_effects s.terminal_effects

abbrev pub visits_of : Solved → ℕ
visits_of s = length s.visits

-- how many of the identifiers have another range than 0..0
abbrev pub range_count : List Identifier → ℕ
range_count identifiers = count_by (λ (i : Identifier). has_range i.mutable_range) identifiers

abbrev pub count_line : List ℕ → ℕ → List ℕ
count_line name count = name ++ spaced count ++ codes "\n"

-- the blocks and instructions of the root
abbrev pub size_lines : HirUnit → List ℕ
size_lines u = count_line (codes "blocks") (length u.function.body.blocks)
    ++ count_line (codes "instructions") (length u.function.instructions)

-- the effects and visits of all functions
abbrev pub solved_lines : List Solved → List ℕ
solved_lines solved = count_line (codes "effects") (sum_by effects_of solved)
    ++ count_line (codes "visits") (sum_by visits_of solved)

abbrev pub counts_text : HirUnit → List Solved → List Report → List ℕ
counts_text u solved reports = size_lines u ++ solved_lines solved
    ++ count_line (codes "ranges") (range_count u.env.identifiers) ++ count_line (codes "reports") (length reports)
