-- The lines that are printed of a function that carries its effects are those that are said of its solution.
use Rattle.std.specs.Prelude.{◌≡◌, Bool, true, map}
use Rattle.std.specs.List.{list_all}
use Rattle.alias_base.specs.declared.ids.BlockId.{BlockId}
use Rattle.alias_hir.specs.declared.env.Environment.{Environment}
use Rattle.alias_hir.specs.declared.hir.BasicBlock.{BasicBlock}
use Rattle.alias_hir.specs.declared.hir.HirFunction.{HirFunction}
use Rattle.alias_lattice.specs.States.{State}
use Rattle.alias_flow.specs.Machine.{SolverState, VisitLog, Solved}
use Rattle.alias_rules.specs.function_rules.Rules.{instruction_is_uninferred, terminal_is_uninferred}
use Rattle.alias_rules.specs.Fitting.{function_fits}
use Rattle.alias_tables.specs.Tables.{TableLists}
use Rattle.alias_step.specs.block.Contexts.{context_of}
use Rattle.alias_step.specs.declared.block.recorded.BlockEffects.{BlockEffects}
use Rattle.alias_effects.specs.Inference.{solved_of}
use Rattle.alias_effects.specs.Numbered.{visits_end}
use Rattle.alias_effects.specs.Recording.{with_effects_of}
use Rattle.alias_certificate_laws.specs.text.Certifying.{cert_block}
use Rattle.alias_certificate_laws.specs.accepting.Saying.{said_each, those_there}

-- What infer_block records stands in the order of the block's instructions, an entry for each of which anything is
-- recorded; each instruction is listed once (a rule), so
-- that it carries these effects and no others.
abbrev pub PrintsWhatIsSaid : Type 0
PrintsWhatIsSaid =
    (env : Environment) (func : HirFunction) (is_function_expression : Bool)
    (w : SolverState (VisitLog State) TableLists BlockEffects) → function_fits func env ≡ true
    → list_all instruction_is_uninferred func.instructions ≡ true
    → list_all (λ (b : BlockId × BasicBlock). terminal_is_uninferred b.1.terminal) func.body.blocks ≡ true
    → visits_end (context_of env func is_function_expression) ≡ Solved w
    → map (cert_block (with_effects_of (solved_of func w) func)) (solved_of func w).entries
    ≡ those_there (said_each func.body.blocks w.progress.joined_input w.recorded)
