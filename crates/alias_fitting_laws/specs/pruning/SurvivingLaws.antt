-- Effects that fit the tables still do, where what summaries name is still there.
use Rattle.std.specs.Prelude.{◌≡◌, true, ◌&&◌, List, Option, Some, None, slice_get, refl}
use Rattle.std.specs.List.{list_all}
use Rattle.alias_base.specs.AnswerLaws.{both_true}
use Rattle.alias_base.specs.declared.ids.BlockId.{BlockId}
use Rattle.alias_base.specs.declared.ids.FunctionId.{FunctionId}
use Rattle.alias_step_laws.specs.blocks.FitLaws.{Wider, named_kept}
use Rattle.alias_hir.specs.ReportNumbers.{summary}
use Rattle.alias_hir.specs.Effects.{function_of}
use Rattle.alias_hir.specs.Terminals.{terminal_effects}
use Rattle.alias_hir.specs.declared.effect.AliasingEffect.{AliasingEffect}
use Rattle.alias_hir.specs.declared.env.Environment.{Environment}
use Rattle.alias_hir.specs.declared.hir.BasicBlock.{BasicBlock}
use Rattle.alias_hir.specs.declared.hir.HirFunction.{HirFunction}
use Rattle.alias_hir.specs.declared.hir.Instruction.{Instruction}
use Rattle.alias_rules.specs.Fitting.{named_within_tables, summary_within_tables, effect_within_tables}
use Rattle.alias_rules.specs.Fitting.{recorded_within_tables, effects_within_tables, holds_no_call, effects_fit}
use Rattle.alias_nesting_laws.specs.FittingLaws.{together}
use Rattle.alias_nesting_laws.specs.StandInLaws.{all_weaker}

-- the summary of a function names entries of the tables
abbrev pub SummaryNames : Environment → FunctionId → Type 0
SummaryNames env f = list_all (named_within_tables env) (summary (slice_get env.functions f.0)) ≡ true

module _ (env more : Environment) (w : Wider env more)
    (names : (f : FunctionId) → SummaryNames env f → SummaryNames more f) where
  summary_survives : (o : Option FunctionId) → summary_within_tables env o ≡ true → summary_within_tables more o ≡ true
  summary_survives None h = refl
  summary_survives (Some f) h = names f h

  effect_survives : (e : AliasingEffect) → effect_within_tables env e ≡ true → effect_within_tables more e ≡ true
  effect_survives e h =
      let b = both_true (named_within_tables env e) (summary_within_tables env (function_of e)) h in
      together (named_within_tables more e) (summary_within_tables more (function_of e)) (named_kept env more w e b.0)
      (summary_survives (function_of e) b.1)

  recorded_survives : (o : Option (List AliasingEffect)) → recorded_within_tables env o ≡ true
      → recorded_within_tables more o ≡ true
  recorded_survives None h = refl
  recorded_survives (Some es) h = all_weaker (effect_within_tables env) (effect_within_tables more) effect_survives es h

  pub effects_survive : (g : HirFunction) → effects_fit env g ≡ true → effects_fit more g ≡ true
  effects_survive g h =
      let a = both_true (effects_within_tables env g) (holds_no_call g.aliasing_effects) h in
      let b = both_true (list_all (λ (i : Instruction). recorded_within_tables env i.effects) g.instructions
      && list_all (λ (e : BlockId × BasicBlock). recorded_within_tables env (terminal_effects e.1.terminal))
      g.body.blocks) (recorded_within_tables env g.aliasing_effects) a.0 in
      let c = both_true (list_all (λ (i : Instruction). recorded_within_tables env i.effects) g.instructions)
      (list_all (λ (e : BlockId × BasicBlock). recorded_within_tables env (terminal_effects e.1.terminal))
      g.body.blocks) b.0 in
      let instructions = all_weaker (λ (i : Instruction). recorded_within_tables env i.effects)
      (λ (i : Instruction). recorded_within_tables more i.effects) (λ i. recorded_survives i.effects) g.instructions
      c.0 in
      let terminals = all_weaker (λ (e : BlockId × BasicBlock).
      recorded_within_tables env (terminal_effects e.1.terminal))
      (λ (e : BlockId × BasicBlock). recorded_within_tables more (terminal_effects e.1.terminal))
      (λ e. recorded_survives (terminal_effects e.1.terminal)) g.body.blocks c.1 in
      together (effects_within_tables more g) (holds_no_call g.aliasing_effects)
      (together (list_all (λ (i : Instruction). recorded_within_tables more i.effects) g.instructions
      && list_all (λ (e : BlockId × BasicBlock). recorded_within_tables more (terminal_effects e.1.terminal))
      g.body.blocks) (recorded_within_tables more g.aliasing_effects)
      (together (list_all (λ (i : Instruction). recorded_within_tables more i.effects) g.instructions)
      (list_all (λ (e : BlockId × BasicBlock). recorded_within_tables more (terminal_effects e.1.terminal))
      g.body.blocks) instructions terminals)
      (recorded_survives g.aliasing_effects b.1))
      a.1
