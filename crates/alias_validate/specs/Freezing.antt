-- Functions that write locals, and where they are frozen.
use Rattle.std.specs.Prelude.{Bool, true, false, cond, not, ◌&&◌, List, [], ◌∷◌, ◌++◌, Option, None, Some, fold}
use Rattle.std.specs.Prelude.{slice_get, option_map, option_to_list, flat_map, is_some}
use Rattle.std.specs.Option.{option_map_or}
use Rattle.alias_base.specs.declared.ids.BlockId.{BlockId}
use Rattle.alias_base.specs.declared.ids.IdentifierId.{IdentifierId}
use Rattle.alias_base.specs.declared.ids.InstructionId.{InstructionId}
use Rattle.alias_hir.specs.Terminals.{terminal_places}
use Rattle.alias_hir.specs.Types.{is_ref_or_ref_like_mutable_type, type_of}
use Rattle.alias_hir.specs.declared.effect.AliasingEffect.{AliasingEffect}
use Rattle.alias_hir.specs.declared.effect.AliasingEffect.TheVariants.{Mutate, MutateConditionally, MutateTransitive}
use Rattle.alias_hir.specs.declared.effect.AliasingEffect.TheVariants.{MutateTransitiveConditionally}
use Rattle.alias_hir.specs.declared.env.Environment.{Environment}
use Rattle.alias_hir.specs.declared.hir.BasicBlock.{BasicBlock}
use Rattle.alias_hir.specs.declared.hir.HirFunction.{HirFunction}
use Rattle.alias_hir.specs.declared.hir.Instruction.{Instruction}
use Rattle.alias_hir.specs.declared.place.Place.{Place}
use Rattle.alias_hir.specs.declared.report.Report.{Report}
use Rattle.alias_hir.specs.declared.value.InstructionValue.{InstructionValue}
use Rattle.alias_hir.specs.declared.value.InstructionValue.TheVariants.{FunctionExpression, LoadLocal, StoreLocal}
use Rattle.alias_validate.specs.Marking.{is_freeze, mark_of, marked, loaded, stored}
use Rattle.alias_validate.specs.Reports.{frozen_report}
use Rattle.alias_validate.specs.declared.mutation.ContextMutation.{ContextMutation}
use Rattle.alias_visit.specs.Operands.{operands_of}

abbrev pub ContextMutations : Type 0
ContextMutations = List (IdentifierId × ContextMutation)

-- ---- the summary of a function

-- the identifiers of places, as a set
abbrev pub identifiers : List Place → List (IdentifierId × Unit {0})
identifiers ps = fold (λ done (p : Place). marked done p.identifier tt) [] ps

abbrev pub is_ref_like_at : Environment → IdentifierId → Bool
is_ref_like_at env id = option_map_or is_ref_or_ref_like_mutable_type (type_of env id) false

-- a context place that is no ref
abbrev pub is_local : Environment → List (IdentifierId × Unit {0}) → IdentifierId → Bool
is_local env context x = is_some (mark_of context x) && not (is_ref_like_at env x)

module _ (env : Environment) (context : List (IdentifierId × Unit {0})) (lvalue : IdentifierId) where
  -- a mutation of a place: marks the lvalue, and says whether the walk of the summary ends
  abbrev pub mutated : ContextMutations → Place → Option ContextMutation → ContextMutations × Bool
  mutated ms x (Some m) = (marked ms lvalue m, false)
  mutated ms x None = cond (is_local env context x.identifier)
      (marked ms lvalue (record { identifier = x.identifier; span = x.span }), true) (ms, false)

  abbrev pub effect_seen : ContextMutations → AliasingEffect → ContextMutations × Bool
  effect_seen ms (Mutate x reason) = mutated ms x (mark_of ms x.identifier)
  effect_seen ms (MutateTransitive x) = mutated ms x (mark_of ms x.identifier)
  effect_seen ms (MutateConditionally x) = (loaded ms x.identifier lvalue, false)
  effect_seen ms (MutateTransitiveConditionally x) = (loaded ms x.identifier lvalue, false)
  effect_seen ms e = (ms, false)

  -- the marks after a summary
  abbrev pub effects_seen : ContextMutations → List AliasingEffect → ContextMutations
  effects_seen ms [] = ms
  effects_seen ms (e ∷ es) = let s = effect_seen ms e in cond s.1 s.0 (effects_seen s.0 es)

-- the marks after a function is created
abbrev pub created_seen : Environment → IdentifierId → ContextMutations → Option HirFunction → ContextMutations
created_seen env lvalue ms None = ms
created_seen env lvalue ms (Some f) = effects_seen env (identifiers f.context) lvalue ms
    (option_map_or (λ (es : List AliasingEffect). es) f.aliasing_effects [])

-- ---- instructions

-- the marks after an instruction
abbrev pub marks_after : Environment → IdentifierId → InstructionValue → ContextMutations → ContextMutations
marks_after env lvalue (LoadLocal place) ms = loaded ms place.identifier lvalue
marks_after env lvalue (StoreLocal target value) ms = stored ms value.identifier lvalue target.place.identifier
marks_after env lvalue (FunctionExpression lowered) ms =
    created_seen env lvalue ms (slice_get env.functions lowered.func.0)
marks_after env lvalue v ms = ms

-- the report of a marked operand that is frozen
abbrev pub operand_reports : Environment → ContextMutations → Place → List Report
operand_reports env ms o = cond (is_freeze o.effect)
    (option_to_list (option_map (frozen_report env o) (mark_of ms o.identifier))) []

abbrev pub reports_at : Environment → ContextMutations → List Place → List Report
reports_at env ms os = flat_map (operand_reports env ms) os

-- the reports of an instruction
abbrev pub value_reports : Environment → ContextMutations → InstructionValue → List Report
value_reports env ms (LoadLocal place) = []
value_reports env ms (StoreLocal target value) = []
value_reports env ms (FunctionExpression lowered) = []
value_reports env ms v = reports_at env ms (operands_of env v)

-- ---- the walk in stored order

-- marks and reports so far
abbrev pub Seen : Type 0
Seen = ContextMutations × List Report

abbrev pub instruction_seen : Environment → Seen → Option Instruction → Seen
instruction_seen env s None = s
instruction_seen env s (Some i) = (
  marks_after env i.lvalue.identifier i.value s.0,
  s.1 ++ value_reports env s.0 i.value,
)

-- the instructions, by their numbers
abbrev pub instructions_seen : Environment → HirFunction → Seen → List InstructionId → Seen
instructions_seen env func s is = fold (λ done (i : InstructionId).
    instruction_seen env done (slice_get func.instructions i.0)) s is

-- the instructions, then the terminal
abbrev pub block_seen : Environment → HirFunction → Seen → BasicBlock → Seen
block_seen env func s b = let t = instructions_seen env func s b.instructions in
    (t.0, t.1 ++ reports_at env t.0 (terminal_places b.terminal))

abbrev pub function_seen : Environment → HirFunction → Seen
function_seen env func = fold (λ done (b : BlockId × BasicBlock). block_seen env func done b.1) ([], [])
    func.body.blocks

-- the reports of the second validation
abbrev pub frozen_reports : Environment → HirFunction → List Report
frozen_reports env func = (function_seen env func).1
