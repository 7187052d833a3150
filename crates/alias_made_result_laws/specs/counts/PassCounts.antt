-- The effects pass of a function with few blocks of few instructions, none of which calls or creates a function: no
-- counter comes to
-- its last value, and what it records of each instruction and terminal is short.
use Rattle.std.specs.Prelude.{◌≡◌, ℕ, ◌+◌, ◌≤◌, Bool, true, false, List, [], ◌∷◌, length, replicate, Option, Some, None}
use Rattle.std.specs.Prelude.{Result, Ok, Err, slice_get, refl}
use Rattle.std.specs.List.{AllByRecursion, flat_map}
use Rattle.std.proofs.Common.{zero, suc, arith}
use Rattle.alias_base.specs.declared.ids.BlockId.{BlockId}
use Rattle.alias_base.specs.declared.ids.InstructionId.{InstructionId}
use Rattle.alias_facts.specs.Facts.{function_facts}
use Rattle.alias_hir.specs.declared.env.Environment.{Environment}
use Rattle.alias_hir.specs.declared.error.InferError.{InferError}
use Rattle.alias_hir.specs.declared.error.InferError.TheVariants as error
use Rattle.alias_hir.specs.declared.hir.BasicBlock.{BasicBlock}
use Rattle.alias_hir.specs.declared.hir.HirFunction.{HirFunction}
use Rattle.alias_hir.specs.declared.hir.Instruction.{Instruction}
use Rattle.alias_lattice.specs.Flows.{Outcome}
use Rattle.alias_lattice.specs.States.{State, state_join, state_below}
use Rattle.alias_flow.specs.Machine.{End, VisitLog}
use Rattle.alias_flow.specs.Machine as end
use Rattle.alias_tables.specs.declared.faults.Refusal.{Refusal}
use Rattle.alias_tables.specs.declared.faults.Refusal.TheVariants as refused
use Rattle.alias_tables.specs.Tables.{TableLists}
use Rattle.alias_step.specs.declared.block.faults.BlockRefusal.{BlockRefusal}
use Rattle.alias_step.specs.declared.block.faults.BlockRefusal.TheVariants as block
use Rattle.alias_step.specs.declared.block.recorded.BlockEffects.{BlockEffects}
use Rattle.alias_step.specs.declared.block.recorded.InstructionEffects.{InstructionEffects}
use Rattle.alias_step.specs.declared.block.recorded.TerminalEffects.{TerminalEffects}
use Rattle.alias_step.specs.block.Blocks.{infer_block}
use Rattle.alias_step.specs.block.Contexts.{BlockContext, context_of}
use Rattle.alias_tables.specs.write_back.WriteBack.{tables_of}
use Rattle.alias_effects.specs.declared.output.PassEnd.{PassEnd}
use Rattle.alias_effects.specs.declared.solved.Solved.{Solved}
use Rattle.alias_effects.specs.FunctionFlow.{outcome_of}
use Rattle.alias_effects.specs.Inference.{instruction_refusal, refusal, block_at, instructions_recorded}
use Rattle.alias_effects.specs.Inference.{terminal_recorded, answer_of, pass_end}
use Rattle.alias_effects.specs.Numbered.{numbered, step_at, visits_end}
use Rattle.alias_answer_laws.specs.answers.Avoiding.{Avoids}
use Rattle.alias_completeness.specs.Going.{all_both}
use Rattle.alias_made_result_laws.specs.counts.Adding.{IsOther, AddsAt}
use Rattle.alias_made_result_laws.specs.counts.BlockCounts.{IsLightInstruction, IsOtherAt, AreShort, AreSingle, IsShort}
use Rattle.alias_made_result_laws.specs.counts.BlockCounts.{IsLightBlock, IsShortEnd, block_adds}
use Rattle.alias_made_result_laws.specs.counts.FlowCounts.{IsFineAt, VisitIs, HeldEnd, solution_held}

-- a counter is said to be at its last value
abbrev pub is_too_many : InferError → Bool
is_too_many (error.TooMany which) = true
is_too_many e = false

-- a function of 1,001 blocks at most, with three instructions at most, each of which is light
pub record IsLightFunction (env : Environment) (func : HirFunction) : Type 0 where
  pub instructions : (n : ℕ) (x : Instruction) → slice_get func.instructions n ≡ Some x
      → IsLightInstruction env (function_facts func env) x
  pub blocks : (n : ℕ) (b : BlockId × BasicBlock) → slice_get func.body.blocks n ≡ Some b → IsLightBlock b.1
  pub few : length func.body.blocks ≤ 1001

-- what is recorded of each instruction and terminal is short
pub record IsShortSolution (s : Solved) : Type 0 where
  pub instructions : AreShort s.effects
  pub terminals : AreSingle s.terminal_effects

abbrev pub EndsShort : PassEnd → Type 0
EndsShort e = IsShortSolution e.solved

-- ---- what is recorded of all blocks

recorded_of : (o : Option BlockEffects) → IsFineAt IsShort o → AreShort (instructions_recorded o)
recorded_of None h = tt
recorded_of (Some e) h = h.instructions

ends_of : (o : Option BlockEffects) → IsFineAt IsShort o → AreSingle (terminal_recorded o)
ends_of None h = tt
ends_of (Some e) h = h.terminal

all_recorded : (xs : List (Option BlockEffects)) → AllByRecursion (IsFineAt IsShort) xs
    → AreShort (flat_map instructions_recorded xs)
all_recorded [] h = tt
all_recorded (o ∷ xs) h = all_both (λ (x : InstructionEffects). length x.effects ≤ 8) (instructions_recorded o)
    (flat_map instructions_recorded xs) (recorded_of o h.0) (all_recorded xs h.1)

all_ends : (xs : List (Option BlockEffects)) → AllByRecursion (IsFineAt IsShort) xs
    → AreSingle (flat_map terminal_recorded xs)
all_ends [] h = tt
all_ends (o ∷ xs) h = all_both (λ (x : TerminalEffects). length x.effects ≤ 1) (terminal_recorded o)
    (flat_map terminal_recorded xs) (ends_of o h.0) (all_ends xs h.1)

nothing_recorded : (n : ℕ) → AllByRecursion (IsFineAt IsShort) (replicate n None)
nothing_recorded zero = tt
nothing_recorded (suc n) = (tt, nothing_recorded n)

-- ---- refusals

other_instruction : (i : InstructionId) (c : Refusal) → IsOther c → is_too_many (instruction_refusal i c) ≡ false
other_instruction i (refused.Reinitialized x) h = refl
other_instruction i (refused.AliasBeforeCreate x) h = refl
other_instruction i (refused.IncompatibleLibrary report) h = refl
other_instruction i (refused.SpreadArgument span report) h = refl
other_instruction i (refused.TooMany which) h = absurd h

other_refusal : (env : Environment) (b : BlockId) (c : BlockRefusal) → IsOtherAt c → is_too_many (refusal env b c)
    ≡ false
other_refusal env b (block.Instruction i c) h = other_instruction i c h
other_refusal env b (block.Uninitialized m) h = refl

-- ---- the pass

module _ (env : Environment) (func : HirFunction) (is_function_expression : Bool)
    (light : IsLightFunction env func) where
  abbrev c : BlockContext
  c = context_of env func is_function_expression

  abbrev count : TableLists → ℕ
  count t = length t.reports

  abbrev IsVisit : TableLists → Outcome State TableLists BlockEffects BlockRefusal → Type 0
  IsVisit t o = VisitIs state_join state_below (numbered c) count IsShort IsOtherAt 4294967295 t o

  abbrev IsHeld : End (VisitLog State) TableLists BlockEffects BlockRefusal → Type 0
  IsHeld e = HeldEnd state_join state_below (numbered c) count IsShort IsOtherAt 4294967295 e

  outcome_is : (t : TableLists) (r : Result ((State × BlockEffects) × TableLists) BlockRefusal)
      → AddsAt IsOtherAt 24 (IsShortEnd c) t r → IsVisit t (outcome_of r)
  outcome_is t (Ok p) h = h
  outcome_is t (Err e) h = h

  visit_is : (t : TableLists) (o : Option (BlockId × BasicBlock)) (n : ℕ) (x : State) → slice_get func.body.blocks n ≡ o
      → count t + 24 ≤ 4294967295 → IsVisit t (step_at c o t x)
  visit_is t None n x e room = (omega arith, record { instructions = tt; terminal = tt })
  visit_is t (Some b) n x e room = outcome_is t (infer_block c b.0 b.1 x t)
      (block_adds c light.instructions b.0 b.1 x (light.blocks n b e) t room)

  visits_held : length env.interned ≡ 0 → IsHeld (visits_end c)
  visits_held none =
      solution_held state_join state_below (numbered c) count IsShort IsOtherAt 4294967295 light.few
      (λ t n x room. visit_is t (slice_get func.body.blocks n) n x refl room)
      0 (tables_of env) (replicate (length func.body.blocks) None) (omega (arith, none))
      (nothing_recorded (length func.body.blocks)) (omega arith)

  answer_is : (e : End (VisitLog State) TableLists BlockEffects BlockRefusal) → IsHeld e
      → Avoids is_too_many EndsShort (answer_of env func e)
  answer_is (end.Solved w) h = record { instructions = all_recorded w.recorded h; terminals = all_ends w.recorded h }
  answer_is (end.Fault n r) h = other_refusal env (block_at func.body.blocks n) r h
  answer_is (end.NotSettled n) h = refl

  -- over an environment without reports
  pub pass_is_short : length env.interned ≡ 0 → Avoids is_too_many EndsShort (pass_end env func is_function_expression)
  pass_is_short none = answer_is (visits_end c) (visits_held none)
