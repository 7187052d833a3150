-- What the effects pass records of a function holds no Apply, and refused it isn't for an Apply that is left.
use Rattle.std.specs.Prelude.{◌≡◌, ℕ, Bool, List, [], ◌∷◌, Option, Some, None, length, replicate, slice_get, refl}
use Rattle.std.specs.List.{flat_map}
use Rattle.std.proofs.Common.{zero, suc, subst}
use Rattle.alias_base.specs.declared.ids.BlockId.{BlockId}
use Rattle.alias_hir.specs.declared.env.Environment.{Environment}
use Rattle.alias_hir.specs.declared.hir.BasicBlock.{BasicBlock}
use Rattle.alias_hir.specs.declared.hir.HirFunction.{HirFunction}
use Rattle.alias_lattice.specs.Flows.{Stepped}
use Rattle.alias_lattice.specs.States.{State, state_below, state_join}
use Rattle.alias_flow.specs.Machine.{SolverState, VisitLog, End}
use Rattle.alias_flow.specs.Machine as end
use Rattle.alias_flow.specs.RecordingLaws.{AllHold, solution_keeps}
use Rattle.alias_tables.specs.Tables.{TableLists}
use Rattle.alias_tables.specs.write_back.WriteBack.{tables_of}
use Rattle.alias_step.specs.block.Blocks.{infer_block}
use Rattle.alias_step.specs.block.Contexts.{BlockContext, context_of}
use Rattle.alias_step.specs.block.Recorded.{no_effects}
use Rattle.alias_step.specs.declared.block.faults.BlockRefusal.{BlockRefusal}
use Rattle.alias_step.specs.declared.block.recorded.BlockEffects.{BlockEffects}
use Rattle.alias_step.specs.declared.block.recorded.InstructionEffects.{InstructionEffects}
use Rattle.alias_step.specs.declared.block.recorded.TerminalEffects.{TerminalEffects}
use Rattle.alias_walks.specs.Words.{all_appended}
use Rattle.alias_effects.specs.Inference.{block_at, instructions_recorded, terminal_recorded, answer_of, pass_end}
use Rattle.alias_effects.specs.Numbered.{step_at, numbered, visits_end}
use Rattle.alias_effects.specs.PassLaws.{outcome_is}
use Rattle.alias_effects.specs.declared.output.PassEnd.{PassEnd}
use Rattle.alias_answer_laws.specs.answers.Applies.{NoneIsApply, NoInstructionRecordsApply, NoTerminalRecordsApply}
use Rattle.alias_answer_laws.specs.answers.Applies.{RecordsNoApply, Leads}
use Rattle.alias_answer_laws.specs.answers.Avoiding.{block_refused}
use Rattle.alias_answer_laws.specs.answers.BlockLaws.{BlockPlain, block_plain}

-- ---- visits

step_plain : (c : BlockContext) (o : Option (BlockId × BasicBlock)) (t u : TableLists) (x y : State) (k : BlockEffects)
    → step_at c o t x ≡ Stepped y u k → BlockPlain k
step_plain c None t u x y k e = let same : no_effects ≡ k = cc in subst BlockPlain same (tt, tt)
step_plain c (Some b) t u x y k e = block_plain c b.0 b.1 x t u (y, k) (outcome_is (infer_block c b.0 b.1 x t) y u k e)

none_yet : (n : ℕ) → AllHold BlockPlain (replicate n None)
none_yet zero = tt
none_yet (suc n) = (tt, none_yet n)

-- ---- what is handed out

instructions_of_all : (rs : List (Option BlockEffects)) → AllHold BlockPlain rs
    → NoInstructionRecordsApply (flat_map instructions_recorded rs)
instructions_of_all [] h = tt
instructions_of_all (None ∷ rs) h = instructions_of_all rs h.1
instructions_of_all (Some r ∷ rs) h = all_appended (λ (i : InstructionEffects). NoneIsApply i.effects) r.instructions
    (flat_map instructions_recorded rs) h.0.0 (instructions_of_all rs h.1)

terminals_of_all : (rs : List (Option BlockEffects)) → AllHold BlockPlain rs
    → NoTerminalRecordsApply (flat_map terminal_recorded rs)
terminals_of_all [] h = tt
terminals_of_all (None ∷ rs) h = terminals_of_all rs h.1
terminals_of_all (Some r ∷ rs) h = all_appended (λ (t : TerminalEffects). NoneIsApply t.effects) r.terminal
    (flat_map terminal_recorded rs) h.0.1 (terminals_of_all rs h.1)

-- ---- the pass

-- what is recorded at the end of a pass
abbrev pub EndsPlain : PassEnd → Type 0
EndsPlain e = RecordsNoApply e.solved

answered_plain : (env : Environment) (f : HirFunction) (r : End (VisitLog State) TableLists BlockEffects BlockRefusal)
    → ((w : SolverState (VisitLog State) TableLists BlockEffects) → r ≡ end.Solved w → AllHold BlockPlain w.recorded)
    → Leads EndsPlain (answer_of env f r)
answered_plain env f (end.Solved w) h = let all = h w refl in
    (instructions_of_all w.recorded all, terminals_of_all w.recorded all)
answered_plain env f (end.Fault n c) h = (block_refused env (block_at f.body.blocks n) c).0
answered_plain env f (end.NotSettled visits) h = refl

-- the effects pass records no Apply, and says of none that it is left
pub pass_plain : (env : Environment) (f : HirFunction) (b : Bool) → Leads EndsPlain (pass_end env f b)
pass_plain env f b =
    let c = context_of env f b in
    answered_plain env f (visits_end c)
    (λ w e. solution_keeps state_join state_below (numbered c) BlockPlain
    (λ t n x y u k s. step_plain c (slice_get f.body.blocks n) t u x y k s) (tables_of env)
    (replicate (length f.body.blocks) None) w (none_yet (length f.body.blocks)) e)
