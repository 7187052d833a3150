-- The inference takes the function again, with what it recorded, in the environment that took over what the pass added.
use Rattle.std.specs.Prelude.{◌≡◌, ℕ, Bool, true, false, not, ◌&&◌, is_ok, List, [], ◌∷◌, length, Option, Some, None}
use Rattle.std.specs.Prelude.{Result, Ok, Err, replicate, slice_get, slice_set}
use Rattle.std.specs.List.{list_all, flat_map, AllByRecursion}
use Rattle.std.specs.Option.{option_map_or}
use Rattle.std.proofs.Common.{zero, suc, subst, ap, sym, refl, ◌∙◌}
use Rattle.indexmap.specs.IndexMap.{set_value_at}
use Rattle.alias_base.specs.Answer.{◌>>=◌}
use Rattle.alias_base.specs.AnswerLaws.{both_true}
use Rattle.alias_base.specs.declared.ids.BlockId.{BlockId}
use Rattle.alias_hir.specs.Terminals.{terminal_effects, with_terminal_effects}
use Rattle.alias_hir.specs.declared.effect.AliasingEffect.{AliasingEffect}
use Rattle.alias_hir.specs.declared.env.Environment.{Environment}
use Rattle.alias_hir.specs.declared.error.InferError.{InferError}
use Rattle.alias_hir.specs.declared.hir.BasicBlock.{BasicBlock}
use Rattle.alias_hir.specs.declared.hir.HirFunction.{HirFunction}
use Rattle.alias_hir.specs.declared.hir.Instruction.{Instruction}
use Rattle.alias_hir.specs.declared.terminal.Terminal.{Terminal}
use Rattle.alias_hir.specs.declared.terminal.Terminal.TheVariants as terminal
use Rattle.alias_hir.specs.Positions.{Blocks, position_in}
use Rattle.alias_lattice.specs.Flows.{Stepped}
use Rattle.alias_lattice.specs.JoinLaws.{state_laws}
use Rattle.alias_lattice.specs.States.{State, state_join, state_below}
use Rattle.alias_flow.specs.Machine.{SolverState, VisitLog, End}
use Rattle.alias_flow.specs.Machine as end
use Rattle.alias_flow.specs.RecordingLaws.{AllHold}
use Rattle.alias_rules.specs.Fitting.{effect_within_tables, recorded_within_tables, effects_within_tables}
use Rattle.alias_rules.specs.Fitting.{holds_no_call, effects_fit, effects_fit_at, reports_no_invariant, function_rules}
use Rattle.alias_rules.specs.Fitting.{function_fits}
use Rattle.alias_rules.specs.RecordedLaws.{fits_with_other_effects}
use Rattle.alias_rules.specs.RuleLaws.{fitting_tree}
use Rattle.alias_nesting_laws.specs.FittingLaws.{together}
use Rattle.alias_tables.specs.GrowingLaws.{grows_self}
use Rattle.alias_tables.specs.Tables.{TableLists}
use Rattle.alias_tables.specs.write_back.WriteBack.{tables_of, with_tables}
use Rattle.alias_step.specs.declared.block.faults.BlockRefusal.{BlockRefusal}
use Rattle.alias_step.specs.declared.block.recorded.BlockEffects.{BlockEffects}
use Rattle.alias_step.specs.declared.block.recorded.InstructionEffects.{InstructionEffects}
use Rattle.alias_step.specs.declared.block.recorded.TerminalEffects.{TerminalEffects}
use Rattle.alias_step.specs.block.Blocks.{infer_block}
use Rattle.alias_step.specs.block.Contexts.{BlockContext, context_of}
use Rattle.alias_step.specs.block.Initial.{initial_state}
use Rattle.alias_step.specs.block.Recorded.{no_effects}
use Rattle.alias_step.specs.block.ProperLaws.{proper_initial_state}
use Rattle.alias_step_laws.specs.steps.Within.{EffectsWithin, FunctionWithin, TablesWithin}
use Rattle.alias_step_laws.specs.steps.FunctionSiteLaws.{has_join}
use Rattle.alias_walks.specs.Words.{all_appended}
use Rattle.alias_step_laws.specs.blocks.BlockLaws.{BlockEffectsWithin, StateWithin, block_effects_grow, block_inferred}
use Rattle.alias_step_laws.specs.blocks.EntryLaws.{context_within, return_within, has_initial_state}
use Rattle.alias_step_laws.specs.blocks.SolutionLaws.{StepKeeps, solution_stands}
use Rattle.alias_step_laws.specs.blocks.WrittenLaws.{fits_with_tables, all_effects_written}
use Rattle.alias_effects.specs.declared.output.LastVisits.{LastVisits}
use Rattle.alias_effects.specs.declared.output.PassEnd.{PassEnd}
use Rattle.alias_effects.specs.declared.solved.Solved.{Solved}
use Rattle.alias_effects.specs.Inference.{instructions_recorded, terminal_recorded, end_of, end_tables, answer_of}
use Rattle.alias_effects.specs.Inference.{pass_end, env_after, env_inferred, effects_inferred}
use Rattle.alias_effects.specs.Numbered.{step_at, numbered, visits_end}
use Rattle.alias_effects.specs.Output.{last_of, last_visits}
use Rattle.alias_effects.specs.PassLaws.{outcome_is}
use Rattle.alias_effects.specs.Recording.{recorded_instructions, block_with, with_terminal_at, recorded_terminals}
use Rattle.alias_effects.specs.Recording.{with_effects_of}
use Rattle.alias_effects.proofs.RecordedDiffers.{recorded_differs}

-- ---- lists of which one item is another

set_all : {X : Type 0} (p : X → Bool) (xs : List X) (i : ℕ) (x : X) → p x ≡ true → list_all p xs ≡ true
    → list_all p (slice_set xs i x) ≡ true
set_all p [] i x h a = refl
set_all p (y ∷ ys) zero x h a = rw h (both_true (p y) (list_all p ys) a).1
set_all p (y ∷ ys) (suc i) x h a =
    let b : (p y ≡ true) × (list_all p ys ≡ true) = both_true (p y) (list_all p ys) a in
    rw (b.0) (set_all p ys i x h b.1)

set_value_all : {K V : Type 0} (p : V → Bool) (es : List (K × V)) (i : ℕ) (w : V) → p w ≡ true
    → list_all (λ (e : K × V). p e.1) es ≡ true → list_all (λ (e : K × V). p e.1) (set_value_at es i w) ≡ true
set_value_all p [] i w h a = refl
set_value_all {K} {V} p (y ∷ ys) zero w h a = rw h (both_true (p y.1) (list_all (λ (e : K × V). p e.1) ys) a).1
set_value_all {K} {V} p (y ∷ ys) (suc i) w h a =
    let b : (p y.1 ≡ true) × (list_all (λ (e : K × V). p e.1) ys ≡ true) =
    both_true (p y.1) (list_all (λ (e : K × V). p e.1) ys) a in
    rw (b.0) (set_value_all p ys i w h b.1)

-- ---- what was recorded is on the function

abbrev InstructionsWithinTables : Environment → List Instruction → Type 0
InstructionsWithinTables env xs = list_all (λ (i : Instruction). recorded_within_tables env i.effects) xs ≡ true

abbrev TerminalsWithinTables : Environment → Blocks → Type 0
TerminalsWithinTables env bs = list_all (λ (e : BlockId × BasicBlock).
    recorded_within_tables env (terminal_effects e.1.terminal)) bs ≡ true

abbrev OfInstructions : Environment → List InstructionEffects → Type 0
OfInstructions env es = list_all (λ (i : InstructionEffects). list_all (effect_within_tables env) i.effects) es ≡ true

abbrev OfTerminals : Environment → List TerminalEffects → Type 0
OfTerminals env es = list_all (λ (t : TerminalEffects). list_all (effect_within_tables env) t.effects) es ≡ true

instruction_put : (env : Environment) (e : InstructionEffects) (o : Option Instruction) (xs : List Instruction)
    → list_all (effect_within_tables env) e.effects ≡ true → InstructionsWithinTables env xs
    → InstructionsWithinTables env (option_map_or
    (λ (x : Instruction). slice_set xs e.instruction.0 (record x { effects = Some e.effects })) o xs)
instruction_put env e None xs h a = a
instruction_put env e (Some x) xs h a = set_all (λ (i : Instruction). recorded_within_tables env i.effects) xs
    e.instruction.0 (record x { effects = Some e.effects }) h a

instructions_put : (env : Environment) (es : List InstructionEffects) (xs : List Instruction) → OfInstructions env es
    → InstructionsWithinTables env xs → InstructionsWithinTables env (recorded_instructions es xs)
instructions_put env [] xs h a = a
instructions_put env (e ∷ es) xs h a =
    let b : (list_all (effect_within_tables env) e.effects ≡ true) × OfInstructions env es = both_true _ _ h in
    let ys = recorded_instructions es xs in
    instruction_put env e (slice_get ys e.instruction.0) ys b.0 (instructions_put env es xs b.1 a)

terminal_put : (env : Environment) (t : Terminal) (es : List AliasingEffect) → list_all (effect_within_tables env) es
    ≡ true → recorded_within_tables env (terminal_effects t) ≡ true
    → recorded_within_tables env (terminal_effects (with_terminal_effects t es)) ≡ true
terminal_put env (terminal.Goto id block) es h a = refl
terminal_put env (terminal.If id test consequent alternate) es h a = refl
terminal_put env (terminal.Branch id test consequent alternate) es h a = refl
terminal_put env (terminal.Switch id test cases) es h a = refl
terminal_put env (terminal.For id init) es h a = refl
terminal_put env (terminal.ForOf id init) es h a = refl
terminal_put env (terminal.ForIn id init) es h a = refl
terminal_put env (terminal.DoWhile id loop_block) es h a = refl
terminal_put env (terminal.While id test) es h a = refl
terminal_put env (terminal.Logical id test) es h a = refl
terminal_put env (terminal.Ternary id test) es h a = refl
terminal_put env (terminal.Optional id test) es h a = refl
terminal_put env (terminal.Return id value effects) es h a = h
terminal_put env (terminal.Throw id value) es h a = refl
terminal_put env (terminal.Unreachable id) es h a = refl
terminal_put env (terminal.Try id block handler handler_binding) es h a = refl
terminal_put env (terminal.MaybeThrow id continuation handler effects) es h a = h
terminal_put env (terminal.Label id block) es h a = refl
terminal_put env (terminal.Sequence id block) es h a = refl
terminal_put env (terminal.Scope id block) es h a = refl
terminal_put env (terminal.PrunedScope id block) es h a = refl

-- the effects of an item are within the tables
blocks_at : (env : Environment) (bs : Blocks) (n : ℕ) (x : BlockId × BasicBlock) → TerminalsWithinTables env bs
    → slice_get bs n ≡ Some x → recorded_within_tables env (terminal_effects x.1.terminal) ≡ true
blocks_at env [] n x h e = cc
blocks_at env (y ∷ ys) zero x h e =
    let same : y ≡ x = cc in
    subst (λ (z : BlockId × BasicBlock). recorded_within_tables env (terminal_effects z.1.terminal) ≡ true) same
    (both_true (recorded_within_tables env (terminal_effects y.1.terminal)) _ h).0
blocks_at env (y ∷ ys) (suc n) x h e = blocks_at env ys n x
    (both_true (recorded_within_tables env (terminal_effects y.1.terminal)) _ h).1 e

terminal_set : (env : Environment) (es : List AliasingEffect) (bs : Blocks) (n : ℕ) (o : Option (BlockId × BasicBlock))
    → slice_get bs n ≡ o → list_all (effect_within_tables env) es ≡ true → TerminalsWithinTables env bs
    → TerminalsWithinTables env (option_map_or (λ (x : BlockId × BasicBlock). set_value_at bs n (block_with x.1 es)) o
    bs)
terminal_set env es bs n None e h a = a
terminal_set env es bs n (Some x) e h a =
    set_value_all (λ (b : BasicBlock). recorded_within_tables env (terminal_effects b.terminal)) bs n
    (block_with x.1 es) (terminal_put env x.1.terminal es h (blocks_at env bs n x a e)) a

terminal_at : (env : Environment) (es : List AliasingEffect) (bs : Blocks) (o : Option ℕ)
    → list_all (effect_within_tables env) es ≡ true → TerminalsWithinTables env bs
    → TerminalsWithinTables env (option_map_or (with_terminal_at es bs) o bs)
terminal_at env es bs None h a = a
terminal_at env es bs (Some n) h a = terminal_set env es bs n (slice_get bs n) refl h a

terminals_put : (env : Environment) (es : List TerminalEffects) (bs : Blocks) → OfTerminals env es
    → TerminalsWithinTables env bs → TerminalsWithinTables env (recorded_terminals es bs)
terminals_put env [] bs h a = a
terminals_put env (e ∷ es) bs h a =
    let b : (list_all (effect_within_tables env) e.effects ≡ true) × OfTerminals env es = both_true _ _ h in
    let cs = recorded_terminals es bs in
    terminal_at env e.effects cs (position_in cs e.block) b.0 (terminals_put env es bs b.1 a)

-- ---- what is recorded is within the tables

pub none_hold : {K : Type 0} (q : K → Type 0) (n : ℕ) → AllHold q (replicate n None)
none_hold q zero = tt
none_hold q (suc n) = (tt, none_hold q n)

none_said : (a b : Bool) → (not a && not b) ≡ true → b ≡ false
none_said true b h = cc
none_said false true h = cc
none_said false false h = refl

module _ (func : HirFunction) (env : Environment) (f : Bool) (h : function_fits func env ≡ true) where
  abbrev c : BlockContext
  c = context_of env func f

  -- a pass begins within the tables
  pub begun_within : TablesWithin env (tables_of env)
  begun_within = record {
    first = tt;
    temporaries = tt;
    reports = grows_self env.interned;
    no_invariant = none_said _ _ (both_true _ (reports_no_invariant env) (fitting_tree func env h).2).1;
  }

  initial_within : StateWithin env (initial_state c)
  initial_within = (proper_initial_state c, has_initial_state (FunctionWithin env) c)

  joins_within : (x y : State) → StateWithin env x → StateWithin env y → StateWithin env (state_join x y)
  joins_within x y p q = (state_laws.closed x y p.0 q.0, has_join (FunctionWithin env) x y p.0 q.0 p.1 q.1)

  abbrev Kept : TableLists → TableLists → State → BlockEffects → Type 0
  Kept = StepKeeps (TablesWithin env) (StateWithin env) (BlockEffectsWithin env)

  step_within : (n : ℕ) (o : Option (BlockId × BasicBlock)) (t : TableLists) (x y : State) (u : TableLists)
      (k : BlockEffects) → slice_get func.body.blocks n ≡ o → TablesWithin env t → StateWithin env x
      → step_at c o t x ≡ Stepped y u k → Kept t u y k
  step_within n None t x y u k o i g e =
      let tables : t ≡ u = cc in
      let state : x ≡ y = cc in
      let said : no_effects ≡ k = cc in
      record {
        tables = subst (TablesWithin env) tables i;
        state = subst (StateWithin env) state g;
        said = subst (BlockEffectsWithin env u) said (tt, tt);
        still = λ j q. subst (λ v. BlockEffectsWithin env v j) tables q;
      }
  step_within n (Some b) t x y u k o i g e =
      let r = (block_inferred c (context_within func env f h) b.0 b.1 x t i (return_within func env n b h o) g).leads u
      (y, k) (outcome_is (infer_block c b.0 b.1 x t) y u k e) in
      record {
        tables = r.tables;
        state = r.value.0;
        said = r.value.1;
        still = λ j q. block_effects_grow env t u r.grown j q;
      }

  -- a step from tables and a state that are within
  pub position_within : (n : ℕ) (t : TableLists) (x y : State) (u : TableLists) (k : BlockEffects) → TablesWithin env t
      → StateWithin env x → (numbered (context_of env func f)).flow.step t n x ≡ Stepped y u k
      → StepKeeps (TablesWithin env) (StateWithin env) (BlockEffectsWithin env) t u y k
  position_within n t x y u k i g s = step_within n (slice_get func.body.blocks n) t x y u k refl i g s

  -- where nothing is dirty any more, tables and what is recorded are within
  end_within : (w : SolverState (VisitLog State) TableLists BlockEffects) → visits_end c ≡ end.Solved w
      → TablesWithin env w.tables × AllHold (BlockEffectsWithin env w.tables) w.recorded
  end_within w e =
      solution_stands state_join state_below (numbered c) (TablesWithin env) (StateWithin env) (BlockEffectsWithin env)
      joins_within
      (λ t n x y u k i g s. position_within n t x y u k i g s)
      (tables_of env) (replicate (length func.body.blocks) None) w begun_within initial_within
      (none_hold (BlockEffectsWithin env (tables_of env)) (length func.body.blocks)) e

  all_instructions : (t : TableLists) (recorded : List (Option BlockEffects))
      → AllHold (BlockEffectsWithin env t) recorded
      → AllByRecursion (λ (i : InstructionEffects). EffectsWithin env t i.effects)
      (flat_map instructions_recorded recorded)
  all_instructions t [] a = tt
  all_instructions t (None ∷ ks) a = all_instructions t ks a.1
  all_instructions t (Some r ∷ ks) a = all_appended (λ (i : InstructionEffects). EffectsWithin env t i.effects)
      r.instructions (flat_map instructions_recorded ks) a.0.0 (all_instructions t ks a.1)

  all_terminals : (t : TableLists) (recorded : List (Option BlockEffects)) → AllHold (BlockEffectsWithin env t) recorded
      → AllByRecursion (λ (i : TerminalEffects). EffectsWithin env t i.effects) (flat_map terminal_recorded recorded)
  all_terminals t [] a = tt
  all_terminals t (None ∷ ks) a = all_terminals t ks a.1
  all_terminals t (Some r ∷ ks) a = all_appended (λ (i : TerminalEffects). EffectsWithin env t i.effects) r.terminal
      (flat_map terminal_recorded ks) a.0.1 (all_terminals t ks a.1)

  -- the function with these effects fits in an environment where it fits without them, and where they are within the
  -- tables
  put_fits : (more : Environment) (s : Solved) → function_fits func more ≡ true → OfInstructions more s.effects
      → OfTerminals more s.terminal_effects → function_fits (with_effects_of s func) more ≡ true
  put_fits more s k i t =
      let a = both_true _ (reports_no_invariant more) (fitting_tree func more k).2 in
      let b = both_true _ (list_all (effects_fit_at more) (fitting_tree func more k).0) a.0 in
      let d : (is_ok (function_rules more func (fitting_tree func more k).0) ≡ true) × (effects_fit more func ≡ true) =
      both_true _ _ b.0 in
      let e : (effects_within_tables more func ≡ true) × (holds_no_call func.aliasing_effects ≡ true) =
      both_true _ _ d.1 in
      let g : HirFunction = with_effects_of s func in
      let l = both_true _ (recorded_within_tables more func.aliasing_effects) e.0 in
      let m : InstructionsWithinTables more func.instructions × TerminalsWithinTables more func.body.blocks =
      both_true _ _ l.0 in
      let n : InstructionsWithinTables more g.instructions = instructions_put more s.effects func.instructions i m.0 in
      let o : TerminalsWithinTables more g.body.blocks = terminals_put more s.terminal_effects func.body.blocks t m.1 in
      let w : effects_within_tables more g ≡ true = rw (n, o) (l.1) in
      fits_with_other_effects func g more (recorded_differs s func) k
      (together (effects_within_tables more g) (holds_no_call g.aliasing_effects) w e.1)

  -- the function with what is recorded within tables that are
  pub recorded_fits : (w : SolverState (VisitLog State) TableLists BlockEffects) → TablesWithin env w.tables
      × AllHold (BlockEffectsWithin env w.tables) w.recorded
      → function_fits (with_effects_of (end_of func w).solved func) (env_after env (end_of func w)) ≡ true
  recorded_fits w a =
      put_fits (with_tables w.tables env) (end_of func w).solved (fits_with_tables env w.tables a.0 func h)
      (all_effects_written env w.tables a.0 (λ (i : InstructionEffects). i.effects)
      (flat_map instructions_recorded w.recorded) (all_instructions w.tables w.recorded a.1))
      (all_effects_written env w.tables a.0 (λ (i : TerminalEffects). i.effects) (flat_map terminal_recorded w.recorded)
      (all_terminals w.tables w.recorded a.1))

  solved_fits : (w : SolverState (VisitLog State) TableLists BlockEffects) → visits_end c ≡ end.Solved w
      → function_fits (with_effects_of (end_of func w).solved func) (env_after env (end_of func w)) ≡ true
  solved_fits w e = recorded_fits w (end_within w e)

  answer_fits : (r : End (VisitLog State) TableLists BlockEffects BlockRefusal) (e : PassEnd) → visits_end c ≡ r
      → answer_of env func r ≡ Ok e → function_fits (with_effects_of e.solved func) (env_after env e) ≡ true
  answer_fits (end.Solved w) e v i = let same : end_of func w ≡ e = cc in
      subst (λ (z : PassEnd). function_fits (with_effects_of z.solved func) (env_after env z) ≡ true) same
      (solved_fits w v)
  answer_fits (end.Fault n k) e v i = cc
  answer_fits (end.NotSettled n) e v i = cc

  answer_within : (r : End (VisitLog State) TableLists BlockEffects BlockRefusal) (e : PassEnd) → visits_end c ≡ r
      → answer_of env func r ≡ Ok e → TablesWithin env (end_tables e)
  answer_within (end.Solved w) e v i = let same : end_of func w ≡ e = cc in
      subst (λ (z : PassEnd). TablesWithin env (end_tables z)) same (end_within w v).0
  answer_within (end.Fault n k) e v i = cc
  answer_within (end.NotSettled n) e v i = cc

-- the tables that the pass ends with are those of the environment, and further entries
pub pass_end_within : (func : HirFunction) (env : Environment) (f : Bool) (e : PassEnd) → function_fits func env ≡ true
    → pass_end env func f ≡ Ok e → TablesWithin env (end_tables e)
pass_end_within func env f e h i = answer_within func env f h (visits_end (context_of env func f)) e refl i

-- the inference takes the function with what it recorded, in the environment that took over what it added
pub pass_end_fits : (func : HirFunction) (env : Environment) (f : Bool) (e : PassEnd) → function_fits func env ≡ true
    → pass_end env func f ≡ Ok e → function_fits (with_effects_of e.solved func) (env_after env e) ≡ true
pass_end_fits func env f e h i = answer_fits func env f h (visits_end (context_of env func f)) e refl i

-- ---- where nothing is handed out

-- the function with what last visits recorded, and the environment with the tables that they left
abbrev pub with_last : LastVisits → HirFunction → HirFunction
with_last l func = record func {
  instructions = recorded_instructions l.effects.instructions func.instructions;
  body = record func.body { blocks = recorded_terminals l.effects.terminal func.body.blocks };
}

abbrev pub env_after_last : LastVisits → Environment → Environment
env_after_last l env = with_tables (record
    { first = []; temporaries = l.tables.temporaries; reports = l.tables.reports; reads = l.tables.reads }) env

last_at : (func : HirFunction) (env : Environment) (f : Bool) (l : LastVisits) (r : Result PassEnd InferError)
    → function_fits func env ≡ true → pass_end env func f ≡ r
    → ◌≡◌ {A = Result LastVisits InferError} (r >>= (λ e. Ok (last_of e))) (Ok l)
    → function_fits (with_last l func) (env_after_last l env) ≡ true
last_at func env f l (Ok e) k i h =
    let same : last_of e ≡ l = cc in
    subst (λ (z : LastVisits). function_fits (with_last z func) (env_after_last z env) ≡ true) same
    (pass_end_fits func env f e k i)
last_at func env f l (Err z) k i h = cc

pub last_fits : (func : HirFunction) (env : Environment) (f : Bool) (l : LastVisits) → function_fits func env ≡ true
    → last_visits env func f ≡ Ok l → function_fits (with_last l func) (env_after_last l env) ≡ true
last_fits func env f l k h = last_at func env f l (pass_end env func f) k refl h

-- what is made of an end is what is made of its effects and tables
last_gives : {X : Type 0} (r : Result PassEnd InferError) (f : PassEnd → X) (g : LastVisits → X) (l : LastVisits)
    → ((e : PassEnd) → f e ≡ g (last_of e))
    → ◌≡◌ {A = Result LastVisits InferError} (r >>= (λ e. Ok (last_of e))) (Ok l)
    → ◌≡◌ {A = Result X InferError} (r >>= (λ e. Ok (f e))) (Ok (g l))
last_gives (Ok e) f g l same h =
    let is : last_of e ≡ l = cc in
    ap Ok (same e ∙ ap g is)
last_gives (Err z) f g l same h = cc

pub last_recorded : (func : HirFunction) (env : Environment) (f : Bool) (l : LastVisits) → last_visits env func f ≡ Ok l
    → effects_inferred env func f ≡ Ok (with_last l func)
last_recorded func env f l h = last_gives (pass_end env func f) (λ e. with_effects_of e.solved func)
    (λ z. with_last z func) l (λ e. refl) h

pub last_written : (func : HirFunction) (env : Environment) (f : Bool) (l : LastVisits) → last_visits env func f ≡ Ok l
    → env_inferred env func f ≡ Ok (env_after_last l env)
last_written func env f l h = last_gives (pass_end env func f) (env_after env) (λ z. env_after_last z env) l (λ e. refl)
    h

-- ---- the same, of what is equal

pub written_by : (env after : Environment) (t u : TableLists) → after ≡ with_tables t env → t ≡ u → with_tables u env
    ≡ after
written_by env after t u h same = ap (λ (z : TableLists). with_tables z env) (sym same) ∙ sym h

pub fits_as : (g h : HirFunction) (u v : Environment) → function_fits g u ≡ true → g ≡ h → u ≡ v → function_fits h v
    ≡ true
fits_as g h u v k p q = subst (λ (z : Environment). function_fits h z ≡ true) q
    (subst (λ (z : HirFunction). function_fits z u ≡ true) p k)

pub recorded_as : (func : HirFunction) (s : Solved) (effects : List InstructionEffects)
    (terminal : List TerminalEffects) (xs : List Instruction) (bs : Blocks) → xs
    ≡ recorded_instructions effects func.instructions → effects ≡ s.effects → bs
    ≡ recorded_terminals terminal func.body.blocks → terminal ≡ s.terminal_effects
    → with_effects_of s func ≡ record func { instructions = xs; body = record func.body { blocks = bs } }
recorded_as func s effects terminal xs bs p q r t =
    ap (λ (ys : List Instruction). record func {
      instructions = ys;
      body = record func.body { blocks = recorded_terminals s.terminal_effects func.body.blocks };
    }) (sym (p ∙ ap (λ es. recorded_instructions es func.instructions) q))
    ∙ ap (λ (cs : Blocks). record func { instructions = xs; body = record func.body { blocks = cs } })
    (sym (r ∙ ap (λ es. recorded_terminals es func.body.blocks) t))
