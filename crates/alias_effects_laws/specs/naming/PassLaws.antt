-- What the effects pass records of a function names only what P holds of, where P holds of the places that stand in the
-- function and of the identifiers that the
-- pass may add.
use Rattle.std.specs.Prelude.{◌≡◌, ℕ, ◌≤◌, Bool, true, false, cond, List, [], ◌∷◌, ◌++◌, length, Option, Some, None, Ok}
use Rattle.std.specs.Prelude.{replicate, slice_get}
use Rattle.std.specs.List.{flat_map, AllByRecursion, fold}
use Rattle.std.specs.Option.{option_map_or}
use Rattle.std.specs.Ordering.{nat_cmp, match_ordering}
use Rattle.std.specs.BTreeMap.{is_at, insert_entry}
use Rattle.std.specs.declared.cmp.Ordering.{Ordering}
use Rattle.std.specs.declared.cmp.Ordering.TheVariants.{Less, Equal, Greater}
use Rattle.std.proofs.Common.{zero, suc, subst, refl}
use Rattle.alias_base.specs.declared.ids.BlockId.{BlockId}
use Rattle.alias_base.specs.declared.ids.FunctionId.{FunctionId}
use Rattle.alias_facts.specs.Handlers.{Bindings, binding_at, with_binding, after_terminal, after_entry}
use Rattle.alias_facts.specs.Handlers.{handler_bindings}
use Rattle.alias_hir.specs.Parts.{param_place, optional_place}
use Rattle.alias_hir.specs.Terminals.{terminal_places}
use Rattle.alias_hir.specs.Values.{places_of, created}
use Rattle.alias_hir.specs.declared.env.Environment.{Environment}
use Rattle.alias_hir.specs.declared.hir.BasicBlock.{BasicBlock}
use Rattle.alias_hir.specs.declared.hir.HirFunction.{HirFunction}
use Rattle.alias_hir.specs.declared.hir.Instruction.{Instruction}
use Rattle.alias_hir.specs.declared.place.Place.{Place}
use Rattle.alias_hir.specs.declared.terminal.Terminal.{Terminal}
use Rattle.alias_hir.specs.declared.terminal.Terminal.TheVariants.{Return, Try}
use Rattle.alias_visit.specs.Places.{created_places, instruction_places, phi_places, block_places, places_in}
use Rattle.alias_lattice.specs.Flows.{Stepped}
use Rattle.alias_lattice.specs.JoinLaws.{state_laws}
use Rattle.alias_lattice.specs.States.{State, state_join, state_below}
use Rattle.alias_flow.specs.Machine.{SolverState, VisitLog, End}
use Rattle.alias_flow.specs.Machine as end
use Rattle.alias_flow.specs.RecordingLaws.{AllHold}
use Rattle.alias_apply.specs.freezing.Contexts.{context_in}
use Rattle.alias_tables.specs.Tables.{TableLists}
use Rattle.alias_tables.specs.write_back.WriteBack.{tables_of}
use Rattle.alias_step.specs.declared.block.faults.BlockRefusal.{BlockRefusal}
use Rattle.alias_step.specs.declared.block.recorded.BlockEffects.{BlockEffects}
use Rattle.alias_step.specs.declared.block.recorded.InstructionEffects.{InstructionEffects}
use Rattle.alias_step.specs.declared.block.recorded.TerminalEffects.{TerminalEffects}
use Rattle.alias_step.specs.block.Blocks.{infer_block}
use Rattle.alias_step.specs.block.Contexts.{BlockContext, context_of}
use Rattle.alias_step.specs.block.Initial.{initial_state}
use Rattle.alias_step.specs.block.ProperLaws.{proper_initial_state}
use Rattle.alias_step.specs.block.Recorded.{no_effects}
use Rattle.alias_step_laws.specs.steps.FunctionSiteLaws.{has_join}
use Rattle.alias_walks.specs.Words.{all_appended}
use Rattle.alias_step_laws.specs.blocks.EntryLaws.{has_initial_state}
use Rattle.alias_step_laws.specs.blocks.SolutionLaws.{StepKeeps, solution_stands}
use Rattle.alias_effects.specs.declared.output.PassEnd.{PassEnd}
use Rattle.alias_effects.specs.declared.solved.Solved.{Solved}
use Rattle.alias_effects.specs.Inference.{instructions_recorded, terminal_recorded, end_of, answer_of, pass_end}
use Rattle.alias_effects.specs.Numbered.{step_at, numbered, visits_end}
use Rattle.alias_effects.specs.PassLaws.{outcome_is}
use Rattle.alias_effects_laws.specs.naming.BlockLaws.{EntriesOwn, EndsOwn, BlockEffectsOwn, StateOwns, ReturnOwns}
use Rattle.alias_effects_laws.specs.naming.BlockLaws.{ContextOwns, block_inferred}
use Rattle.alias_effects_laws.specs.naming.Owning.{Owns, OwnsAll, OwnsContext, OwnsCreated, EffectsOwn, TablesOwn}
use Rattle.alias_effects_laws.specs.naming.StepLaws.{InstructionOwns}

-- ---- lists

pub parts_of : {X : Type 0} (Q : X → Type 0) (xs ys : List X) → AllByRecursion Q (xs ++ ys) → AllByRecursion Q xs
    × AllByRecursion Q ys
parts_of Q [] ys h = (tt, h)
parts_of Q (x ∷ xs) ys h = let b = parts_of Q xs ys h.1 in ((h.0, b.0), b.1)

pub each_of : {A X : Type 0} (Q : X → Type 0) (f : A → List X) (as_ : List A) → AllByRecursion Q (flat_map f as_)
    → AllByRecursion (λ a. AllByRecursion Q (f a)) as_
each_of Q f [] h = tt
each_of Q f (a ∷ as_) h = let b = parts_of Q (f a) (flat_map f as_) h in (b.0, each_of Q f as_ b.1)

pub all_on : {X : Type 0} (Q R : X → Type 0) → ((x : X) → Q x → R x) → (xs : List X) → AllByRecursion Q xs
    → AllByRecursion R xs
all_on Q R f [] h = tt
all_on Q R f (x ∷ xs) h = (f x h.0, all_on Q R f xs h.1)

at_of : {X : Type 0} (Q : X → Type 0) (xs : List X) (n : ℕ) (x : X) → AllByRecursion Q xs → slice_get xs n ≡ Some x
    → Q x
at_of Q [] n x h e = cc
at_of Q (y ∷ ys) zero x h e = let is : y ≡ x = cc in subst Q is h.0
at_of Q (y ∷ ys) (suc n) x h e = at_of Q ys n x h.1 e

none_hold : {K : Type 0} (q : K → Type 0) (n : ℕ) → AllHold q (replicate n None)
none_hold q zero = tt
none_hold q (suc n) = (tt, none_hold q n)

-- what the pass recorded names only what P holds of
pub record SolvedNames (env : Environment) (P : ℕ → Type 0) (s : Solved) : Type 0 where
  pub instructions : AllByRecursion (λ (i : InstructionEffects). EffectsOwn env P i.effects) s.effects
  pub terminals : AllByRecursion (λ (e : TerminalEffects). EffectsOwn env P e.effects) s.terminal_effects

module _ (env : Environment) (P : ℕ → Type 0) where
  -- ---- what a function's instructions and terminals name

  context_there : (o : Option HirFunction) → OwnsAll env P (option_map_or (λ (g : HirFunction). g.context) o [])
      → OwnsAll env P (context_in o)
  context_there None h = tt
  context_there (Some g) h = h

  created_there : (o : Option FunctionId) → OwnsAll env P (created_places env o) → OwnsCreated env P o
  created_there None h = tt
  created_there (Some f) h = context_there (slice_get env.functions f.0) h

  instruction_there : (i : Instruction) → OwnsAll env P (instruction_places env i) → InstructionOwns env P i
  instruction_there i h = let b = parts_of (Owns env P) (i.lvalue ∷ created_places env (created i.value))
      (places_of i.value) h in record { lvalue = b.0.0; places = b.1; created = created_there (created i.value) b.0.1 }

  abbrev TerminalsOwn : List (BlockId × BasicBlock) → Type 0
  TerminalsOwn bs = AllByRecursion (λ (b : BlockId × BasicBlock). OwnsAll env P (terminal_places b.1.terminal)) bs

  block_there : (b : BlockId × BasicBlock) → OwnsAll env P (block_places b.1)
      → OwnsAll env P (terminal_places b.1.terminal)
  block_there b h = (parts_of (Owns env P) (flat_map phi_places b.1.phis) (terminal_places b.1.terminal) h).1

  returned : (t : Terminal) → OwnsAll env P (terminal_places t) → ReturnOwns env P t
  returned (Return id value effects) h = h.0
  returned t h = tt

  -- ---- bindings of handlers

  abbrev BindingsOwn : Bindings → Type 0
  BindingsOwn hs = AllByRecursion (λ (e : ℕ × Place). Owns env P e.1) hs

  inserted_by : (o : Ordering) (k : ℕ) (e : ℕ × Place) (es more : Bindings) (v : Place) → Owns env P v
      → BindingsOwn (e ∷ es) → BindingsOwn more
      → BindingsOwn (match_ordering o ((k, v) ∷ e ∷ es) ((e.0, v) ∷ es) (e ∷ more))
  inserted_by Less k e es more v h a g = (h, a)
  inserted_by Equal k e es more v h a g = (h, a.1)
  inserted_by Greater k e es more v h a g = (a.0, g)

  inserted : (hs : Bindings) (k : ℕ) (v : Place) → Owns env P v → BindingsOwn hs
      → BindingsOwn (insert_entry nat_cmp hs k v)
  inserted [] k v h a = (h, tt)
  inserted (e ∷ es) k v h a = inserted_by (nat_cmp k e.0) k e es (insert_entry nat_cmp es k v) v h a
      (inserted es k v h a.1)

  bound : (hs : Bindings) (b : BlockId) (p : Place) → binding_at hs b ≡ Some p → BindingsOwn hs → Owns env P p
  bound [] b p e a = cc
  bound (x ∷ hs) b p e a =
      elim (is_at (nat_cmp b.0) x.0) as (λ c. cond c (Some x.1) (binding_at hs b) ≡ Some p → Owns env P p) [
        | true ↦ λ g. let same : x.1 ≡ p = cc in subst (Owns env P) same a.0
        | false ↦ λ g. bound hs b p g a.1
      ] e

  binding_in : (hs : Bindings) (b : BlockId) (o : Option Place) → OwnsAll env P (optional_place o) → BindingsOwn hs
      → BindingsOwn (with_binding hs b o)
  binding_in hs b None h a = a
  binding_in hs b (Some p) h a = inserted hs b.0 p h.0 a

  terminal_in : (hs : Bindings) (t : Terminal) → OwnsAll env P (terminal_places t) → BindingsOwn hs
      → BindingsOwn (after_terminal hs t)
  terminal_in hs (Try id block handler handler_binding) h a = binding_in hs handler handler_binding h a
  terminal_in hs t h a = a

  entries_in : (es : List (BlockId × BasicBlock)) (hs : Bindings) → TerminalsOwn es → BindingsOwn hs
      → BindingsOwn (fold after_entry hs es)
  entries_in [] hs h a = a
  entries_in (e ∷ es) hs h a = entries_in es (after_entry hs e) h.1 (terminal_in hs e.1.terminal h.0 a)

  -- ---- the pass

  module _ (func : HirFunction) (f : Bool) (fresh : (n : ℕ) → length env.identifiers ≤ n → P n)
      (places : OwnsAll env P (places_in env func)) where
    abbrev c : BlockContext
    c = context_of env func f

    terminals : TerminalsOwn func.body.blocks
    terminals =
        let b = parts_of (Owns env P) _ (flat_map (λ (e : BlockId × BasicBlock). block_places e.1) func.body.blocks)
        places in
        all_on (λ (e : BlockId × BasicBlock). OwnsAll env P (block_places e.1))
        (λ (e : BlockId × BasicBlock). OwnsAll env P (terminal_places e.1.terminal)) block_there func.body.blocks
        (each_of (Owns env P) (λ (e : BlockId × BasicBlock). block_places e.1) func.body.blocks b.1)

    context_owns : ContextOwns c P
    context_owns =
        let b = parts_of (Owns env P) _ (flat_map (λ (e : BlockId × BasicBlock). block_places e.1) func.body.blocks)
        places in
        let d = parts_of (Owns env P) _ (func.returns ∷ flat_map (instruction_places env) func.instructions) b.0 in
        record {
          fresh = fresh;
          instructions = all_on (λ (i : Instruction). OwnsAll env P (instruction_places env i)) (InstructionOwns env P)
              instruction_there func.instructions
              (each_of (Owns env P) (instruction_places env) func.instructions d.1.1);
          bindings = λ b p e. bound (handler_bindings func) b p e (entries_in func.body.blocks [] terminals tt);
        }

    initial_owns : StateOwns env P (initial_state c)
    initial_owns = (proper_initial_state c, has_initial_state (OwnsContext env P) c)

    joins_own : (x y : State) → StateOwns env P x → StateOwns env P y → StateOwns env P (state_join x y)
    joins_own x y p q = (state_laws.closed x y p.0 q.0, has_join (OwnsContext env P) x y p.0 q.0 p.1 q.1)

    -- what is said of a record doesn't depend on the tables
    abbrev Said : TableLists → BlockEffects → Type 0
    Said t k = BlockEffectsOwn env P k

    step_owns : (n : ℕ) (o : Option (BlockId × BasicBlock)) (t : TableLists) (x y : State) (u : TableLists)
        (k : BlockEffects) → slice_get func.body.blocks n ≡ o → TablesOwn env P t → StateOwns env P x
        → step_at c o t x ≡ Stepped y u k → StepKeeps (TablesOwn env P) (StateOwns env P) Said t u y k
    step_owns n None t x y u k o i g e =
        let tables : t ≡ u = cc in
        let state : x ≡ y = cc in
        let said : no_effects ≡ k = cc in
        record {
          tables = subst (TablesOwn env P) tables i;
          state = subst (StateOwns env P) state g;
          said = subst (BlockEffectsOwn env P) said (tt, tt);
          still = λ j q. q;
        }
    step_owns n (Some b) t x y u k o i g e =
        let there = returned b.1.terminal (at_of
        (λ (z : BlockId × BasicBlock). OwnsAll env P (terminal_places z.1.terminal)) func.body.blocks n b terminals
        o) in
        let r = (block_inferred c P context_owns b.0 b.1 x there g).leads t u (y, k) i
        (outcome_is (infer_block c b.0 b.1 x t) y u k e) in
        record { tables = r.0; state = r.1.0; said = r.1.1; still = λ j q. q }

    end_owns : (w : SolverState (VisitLog State) TableLists BlockEffects) → visits_end c ≡ end.Solved w
        → AllHold (BlockEffectsOwn env P) w.recorded
    end_owns w e =
        (solution_stands state_join state_below (numbered c) (TablesOwn env P) (StateOwns env P) Said joins_own
        (λ t n x y u k i g s. step_owns n (slice_get func.body.blocks n) t x y u k refl i g s)
        (tables_of env) (replicate (length func.body.blocks) None) w (record { first = tt; temporaries = tt })
        initial_owns (none_hold (BlockEffectsOwn env P) (length func.body.blocks)) e).1

    all_instructions : (recorded : List (Option BlockEffects)) → AllHold (BlockEffectsOwn env P) recorded
        → EntriesOwn env P (flat_map instructions_recorded recorded)
    all_instructions [] a = tt
    all_instructions (None ∷ ks) a = all_instructions ks a.1
    all_instructions (Some r ∷ ks) a = all_appended (λ (i : InstructionEffects). EffectsOwn env P i.effects)
        r.instructions (flat_map instructions_recorded ks) a.0.0 (all_instructions ks a.1)

    all_terminals : (recorded : List (Option BlockEffects)) → AllHold (BlockEffectsOwn env P) recorded
        → EndsOwn env P (flat_map terminal_recorded recorded)
    all_terminals [] a = tt
    all_terminals (None ∷ ks) a = all_terminals ks a.1
    all_terminals (Some r ∷ ks) a = all_appended (λ (i : TerminalEffects). EffectsOwn env P i.effects) r.terminal
        (flat_map terminal_recorded ks) a.0.1 (all_terminals ks a.1)

    answer_names : (r : End (VisitLog State) TableLists BlockEffects BlockRefusal) (e : PassEnd) → visits_end c ≡ r
        → answer_of env func r ≡ Ok e → SolvedNames env P e.solved
    answer_names (end.Solved w) e v i =
        let same : end_of func w ≡ e = cc in
        let a = end_owns w v in
        subst (λ (z : PassEnd). SolvedNames env P z.solved) same
        (record { instructions = all_instructions w.recorded a; terminals = all_terminals w.recorded a })
    answer_names (end.Fault n k) e v i = cc
    answer_names (end.NotSettled n) e v i = cc

    -- what the pass records
    pub pass_names : (e : PassEnd) → pass_end env func f ≡ Ok e → SolvedNames env P e.solved
    pass_names e i = answer_names (visits_end c) e refl i

-- the same of what a test says
pub tested_names : (env : Environment) (func : HirFunction) (has : ℕ → Bool) (b : Bool) (e : PassEnd)
    → ((n : ℕ) → length env.identifiers ≤ n → has n ≡ true) → OwnsAll env (λ n. has n ≡ true) (places_in env func)
    → pass_end env func b ≡ Ok e → SolvedNames env (λ n. has n ≡ true) e.solved
tested_names env func has b e fresh places i = pass_names env (λ n. has n ≡ true) func b fresh places e i
