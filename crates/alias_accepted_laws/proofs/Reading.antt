-- What an effects pass notes of context places is of functions that an instruction creates that carries an effect
-- afterwards.
use Rattle.std.specs.Prelude.{◌≡◌, ℕ, Bool, true, List, [], ◌∷◌, length, replicate, Option, Some, None, Ok, slice_get}
use Rattle.std.specs.Prelude.{slice_index_or, is_some, refl}
use Rattle.std.proofs.Common.{zero, suc, inl, inr, ap, sym, ◌∙◌, subst}
use Rattle.std.specs.List.{flat_map, AllByRecursion}
use Rattle.alias_base.specs.declared.ids.BlockId.{BlockId}
use Rattle.alias_base.specs.declared.ids.FunctionId.{FunctionId}
use Rattle.alias_base.specs.declared.ids.InstructionId.{InstructionId}
use Rattle.alias_hir.specs.Values.{created}
use Rattle.alias_hir.specs.declared.env.Environment.{Environment}
use Rattle.alias_hir.specs.declared.hir.BasicBlock.{BasicBlock}
use Rattle.alias_hir.specs.declared.hir.HirFunction.{HirFunction}
use Rattle.alias_hir.specs.declared.hir.Instruction.{Instruction}
use Rattle.alias_lattice.specs.Flows.{Stepped, IsReached}
use Rattle.alias_lattice.specs.States.{State}
use Rattle.alias_flow.specs.Machine.{SolverState, VisitLog, Solved}
use Rattle.alias_flow.specs.Solutions.{entry_at, RecordsSteps, KeepsOthers}
use Rattle.alias_graph.specs.Walks.{IsOneOf}
use Rattle.alias_rules.specs.Fitting.{function_fits}
use Rattle.alias_rules.specs.RuleLaws.{fitting_entry}
use Rattle.alias_tables.specs.Tables.{TableLists}
use Rattle.alias_tables.specs.declared.reads.ContextRead.{ContextRead}
use Rattle.alias_step.specs.block.Contexts.{context_of}
use Rattle.alias_step.specs.declared.block.recorded.BlockEffects.{BlockEffects}
use Rattle.alias_step.specs.block.Blocks.{infer_block}
use Rattle.alias_effects.specs.Inference.{solved_of, instructions_recorded}
use Rattle.alias_effects.specs.Numbered.{numbered, step_at, visits_end}
use Rattle.alias_effects.specs.PassLaws.{outcome_is}
use Rattle.alias_effects.specs.Recording.{with_effects_of}
use Rattle.alias_effects_laws.specs.entries.Named.{CreatesHas, CreatesAt}
use Rattle.alias_effects_laws.proofs.entries.Entries.{CreateIn, There, tables_named}
use Rattle.alias_effects_laws.proofs.entries.Counting.{ReadsHave}
use Rattle.alias_accepted_laws.specs.Following.{ReadsAreSet, ReadsAreSetIn}
use Rattle.alias_range_alike_laws.specs.Ranging.{SetsContext}
use Rattle.alias_accepted_laws.proofs.Recording.{AllFilled, HasEntry, block_filled, block_enters}
use Rattle.alias_accepted_laws.proofs.Solved.{IsSolved, is_solved}
use Rattle.alias_accepted_laws.proofs.Setting.{sets_context, recorded_filled, recorded_enters}

-- an instruction of a reached block creates the function
pub record CreatedThere (env : Environment) (func : HirFunction) (b : Bool) (f : FunctionId) : Type 0 where
  pub slot : ℕ
  pub reached : IsReached (numbered (context_of env func b)).flow slot
  pub block : BlockId × BasicBlock
  pub block_there : slice_get func.body.blocks slot ≡ Some block
  pub id : InstructionId
  pub listed : IsOneOf id block.1.instructions
  pub instruction : Instruction
  pub there : slice_get func.instructions id.0 ≡ Some instruction
  pub creates : created instruction.value ≡ Some f

module _ (env : Environment) (func : HirFunction) (b : Bool) where
  abbrev F : FunctionId → Type 0
  F f = CreatedThere env func b f

  module _ (slot : ℕ) (block : BlockId × BasicBlock) (reached : IsReached (numbered (context_of env func b)).flow slot)
      (there : slice_get func.body.blocks slot ≡ Some block) where
    has_created : (id : InstructionId) (i : Instruction) → IsOneOf id block.1.instructions
        → slice_get func.instructions id.0 ≡ Some i → (o : Option FunctionId) → created i.value ≡ o → CreatesHas F o
    has_created id i listed at None e = tt
    has_created id i listed at (Some f) e =
        record {
          slot = slot;
          reached = reached;
          block = block;
          block_there = there;
          id = id;
          listed = listed;
          instruction = i;
          there = at;
          creates = e;
        }

    created_at : (id : InstructionId) → IsOneOf id block.1.instructions → (o : Option Instruction)
        → slice_get func.instructions id.0 ≡ o → CreatesAt F o
    created_at id listed None at = tt
    created_at id listed (Some i) at = has_created id i listed at (created i.value) refl

    all_created : (ids : List InstructionId) → ((id : InstructionId) → IsOneOf id ids → IsOneOf id block.1.instructions)
        → AllByRecursion (λ (i : InstructionId). CreatesAt F (slice_get func.instructions i.0)) ids
    all_created [] within = tt
    all_created (id ∷ ids) within = (
      created_at id (within id (inl refl)) (slice_get func.instructions id.0) refl,
      all_created ids (λ j i. within j (inr i)),
    )

  pub reached_create : (slot : ℕ) (block : BlockId × BasicBlock)
      → IsReached (numbered (context_of env func b)).flow slot → slice_get func.body.blocks slot ≡ Some block
      → CreateIn F func block
  reached_create slot block reached there = all_created slot block reached there block.1.instructions (λ id i. i)

  module _ (entries : List (Option State)) (tables : TableLists) (recorded : List (Option BlockEffects))
      (reached_has : (n : ℕ) → IsReached (numbered (context_of env func b)).flow n → (s : State)
      × (entry_at entries n ≡ Some s))
      (keeps : RecordsSteps (numbered (context_of env func b)).flow tables (entry_at entries) recorded)
      (others : KeepsOthers (entry_at entries) (replicate (length func.body.blocks) None) recorded) where
    step_is : (n : ℕ) (block : BlockId × BasicBlock) (s y : State) (k : BlockEffects) → slice_get func.body.blocks n
        ≡ Some block → (numbered (context_of env func b)).flow.step tables n s ≡ Stepped y tables k
        → infer_block (context_of env func b) block.0 block.1 s tables ≡ Ok ((y, k), tables)
    step_is n block s y k there step = outcome_is (infer_block (context_of env func b) block.0 block.1 s tables) y
        tables k (sym (ap (λ z. step_at (context_of env func b) z tables s) there) ∙ step)

    filled_at : (n : ℕ) (o : Option (BlockId × BasicBlock)) (s y : State) (k : BlockEffects)
        → slice_get func.body.blocks n ≡ o → (numbered (context_of env func b)).flow.step tables n s
        ≡ Stepped y tables k → AllFilled k.instructions
    filled_at n None s y k there step =
        let here : Stepped s tables (record { instructions = []; terminal = [] }) ≡ Stepped y tables k =
        sym (ap (λ z. step_at (context_of env func b) z tables s) there) ∙ step in
        let nothing : record { instructions = []; terminal = [] } ≡ k = cc in
        subst (λ (z : BlockEffects). AllFilled z.instructions) nothing tt
    filled_at n (Some block) s y k there step =
        block_filled (context_of env func b) block.0 block.1 s tables tables (y, k) (step_is n block s y k there step)

    none_there : (n m : ℕ) → slice_index_or (replicate {A = Option BlockEffects} m None) n None ≡ None
    none_there n zero = refl
    none_there zero (suc m) = refl
    none_there (suc n) (suc m) = none_there n m

    filled_by : (n : ℕ) (o : Option State) (k : BlockEffects) → entry_at entries n ≡ o → slice_index_or recorded n None
        ≡ Some k → AllFilled k.instructions
    filled_by n None k is e = let no : None ≡ Some k = sym (others n is ∙ none_there n (length func.body.blocks)) ∙ e in
        cc
    filled_by n (Some s) k is e =
        let r = keeps n s is in
        let same : Some r.1 ≡ Some k = sym r.3 ∙ e in
        let one : r.1 ≡ k = cc in
        subst (λ (z : BlockEffects). AllFilled z.instructions) one
        (filled_at n (slice_get func.body.blocks n) s r.0 r.1 refl r.2)

    all_are_filled : AllFilled (flat_map instructions_recorded recorded)
    all_are_filled = recorded_filled recorded (λ n k e. filled_by n (entry_at entries n) k refl e)

    -- a function that is created there has its context places set
    pub created_set : (w : SolverState (VisitLog State) TableLists BlockEffects) → w.recorded ≡ recorded
        → (f : FunctionId) → CreatedThere env func b f → SetsContext (with_effects_of (solved_of func w) func) f.0
    created_set w same f c =
        let x = reached_has c.slot c.reached in
        let r = keeps c.slot x.0 x.1 in
        let entry : HasEntry r.1.instructions c.id
        = block_enters (context_of env func b) c.id c.instruction f c.there c.creates c.block.0 c.block.1 x.0 c.listed
        tables tables (r.0, r.1) (step_is c.slot c.block x.0 r.0 r.1 c.block_there r.2) in
        sets_context func (solved_of func w) (subst (λ rs. AllFilled (flat_map instructions_recorded rs)) (sym same)
        all_are_filled) f.0 c.slot c.block c.block_there c.id c.listed c.instruction c.there c.creates
        (subst (λ rs. HasEntry (flat_map instructions_recorded rs) c.id) (sym same)
        (recorded_enters recorded c.slot r.1 c.id r.3 entry))

-- ---- an effects pass

some_state : (o : Option State) → is_some o ≡ true → (s : State) × (o ≡ Some s)
some_state None h = cc
some_state (Some s) h = (s, refl)

module _ (env : Environment) (func : HirFunction) (b : Bool) (w : SolverState (VisitLog State) TableLists BlockEffects)
    (fits : function_fits func env ≡ true) (ends : visits_end (context_of env func b) ≡ Solved w) where
  solved : IsSolved env func b w
  solved = is_solved env func b (fitting_entry func env fits) w ends

  abbrev pub Own : FunctionId → Type 0
  Own = There func env b fits (CreatedThere env func b) (reached_create env func b)

  reads_have : ReadsHave Own w.tables.reads
  reads_have = (tables_named func env b fits (CreatedThere env func b) (reached_create env func b) w ends).1.reads

  read_set : (f : FunctionId) → Own f → SetsContext (with_effects_of (solved_of func w) func) f.0
  read_set f h =
      created_set env func b w.progress.joined_input w.tables w.recorded
      (λ n r. some_state (entry_at w.progress.joined_input n) (solved.solves.reached n r)) solved.records
      solved.others w refl f h.0

  pub all_set : (rs : List ContextRead) → ReadsHave Own rs → ReadsAreSetIn (with_effects_of (solved_of func w) func) rs
  all_set [] h = tt
  all_set (r ∷ rs) h = (read_set r.function h.0, all_set rs h.1)

pub reads_are_set : ReadsAreSet
reads_are_set env func b w fits ends = all_set env func b w fits ends w.tables.reads (reads_have env func b w fits ends)
