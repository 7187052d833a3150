-- The passes over a function leave the functions that it doesn't create as they are, context places and all.
use Rattle.std.specs.Prelude.{◌≡◌, ℕ, zero, suc, ◌+◌, ◌==◌, Bool, true, false, List, [], ◌∷◌, ◌++◌, length, Option, Some}
use Rattle.std.specs.Prelude.{None, Ok, if◌then◌else◌, option_map, slice_get, slice_set, refl}
use Rattle.std.specs.List.{flat_map, AllByRecursion}
use Rattle.std.specs.Option.{option_map_or}
use Rattle.std.proofs.Common.{ap, sym, ◌∙◌, subst}
use Rattle.alias_base.specs.declared.ids.BlockId.{BlockId}
use Rattle.alias_base.specs.declared.ids.EvaluationOrder.{EvaluationOrder}
use Rattle.alias_base.specs.declared.ids.FunctionId.{FunctionId}
use Rattle.alias_base.specs.declared.ids.InstructionId.{InstructionId}
use Rattle.alias_hir.specs.Values.{created}
use Rattle.alias_hir.specs.declared.effect.AliasingEffect.{AliasingEffect}
use Rattle.alias_hir.specs.declared.env.Environment.{Environment}
use Rattle.alias_hir.specs.declared.hir.BasicBlock.{BasicBlock}
use Rattle.alias_hir.specs.declared.hir.HirFunction.{HirFunction}
use Rattle.alias_hir.specs.declared.hir.Instruction.{Instruction}
use Rattle.alias_hir.specs.declared.value.InstructionValue.{InstructionValue}
use Rattle.alias_lattice.specs.Flows.{IsReached}
use Rattle.alias_lattice.specs.States.{State}
use Rattle.alias_flow.specs.Machine.{VisitLog, End}
use Rattle.alias_flow.specs.Machine as end
use Rattle.alias_graph.specs.declared.recorded.listing.Listing.{Listing}
use Rattle.alias_graph.specs.recorded.Recording.{graph_listed}
use Rattle.alias_rules.specs.Fitting.{function_fits}
use Rattle.alias_rules.specs.Nesting.{number_of, created_in}
use Rattle.alias_rules.specs.function_rules.Rules.{is_among}
use Rattle.alias_nesting_laws.specs.ClosureLaws.{among_rest}
use Rattle.alias_nesting_laws.specs.FittingLaws.{first_among}
use Rattle.alias_nesting_laws.specs.PartLaws.{not_both}
use Rattle.alias_nesting_laws.specs.SlotLaws.{set_other}
use Rattle.alias_tables.specs.Tables.{TableLists}
use Rattle.alias_tables.specs.declared.reads.ContextRead.{ContextRead}
use Rattle.alias_tables.specs.declared.temporaries.Temporary.{Temporary}
use Rattle.alias_tables.specs.write_back.WriteBack.{with_identifiers, with_context_read, with_read, with_reads}
use Rattle.alias_hir.specs.Tables.{with_identifier}
use Rattle.alias_step.specs.block.Contexts.{context_of}
use Rattle.alias_step.specs.declared.block.faults.BlockRefusal.{BlockRefusal}
use Rattle.alias_step.specs.declared.block.recorded.BlockEffects.{BlockEffects}
use Rattle.alias_step.specs.declared.block.recorded.InstructionEffects.{InstructionEffects}
use Rattle.alias_effects.specs.Inference.{end_of, answer_of, pass_end, env_after}
use Rattle.alias_effects.specs.Numbered.{numbered, visits_end}
use Rattle.alias_effects.specs.Recording.{recorded_instructions}
use Rattle.alias_effects.specs.declared.output.PassEnd.{PassEnd}
use Rattle.alias_effects_laws.specs.entries.Named.{CreatesHas, CreatesAt}
use Rattle.alias_effects_laws.proofs.entries.Counting.{ReadsHave}
use Rattle.alias_effects_laws.proofs.entries.Entries.{CreateIn, There, tables_named}
use Rattle.alias_range_pass.specs.Passes.{records, Ranged, range_pass}
use Rattle.alias_range_pass.specs.places.Blocks.{block_merged, Placed, placed_at, block_placed, blocks_placed}
use Rattle.alias_range_pass.specs.places.Instructions.{context_placed, created_placed, surroundings, surrounded}
use Rattle.alias_range_pass.specs.places.Instructions.{env_assigned, instruction_placed, placed_in, instruction_at}
use Rattle.alias_range_pass.specs.places.Instructions.{instructions_placed}
use Rattle.alias_range_pass.specs.places.Ranges.{assigned}
use Rattle.alias_range_pass.specs.places.Tables.{Table, table_of}
use Rattle.alias_range_pass.specs.summary.MarkedPlaces.{function_captured}
use Rattle.alias_range_pass.specs.summary.Walking.{Walked, env_reported, mutations_done, renders_done}
use Rattle.alias_ranges.specs.laws.AnswerLaws.{pass_is}
use Rattle.alias_answer_laws.specs.answers.KnownValueLaws.{creates_same}
use Rattle.alias_walks.specs.Words.{all_mapped}
use Rattle.alias_cause_laws.proofs.handed.Starting.{renders_same, walks_functions}

-- ---- instructions that create no function of a number

abbrev CreatesNot : ℕ → Instruction → Type 0
CreatesNot m i = (g : FunctionId) → created i.value ≡ Some g → g.0 ≡ m → ⊥

abbrev pub NoneCreate : ℕ → List Instruction → Type 0
NoneCreate m is = (n : ℕ) (i : Instruction) → slice_get is n ≡ Some i → CreatesNot m i

abbrev made_by : Instruction → List ℕ
made_by i = number_of (created i.value)

created_among : (is : List Instruction) (n : ℕ) (i : Instruction) (g : FunctionId) → slice_get is n ≡ Some i
    → created i.value ≡ Some g → is_among (flat_map made_by is) g.0 ≡ true
created_among [] n i g at c = cc
created_among (x ∷ xs) zero i g at c =
    let same : x ≡ i = cc in
    subst (λ (o : Option FunctionId). is_among (number_of o ++ flat_map made_by xs) g.0 ≡ true)
    (sym (ap (λ (z : Instruction). created z.value) same ∙ c)) (first_among g.0 (flat_map made_by xs))
created_among (x ∷ xs) (suc n) i g at c =
    among_rest (made_by x) (flat_map made_by xs) g.0 (created_among xs n i g at c)

pub none_create : (f : HirFunction) (m : ℕ) → is_among (created_in f) m ≡ false → NoneCreate m f.instructions
none_create f m h n i at g c same = not_both (is_among (created_in f) m)
    (subst (λ z. is_among (created_in f) z ≡ true) same (created_among f.instructions n i g at c)) h

-- so it stays where one is set that doesn't
set_creates : (is : List Instruction) (n : ℕ) (j : Instruction) (m : ℕ) → NoneCreate m is → CreatesNot m j
    → NoneCreate m (slice_set is n j)
set_creates [] n j m none own k i at g c = none k i at g c
set_creates (x ∷ xs) zero j m none own zero i at g c =
    let is : j ≡ i = cc in
    own g (ap (λ (z : Instruction). created z.value) is ∙ c)
set_creates (x ∷ xs) zero j m none own (suc k) i at g c = none (suc k) i at g c
set_creates (x ∷ xs) (suc n) j m none own zero i at g c = none zero i at g c
set_creates (x ∷ xs) (suc n) j m none own (suc k) i at g c =
    set_creates xs n j m (λ l. none (suc l)) own k i at g c

one_recorded : (e : InstructionEffects) (xs : List Instruction) (m : ℕ) (o : Option Instruction)
    → slice_get xs e.instruction.0 ≡ o → NoneCreate m xs
    → NoneCreate m (option_map_or (λ (x : Instruction). slice_set xs e.instruction.0
    (record x { effects = Some e.effects })) o xs)
one_recorded e xs m None at none = none
one_recorded e xs m (Some x) at none =
    set_creates xs e.instruction.0 (record x { effects = Some e.effects }) m none (none e.instruction.0 x at)

-- recorded effects change nothing of it
pub recorded_create : (es : List InstructionEffects) (is : List Instruction) (m : ℕ) → NoneCreate m is
    → NoneCreate m (recorded_instructions es is)
recorded_create [] is m none = none
recorded_create (e ∷ es) is m none =
    let rest : List Instruction = recorded_instructions es is in
    one_recorded e rest m (slice_get rest e.instruction.0) refl (recorded_create es is m none)

-- ---- an effects pass

module _ (func : HirFunction) (env : Environment) (b : Bool) (fits : function_fits func env ≡ true) where
  abbrev Own : FunctionId → Type 0
  Own g = is_among (created_in func) g.0 ≡ true

  has_created : (n : ℕ) (i : Instruction) → slice_get func.instructions n ≡ Some i → (o : Option FunctionId)
      → created i.value ≡ o → CreatesHas Own o
  has_created n i at None c = tt
  has_created n i at (Some g) c = created_among func.instructions n i g at c

  creates_at : (n : ℕ) (o : Option Instruction) → slice_get func.instructions n ≡ o → CreatesAt Own o
  creates_at n None at = tt
  creates_at n (Some i) at = has_created n i at (created i.value) refl

  all_create : (ids : List InstructionId)
      → AllByRecursion (λ (i : InstructionId). CreatesAt Own (slice_get func.instructions i.0)) ids
  all_create [] = tt
  all_create (id ∷ ids) = (creates_at id.0 (slice_get func.instructions id.0) refl, all_create ids)

  blocks_create : (n : ℕ) (x : BlockId × BasicBlock) → IsReached (numbered (context_of env func b)).flow n
      → slice_get func.body.blocks n ≡ Some x → CreateIn Own func x
  blocks_create n x reached at = all_create x.1.instructions

  reads_own : (rs : List ContextRead) → ReadsHave (There func env b fits Own blocks_create) rs
      → AllByRecursion (λ (r : ContextRead). Own r.function) rs
  reads_own [] h = tt
  reads_own (r ∷ rs) h = (h.0.0, reads_own rs h.1)

  -- it notes reads of functions alone that the function creates
  ended_reads : (x : End (VisitLog State) TableLists BlockEffects BlockRefusal) (e : PassEnd)
      → visits_end (context_of env func b) ≡ x → answer_of env func x ≡ Ok e
      → AllByRecursion (λ (r : ContextRead). Own r.function) e.reads
  ended_reads (end.Solved w) e h is =
      let same : end_of func w ≡ e = cc in
      subst (λ (z : PassEnd). AllByRecursion (λ (r : ContextRead). Own r.function) z.reads) same
      (reads_own w.tables.reads (tables_named func env b fits Own blocks_create w h).1.reads)
  ended_reads (end.Fault n c) e h is = cc
  ended_reads (end.NotSettled v) e h is = cc

other_read : (r : ContextRead) (fs : List HirFunction) (m : ℕ) (o : Option HirFunction) → (m ≡ r.function.0 → ⊥)
    → slice_get (option_map_or (λ (f : HirFunction). slice_set fs r.function.0 (with_context_read r.place f)) o fs) m
    ≡ slice_get fs m
other_read r fs m None d = refl
other_read r fs m (Some f) d = set_other fs r.function.0 m (with_context_read r.place f) d

reads_untouched : (rs : List ContextRead) (fs : List HirFunction) (m : ℕ)
    → AllByRecursion (λ (r : ContextRead). m ≡ r.function.0 → ⊥) rs → slice_get (with_reads rs fs) m ≡ slice_get fs m
reads_untouched [] fs m h = refl
reads_untouched (r ∷ rs) fs m h =
    reads_untouched rs (with_read r fs) m h.1 ∙ other_read r fs m (slice_get fs r.function.0) h.0

functions_stay : (ts : List Temporary) (env : Environment) → (with_identifiers ts env).functions ≡ env.functions
functions_stay [] env = refl
functions_stay (t ∷ ts) env = functions_stay ts (with_identifier t.place.span env)

pub pass_untouched : (func : HirFunction) (env : Environment) (b : Bool) (e : PassEnd) → function_fits func env ≡ true
    → pass_end env func b ≡ Ok e → (m : ℕ) → is_among (created_in func) m ≡ false
    → slice_get (env_after env e).functions m ≡ slice_get env.functions m
pass_untouched func env b e fits h m off =
    let own = ended_reads func env b fits (visits_end (context_of env func b)) e refl h in
    reads_untouched e.reads (with_identifiers e.solved.temporaries env).functions m
    (all_mapped (λ (r : ContextRead). is_among (created_in func) r.function.0 ≡ true)
    (λ (r : ContextRead). m ≡ r.function.0 → ⊥)
    (λ r o same. not_both (is_among (created_in func) m)
    (subst (λ z. is_among (created_in func) z ≡ true) (sym same) o) off) e.reads own)
    ∙ ap (λ fs. slice_get fs m) (functions_stay e.solved.temporaries env)

-- ---- the range pass

set_untouched : (table : Table) (g : FunctionId) (fs : List HirFunction) (m : ℕ) (o : Option HirFunction)
    → (m ≡ g.0 → ⊥)
    → slice_get (option_map_or (λ (f : HirFunction). slice_set fs g.0 (context_placed table f)) o fs) m
    ≡ slice_get fs m
set_untouched table g fs m None d = refl
set_untouched table g fs m (Some f) d = set_other fs g.0 m (context_placed table f) d

created_untouched : (table : Table) (o : Option FunctionId) (fs : List HirFunction) (m : ℕ)
    → ((g : FunctionId) → o ≡ Some g → g.0 ≡ m → ⊥) → slice_get (created_placed table o fs) m ≡ slice_get fs m
created_untouched table None fs m none = refl
created_untouched table (Some g) fs m none =
    set_untouched table g fs m (slice_get fs g.0) (λ same. none g refl (sym same))

around_untouched : (b : Bool) (table : Table) (t : EvaluationOrder) (v : InstructionValue) (env : Environment) (m : ℕ)
    → ((g : FunctionId) → created v ≡ Some g → g.0 ≡ m → ⊥)
    → slice_get (if b then env else surroundings table t v env).functions m ≡ slice_get env.functions m
around_untouched true table t v env m none = refl
around_untouched false table t v env m none = created_untouched table (created v) env.functions m none

surrounded_untouched : (o : Option (List AliasingEffect)) (table : Table) (t : EvaluationOrder) (v : InstructionValue)
    (env : Environment) (m : ℕ) → ((g : FunctionId) → created v ≡ Some g → g.0 ≡ m → ⊥)
    → slice_get (surrounded o table t v env).functions m ≡ slice_get env.functions m
surrounded_untouched None table t v env m none = refl
surrounded_untouched (Some es) table t v env m none = around_untouched (length es == 0) table t v env m none

instruction_untouched : (i : Instruction) (env : Environment) (m : ℕ) → CreatesNot m i
    → slice_get (instruction_placed i env).1.functions m ≡ slice_get env.functions m
instruction_untouched i env m none =
    surrounded_untouched i.effects (table_of (assigned i env.identifiers) i) i.id i.value (env_assigned i env) m none

placed_creates : (i : Instruction) (env : Environment) (m : ℕ) → CreatesNot m i
    → CreatesNot m (instruction_placed i env).0
placed_creates i env m none g c =
    none g (sym (creates_same (table_of (assigned i env.identifiers) i) i.value) ∙ c)

-- the function of the number is as it was, and still no instruction creates it
abbrev Leaves : ℕ → List Instruction → List HirFunction → List HirFunction → Type 0
Leaves m is old new = (slice_get new m ≡ slice_get old m) × NoneCreate m is

one_untouched : (is : List Instruction) (env : Environment) (id : InstructionId) (o : Option Instruction)
    → slice_get is id.0 ≡ o → (m : ℕ) → NoneCreate m is
    → Leaves m (placed_in is env id o).0 env.functions (placed_in is env id o).1.functions
one_untouched is env id None at m none = (refl, none)
one_untouched is env id (Some i) at m none = (
  instruction_untouched i env m (none id.0 i at),
  set_creates is id.0 (instruction_placed i env).0 m none (placed_creates i env m (none id.0 i at)),
)

ids_untouched : (ids : List InstructionId) (s : List Instruction × Environment) (m : ℕ) → NoneCreate m s.0
    → Leaves m (instructions_placed ids s).0 s.1.functions (instructions_placed ids s).1.functions
ids_untouched [] s m none = (refl, none)
ids_untouched (id ∷ ids) s m none =
    let one = one_untouched s.0 s.1 id (slice_get s.0 id.0) refl m none in
    let rest = ids_untouched ids (instruction_at s id) m one.1 in
    (rest.0 ∙ one.0, rest.1)

block_untouched : (b : Bool) (j : ℕ) (o : Option BasicBlock) (s : Placed) (m : ℕ) → NoneCreate m s.0.instructions
    → Leaves m (placed_at b j o s).0.instructions s.1.functions (placed_at b j o s).1.functions
block_untouched b j None s m none = (refl, none)
block_untouched b j (Some x) s m none =
    ids_untouched x.instructions (s.0.instructions, block_merged s.0 x s.1) m none

blocks_untouched : (b : Bool) (n j : ℕ) (s : Placed) (m : ℕ) → NoneCreate m s.0.instructions
    → slice_get (blocks_placed b n j s).1.functions m ≡ slice_get s.1.functions m
blocks_untouched b zero j s m none = refl
blocks_untouched b (suc n) j s m none =
    let one = block_untouched b j (option_map (λ (e : BlockId × BasicBlock). e.1) (slice_get s.0.body.blocks j)) s m
    none in
    blocks_untouched b n (j + 1) (block_placed b j s) m one.1 ∙ one.0

pub ranged_untouched : (b : Bool) (f : HirFunction) (env : Environment) (r : Ranged) → range_pass b f env ≡ Ok r
    → (m : ℕ) → NoneCreate m f.instructions → slice_get r.after.1.functions m ≡ slice_get env.functions m
ranged_untouched b f env r h m none =
    let p = pass_is b f env r h in
    let l : Listing = p.0 in
    let c : Bool = records b env in
    let w : Walked = mutations_done c l env in
    let walked : Environment = renders_done c l w in
    let s : Placed = (function_captured w.0 f, walked) in
    let functions : walked.functions ≡ env.functions = renders_same c l w
    ∙ walks_functions c l.mutations (graph_listed l, env_reported c l env) in
    ap (λ (z : Ranged). slice_get z.after.1.functions m) (sym p.2)
    ∙ blocks_untouched b (length f.body.blocks) 0 s m none
    ∙ ap (λ fs. slice_get fs m) functions
