-- The entry states that an effects pass ends with name only what is there, and its temporaries are counted on from the
-- identifiers.
use Rattle.std.specs.Prelude.{◌≡◌, ℕ, ◌+◌, ◌<◌, Bool, true, List, [], ◌∷◌, ◌++◌, length, Option, Some, None, Result, Ok}
use Rattle.std.specs.Prelude.{replicate, slice_get, refl, ⊤}
use Rattle.std.specs.List.{list_all, AllByRecursion}
use Rattle.std.specs.Option.{option_map_or}
use Rattle.std.proofs.Common.{zero, suc, subst, ap, arith, length-append}
use Rattle.std.proofs.lemmas.Bool.{ltb-true}
use Rattle.std.proofs.lemmas.List.{length-replicate}
use Rattle.alias_base.specs.Answer.{all_pass}
use Rattle.alias_base.specs.AnswerLaws.{both_pass, both_true}
use Rattle.alias_base.specs.declared.ids.BlockId.{BlockId}
use Rattle.alias_base.specs.declared.ids.FunctionId.{FunctionId}
use Rattle.alias_base.specs.declared.ids.InstructionId.{InstructionId}
use Rattle.alias_facts.specs.Handlers.{binding_at}
use Rattle.alias_rules.specs.function_rules.Rules.{place_fits, phi_fits, block_fits}
use Rattle.alias_rules.specs.declared.function_rules.fault.UnitFault.{UnitFault}
use Rattle.alias_hir.specs.Parts.{param_place}
use Rattle.alias_hir.specs.Values.{places_of, created}
use Rattle.alias_hir.specs.declared.env.Environment.{Environment}
use Rattle.alias_hir.specs.declared.hir.BasicBlock.{BasicBlock}
use Rattle.alias_hir.specs.declared.hir.HirFunction.{HirFunction}
use Rattle.alias_hir.specs.declared.hir.Instruction.{Instruction}
use Rattle.alias_hir.specs.declared.hir.ParamPattern.{ParamPattern}
use Rattle.alias_hir.specs.declared.hir.Phi.{Phi}
use Rattle.alias_hir.specs.declared.place.Place.{Place}
use Rattle.alias_hir.specs.declared.terminal.Terminal.{Terminal}
use Rattle.alias_hir.specs.declared.terminal.Terminal.TheVariants.{Return}
use Rattle.alias_visit.specs.Places.{created_places}
use Rattle.alias_lattice.specs.Flows.{Stepped, IsReached, at_entry, by_edge}
use Rattle.alias_lattice.specs.JoinLaws.{state_laws}
use Rattle.alias_lattice.specs.States.{State, state_join, state_below}
use Rattle.alias_flow.specs.Machine.{SolverState, VisitLog}
use Rattle.alias_flow.specs.Machine as end
use Rattle.alias_flow.specs.RecordingLaws.{AllHold}
use Rattle.alias_apply.specs.freezing.Contexts.{context_in, context_of as context_at}
use Rattle.alias_rules.specs.Fitting.{place_within_tables, function_fits}
use Rattle.alias_tables.specs.GrowingLaws.{Grows, Extends}
use Rattle.alias_tables.specs.Tables.{TableLists}
use Rattle.alias_tables.specs.declared.temporaries.Temporary.{Temporary}
use Rattle.alias_tables.specs.write_back.WriteBack.{tables_of}
use Rattle.alias_step.specs.declared.block.recorded.BlockEffects.{BlockEffects}
use Rattle.alias_step.specs.block.Blocks.{infer_block}
use Rattle.alias_step.specs.block.Contexts.{BlockContext, context_of}
use Rattle.alias_step.specs.block.Initial.{initial_state}
use Rattle.alias_step.specs.block.ProperLaws.{proper_initial_state}
use Rattle.alias_walks.specs.Blocks.{again_infer_block}
use Rattle.alias_step_laws.specs.steps.FunctionSiteLaws.{has_join}
use Rattle.alias_step_laws.specs.steps.StepLaws.{InstructionWithin}
use Rattle.alias_step_laws.specs.steps.Within.{FunctionWithin, CreatedWithin, TablesWithin}
use Rattle.alias_step_laws.specs.blocks.BlockLaws.{ReturnWithin, StateWithin}
use Rattle.alias_step_laws.specs.blocks.ContextLaws.{place_of, fits_has, numbers_of}
use Rattle.alias_step_laws.specs.blocks.EntryLaws.{context_within, return_within, has_initial_state}
use Rattle.alias_effects.specs.Numbered.{step_at, numbered, visits_end}
use Rattle.alias_effects.specs.PassLaws.{outcome_is}
use Rattle.alias_effects.proofs.StillFits.{begun_within, position_within}
use Rattle.alias_effects_laws.specs.entries.Named.{StateNamed, CreatesHas, CreatesAt, BlocksCreate, EntriesNamed}
use Rattle.alias_effects_laws.proofs.entries.Blocks.{named_initial_state, PhisNamed, OptionNamed, AreNamed, ReturnNamed}
use Rattle.alias_effects_laws.proofs.entries.Blocks.{block_named}
use Rattle.alias_effects_laws.proofs.entries.Counting.{Counted}
use Rattle.alias_effects_laws.proofs.entries.Instructions.{InstructionNamed}
use Rattle.alias_effects_laws.proofs.entries.Keeping.{Kept, solution_keeps}
use Rattle.alias_effects_laws.proofs.entries.NamedLaw.{InTable, IsThere, Naming}
use Rattle.alias_effects_laws.proofs.entries.States.{Stating, named_join, stating_on, state_named}
use Rattle.alias_walks.specs.Words.{all_mapped as all_on}

-- ---- lists

each_passes : {X : Type 0} (f : X → Result ⊤ UnitFault) (Q : X → Type 0) → ((x : X) → f x ≡ Ok tt → Q x) → (xs : List X)
    → all_pass f xs ≡ Ok tt → AllByRecursion Q xs
each_passes f Q g [] h = tt
each_passes f Q g (x ∷ xs) h = let b : (f x ≡ Ok tt) × (all_pass f xs ≡ Ok tt) = both_pass (f x) (all_pass f xs) h in
    (g x b.0, each_passes f Q g xs b.1)

at_of : {X : Type 0} (Q : X → Type 0) (xs : List X) (n : ℕ) (x : X) → AllByRecursion Q xs → slice_get xs n ≡ Some x
    → Q x
at_of Q [] n x h e = cc
at_of Q (y ∷ ys) zero x h e = let is : y ≡ x = cc in subst Q is h.0
at_of Q (y ∷ ys) (suc n) x h e = at_of Q ys n x h.1 e

-- ---- what a function that fits names

-- each function that an instruction of the block creates has F
abbrev pub CreateIn : (FunctionId → Type 0) → HirFunction → BlockId × BasicBlock → Type 0
CreateIn F func b = AllByRecursion (λ (i : InstructionId). CreatesAt F (slice_get func.instructions i.0))
    b.1.instructions

module _ (env : Environment) where
  in_table : (p : Place) → place_within_tables env p ≡ true → InTable env p
  in_table p h = ltb-true p.identifier.0 (length env.identifiers) h

  all_in_table : (ps : List Place) → list_all (place_within_tables env) ps ≡ true → AllByRecursion (InTable env) ps
  all_in_table [] h = tt
  all_in_table (p ∷ ps) h = let b = both_true (place_within_tables env p) (list_all (place_within_tables env) ps) h in
      (in_table p b.0, all_in_table ps b.1)

  place_passes : (p : Place) → place_fits env p ≡ Ok tt → InTable env p
  place_passes p h = in_table p (place_of env p h)

  context_there : (o : Option HirFunction) → list_all (place_within_tables env) (context_in o) ≡ true
      → AllByRecursion (InTable env) (option_map_or (λ (g : HirFunction). g.context) o [])
  context_there None h = tt
  context_there (Some g) h = all_in_table g.context h

  created_there : (o : Option FunctionId) → CreatedWithin env o → AllByRecursion (InTable env) (created_places env o)
  created_there None h = tt
  created_there (Some f) h = context_there (slice_get env.functions f.0) h.context

  phi_passes : (p : Phi) → phi_fits env p ≡ Ok tt → InTable env p.place
  phi_passes p h = place_passes p.place (both_pass (place_fits env p.place) _ h).0

  phis_pass : (g : HirFunction) (b : BasicBlock) → block_fits env g b ≡ Ok tt
      → AllByRecursion (λ (p : Phi). InTable env p.place) b.phis
  phis_pass g b h = each_passes (phi_fits env) (λ (p : Phi). InTable env p.place) phi_passes b.phis
      (both_pass (all_pass (phi_fits env) b.phis) _ h).0

module _ (func : HirFunction) (env : Environment) (f : Bool) (fits : function_fits func env ≡ true) where
  pub bindings_named : (b : BlockId) (p : Place) → binding_at (context_of env func f).facts.handlers b ≡ Some p
      → InTable env p
  bindings_named b p e = in_table env p ((context_within func env f fits).bindings b p e)

  return_at : (end : Terminal) → ReturnWithin env end → ReturnNamed env end
  return_at (Return id value effects) h = in_table env value h
  return_at end h = tt

  pub return_named : (n : ℕ) (b : BlockId × BasicBlock) → slice_get func.body.blocks n ≡ Some b
      → ReturnNamed env b.1.terminal
  return_named n b e = return_at b.1.terminal (return_within func env n b fits e)

module _ (func : HirFunction) (env : Environment) (f : Bool) (fits : function_fits func env ≡ true)
    (F : FunctionId → Type 0) (functions : (g : FunctionId) → F g → IsThere env g)
    (creates : (n : ℕ) (b : BlockId × BasicBlock) → IsReached (numbered (context_of env func f)).flow n
    → slice_get func.body.blocks n ≡ Some b → CreateIn F func b) where
  abbrev c : BlockContext
  c = context_of env func f

  -- the identifiers of the table and of the temporaries
  abbrev N : TableLists → ℕ → Type 0
  N t n = n < length env.identifiers + length t.temporaries

  known : (t : TableLists) (n : ℕ) → n < length env.identifiers → N t n
  known t n h = omega (arith, h)

  abbrev Good : TableLists → State → Type 0
  Good t x = StateWithin env x × Stating (N t) F x

  abbrev Invariant : TableLists → Type 0
  Invariant t = TablesWithin env t × Counted env F t

  -- ---- what the blocks name

  instruction_named : (x : Instruction) → InstructionWithin env x → CreatesHas F (created x.value)
      → InstructionNamed env F x
  instruction_named x h g = record {
    lvalue = in_table env x.lvalue h.lvalue;
    places = all_in_table env (places_of x.value) h.places;
    context = created_there env (created x.value) h.created;
    created = g;
  }

  option_named : (o : Option Instruction) → ((x : Instruction) → o ≡ Some x → InstructionWithin env x) → CreatesAt F o
      → OptionNamed env F o
  option_named None h g = tt
  option_named (Some x) h g = instruction_named x (h x refl) g

  are_named : (is : List InstructionId) → AllByRecursion
      (λ (i : InstructionId). CreatesAt F (slice_get func.instructions i.0)) is → AreNamed env F func is
  are_named [] g = tt
  are_named (i ∷ is) g = (
    option_named (slice_get func.instructions i.0)
        (λ x e. at_of (InstructionWithin env) func.instructions i.0 x (context_within func env f fits).instructions e)
        g.0,
    are_named is g.1,
  )

  phis_named : (t : TableLists) (n : ℕ) (b : BlockId × BasicBlock) → slice_get func.body.blocks n ≡ Some b
      → PhisNamed (N t) F b.1.phis
  phis_named t n b e =
      let blocks = each_passes (λ (e : BlockId × BasicBlock). block_fits env func e.1)
      (λ (e : BlockId × BasicBlock). AllByRecursion (λ (p : Phi). InTable env p.place) e.1.phis)
      (λ e. phis_pass env func e.1) func.body.blocks
      (numbers_of env func (fits_has func env fits).numbers).blocks in
      all_on (λ (p : Phi). InTable env p.place) (λ (p : Phi). N t p.place.identifier.0)
      (λ p. known t p.place.identifier.0) b.1.phis
      (at_of (λ (e : BlockId × BasicBlock). AllByRecursion (λ (p : Phi). InTable env p.place) e.1.phis) func.body.blocks
      n b blocks e)

  -- ---- the entry

  initial_good : (t : TableLists) → Good t (initial_state c)
  initial_good t =
      let fit = fits_has func env fits in
      let context = each_passes (place_fits env) (InTable env) (place_passes env) func.context
      (numbers_of env func fit.numbers).context in
      let params = each_passes (λ (p : ParamPattern). place_fits env (param_place p))
      (λ (p : ParamPattern). InTable env (param_place p)) (λ p. place_passes env (param_place p)) func.params
      (both_pass (all_pass (λ (p : ParamPattern). place_fits env (param_place p)) func.params) _ fit.numbers).0 in (
        (proper_initial_state c, has_initial_state (FunctionWithin env) c),
        named_initial_state (N t) F c
            (all_on (InTable env) (λ (p : Place). N t p.identifier.0) (λ p. known t p.identifier.0) func.context
            context)
            (all_on (λ (p : ParamPattern). InTable env (param_place p))
            (λ (p : ParamPattern). N t (param_place p).identifier.0) (λ p. known t (param_place p).identifier.0)
            func.params params),
      )

  joins_good : (t : TableLists) (x y : State) → Good t x → Good t y → Good t (state_join x y)
  joins_good t x y p q = (
    (state_laws.closed x y p.0.0 q.0.0, has_join (FunctionWithin env) x y p.0.0 q.0.0 p.0.1 q.0.1),
    named_join (N t) F x y p.0.0 q.0.0 p.1 q.1,
  )

  -- ---- a step

  more_named : (t u : TableLists) → Grows t.temporaries u.temporaries → (n : ℕ) → N t n → N u n
  more_named t u g n h =
      let l = length-append t.temporaries g.more in
      let e : length (t.temporaries ++ g.more) ≡ length u.temporaries = ap (λ (ts : List Temporary). length ts) g.is in
      omega (arith, h, l, e)

  names : Naming env N F
  names = record { identifiers = λ t n h. h; later = λ t u x. more_named t u x.temporaries; functions = functions }

  good_on : (t u : TableLists) → Grows t.temporaries u.temporaries → (x : State) → Good t x → Good u x
  good_on t u g x h = (h.0, stating_on (N t) (N u) F F (more_named t u g) (λ k i. i) x h.1)

  block_kept : (n : ℕ) (b : BlockId × BasicBlock) (t : TableLists) (x y : State) (u : TableLists) (k : BlockEffects)
      → IsReached (numbered c).flow n → slice_get func.body.blocks n ≡ Some b → TablesWithin env u → StateWithin env y
      → Invariant t → Good t x
      → infer_block c b.0 b.1 x t ≡ Ok ((y, k), u) → Kept Invariant Good t u y
  block_kept n b t x y u k reached at_index tables state i g e =
      let grown : Extends t u = (again_infer_block c b.0 b.1 x).grows t u (y, k) e in
      let r = block_named c N F names (bindings_named func env f fits) b.0 b.1 x t u y k (phis_named t n b at_index)
      (are_named b.1.instructions (creates n b reached at_index)) (return_named func env f fits n b at_index) i.1
      g.1 e in
      record { tables = (tables, r.0); state = (state, r.1); still = good_on t u grown.temporaries }

  step_kept : (n : ℕ) (o : Option (BlockId × BasicBlock)) (t : TableLists) (x y : State) (u : TableLists)
      (k : BlockEffects) → IsReached (numbered c).flow n → slice_get func.body.blocks n ≡ o → TablesWithin env u
      → StateWithin env y → Invariant t → Good t x
      → step_at c o t x ≡ Stepped y u k → Kept Invariant Good t u y
  step_kept n None t x y u k reached o tables state i g e =
      let same : t ≡ u = cc in
      let still : x ≡ y = cc in
      let here : Good t y = subst (Good t) still g in
      record {
        tables = subst Invariant same i;
        state = subst (λ v. Good v y) same here;
        still = λ z q. subst (λ v. Good v z) same q;
      }
  step_kept n (Some b) t x y u k reached o tables state i g e =
      block_kept n b t x y u k reached o tables state i g (outcome_is (infer_block c b.0 b.1 x t) y u k e)

  -- ---- the visits

  -- the entry states at the end, and the tables
  entries_kept : (w : SolverState (VisitLog State) TableLists BlockEffects) → visits_end c ≡ end.Solved w
      → AllHold (Good w.tables) w.progress.joined_input × Counted env F w.tables
  entries_kept w e =
      let r = solution_keeps state_join state_below (numbered c) Invariant Good (length func.body.blocks) joins_good
      (IsReached (numbered c).flow) at_entry (λ b d reached one. by_edge b d reached one)
      (λ t n x y u k reached i g s. let q = position_within func env f fits n t x y u k i.0 g.0 s in
      step_kept n (slice_get func.body.blocks n) t x y u k reached refl q.tables q.state i g s)
      (tables_of env) (replicate (length func.body.blocks) None) w
      (begun_within func env f fits, record { first = tt; temporaries = tt; reads = tt })
      (initial_good (tables_of env)) (length-replicate (length func.body.blocks) None) e in
      (r.1, r.0.1)

-- ---- with functions that have F, which are those of the table where they are created

module _ (func : HirFunction) (env : Environment) (f : Bool) (fits : function_fits func env ≡ true)
    (F : FunctionId → Type 0)
    (creates : (n : ℕ) (b : BlockId × BasicBlock) → IsReached (numbered (context_of env func f)).flow n
    → slice_get func.body.blocks n ≡ Some b → CreateIn F func b) where
  abbrev pub There : FunctionId → Type 0
  There g = F g × IsThere env g

  created_in_table : (o : Option FunctionId) → CreatedWithin env o → CreatesHas F o → CreatesHas There o
  created_in_table None h g = tt
  created_in_table (Some k) h g = (
    g,
    (
      ltb-true k.0 (length env.functions) h.there,
      all_in_table env (context_at env k) h.context,
    ),
  )

  creates_at : (o : Option Instruction) → ((x : Instruction) → o ≡ Some x → InstructionWithin env x) → CreatesAt F o
      → CreatesAt There o
  creates_at None h g = tt
  creates_at (Some x) h g = created_in_table (created x.value) (h x refl).created g

  reached_create : (n : ℕ) (b : BlockId × BasicBlock) → IsReached (numbered (context_of env func f)).flow n
      → slice_get func.body.blocks n ≡ Some b → CreateIn There func b
  reached_create n b reached at =
      all_on (λ (i : InstructionId). CreatesAt F (slice_get func.instructions i.0))
      (λ (i : InstructionId). CreatesAt There (slice_get func.instructions i.0))
      (λ i. creates_at (slice_get func.instructions i.0)
      (λ x e. at_of (InstructionWithin env) func.instructions i.0 x (context_within func env f fits).instructions
      e)) b.1.instructions (creates n b reached at)

  all_named : (t : TableLists) (xs : List (Option State))
      → AllHold (λ s. StateWithin env s × Stating (λ n. n < length env.identifiers + length t.temporaries) There s) xs
      → AllHold (StateNamed (λ n. n < length env.identifiers + length t.temporaries) F) xs
  all_named t [] h = tt
  all_named t (None ∷ xs) h = (tt, all_named t xs h.1)
  all_named t (Some s ∷ xs) h =
      let M : ℕ → Type 0 = λ n. n < length env.identifiers + length t.temporaries in
      (state_named M F s (stating_on M M There F (λ n i. i) (λ k i. i.0) s h.0.1), all_named t xs h.1)

  -- where reached blocks create functions with F: the entry states, and the tables, context places that were read among
  -- them
  pub tables_named : (w : SolverState (VisitLog State) TableLists BlockEffects) → visits_end (context_of env func f)
      ≡ end.Solved w
      → AllHold (λ s. StateWithin env s × Stating (λ n. n < length env.identifiers + length w.tables.temporaries) There
      s) w.progress.joined_input × Counted env There w.tables
  tables_named w e = entries_kept func env f fits There (λ k i. i.1) reached_create w e

  -- what the instructions of a reached block name
  pub instructions_named : (n : ℕ) (b : BlockId × BasicBlock) → IsReached (numbered (context_of env func f)).flow n
      → slice_get func.body.blocks n ≡ Some b → AreNamed env There func b.1.instructions
  instructions_named n b reached at = are_named func env f fits There (λ k i. i.1) reached_create b.1.instructions
      (reached_create n b reached at)

  pub reached_named : (w : SolverState (VisitLog State) TableLists BlockEffects) → visits_end (context_of env func f)
      ≡ end.Solved w → EntriesNamed env F w
  reached_named w e = let r = tables_named w e in
      record { states = all_named w.tables w.progress.joined_input r.0; temporaries = r.1.temporaries }

-- where all blocks do
pub entries_named : (func : HirFunction) (env : Environment) (f : Bool) → function_fits func env ≡ true
    → (F : FunctionId → Type 0) → BlocksCreate F func → (w : SolverState (VisitLog State) TableLists BlockEffects)
    → visits_end (context_of env func f) ≡ end.Solved w → EntriesNamed env F w
entries_named func env f fits F creates w e =
    reached_named func env f fits F (λ n b reached at.
    at_of (λ (z : BlockId × BasicBlock). CreateIn F func z) func.body.blocks n b creates at) w e
