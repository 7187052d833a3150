-- Entry states that a pass ends with solve the flow of its function beside, too.
use Rattle.std.specs.Prelude.{◌≡◌, ℕ, zero, suc, ◌+◌, ◌<◌, Bool, true, false, cond, List, [], ◌∷◌, ◌++◌, length, Option}
use Rattle.std.specs.Prelude.{Some, None, Ok, slice_get, refl}
use Rattle.std.specs.List.{list_all, flat_map, AllByRecursion}
use Rattle.std.specs.Option.{option_map_or}
use Rattle.std.proofs.Common.{ap, sym, ◌∙◌, subst}
use Rattle.std.proofs.lemmas.Bool.{ltb-true}
use Rattle.alias_base.specs.AnswerLaws.{both_true}
use Rattle.alias_base.specs.Find.{same_block, value_at}
use Rattle.alias_base.specs.declared.ids.BlockId.{BlockId}
use Rattle.alias_base.specs.declared.ids.FunctionId.{FunctionId}
use Rattle.alias_base.specs.declared.ids.InstructionId.{InstructionId}
use Rattle.alias_facts.specs.declared.facts.FunctionFacts.{FunctionFacts}
use Rattle.alias_hir.specs.Positions.{Blocks}
use Rattle.alias_hir.specs.Values.{places_of, created}
use Rattle.alias_hir.specs.declared.env.Environment.{Environment}
use Rattle.alias_hir.specs.declared.hir.BasicBlock.{BasicBlock}
use Rattle.alias_hir.specs.declared.hir.HirFunction.{HirFunction}
use Rattle.alias_hir.specs.declared.hir.Instruction.{Instruction}
use Rattle.alias_hir.specs.declared.hir.Phi.{Phi}
use Rattle.alias_hir.specs.declared.place.Place.{Place}
use Rattle.alias_visit.specs.Places.{created_places}
use Rattle.alias_rules.specs.Fitting.{place_within_tables, function_fits}
use Rattle.alias_lattice.specs.Flows.{IsReached, at_entry, by_edge}
use Rattle.alias_lattice.specs.States.{State, phied}
use Rattle.alias_flow.specs.Machine.{SolverState, VisitLog, End}
use Rattle.alias_flow.specs.Machine as end
use Rattle.alias_flow.specs.RecordingLaws.{AllHold}
use Rattle.alias_tables.specs.Tables.{TableLists}
use Rattle.alias_tables.specs.write_back.WriteBack.{tables_of}
use Rattle.alias_apply.specs.freezing.Contexts.{context_in}
use Rattle.alias_step.specs.block.Blocks.{infer_phis, infer_block}
use Rattle.alias_step.specs.block.Contexts.{BlockContext, context_of}
use Rattle.alias_step.specs.declared.block.faults.BlockRefusal.{BlockRefusal}
use Rattle.alias_step.specs.declared.block.recorded.BlockEffects.{BlockEffects}
use Rattle.alias_step_laws.specs.blocks.BlockLaws.{StateWithin}
use Rattle.alias_step_laws.specs.blocks.EntryLaws.{context_within}
use Rattle.alias_step_laws.specs.steps.StepLaws.{InstructionWithin}
use Rattle.alias_step_laws.specs.steps.Within.{CreatedWithin}
use Rattle.alias_walks.specs.Blocking.{BlockLaw, IfKnown, AreKnown}
use Rattle.alias_effects.specs.FunctionFlow.{outcome_of, outcome_at, flow_of}
use Rattle.alias_effects.specs.Inference.{entries_of, end_of, answer_of, pass_end, end_tables}
use Rattle.alias_effects.specs.Numbered.{visits_end, tables_at}
use Rattle.alias_effects.specs.Solutions.{entry_state, effects_recorded, recorded_under, IsSolvedUnder, IsSolved}
use Rattle.alias_effects.specs.declared.output.PassEnd.{PassEnd}
use Rattle.alias_effects.specs.declared.solved.BlockEntry.{BlockEntry}
use Rattle.alias_effects.specs.declared.solved.Solved.{Solved}
use Rattle.alias_effects_laws.specs.entries.Named.{CreatesHas, CreatesAt, BlocksCreate}
use Rattle.alias_effects_laws.proofs.entries.Counting.{Counted}
use Rattle.alias_effects_laws.proofs.entries.Entries.{CreateIn, tables_named}
use Rattle.alias_effects_laws.proofs.entries.Instructions.{InstructionNamed, instruction_known}
use Rattle.alias_effects_laws.proofs.entries.NamedLaw.{InTable, IsThere, Naming, naming}
use Rattle.alias_effects_laws.proofs.entries.States.{Stating, named_appended, named_phied, stating_on}
use Rattle.alias_seen_laws.specs.Beside.{Others, with_others, HasSame}
use Rattle.alias_seen_laws.proofs.steps.Applying.{Sees}
use Rattle.alias_seen_laws.proofs.steps.Blocking.{block_same}
use Rattle.alias_seen_laws.proofs.flow.Facts.{facts_beside}
use Rattle.alias_seen_laws.proofs.flow.Naming.{sees}

-- ---- lists

item_has : {X : Type 0} (Q : X → Type 0) (xs : List X) (n : ℕ) (x : X) → AllByRecursion Q xs → slice_get xs n ≡ Some x
    → Q x
item_has Q [] n x h e = cc
item_has Q (y ∷ ys) zero x h e = let is : y ≡ x = cc in subst Q is h.0
item_has Q (y ∷ ys) (suc n) x h e = item_has Q ys n x h.1 e

-- what is so of all entries is so of the value that is found
found_has : {V : Type 0} (Q : BlockId × V → Type 0) (es : List (BlockId × V)) (k : BlockId) (v : V)
    → AllByRecursion Q es → value_at es k ≡ Some v → (b : BlockId) × Q (b, v)
found_has Q [] k v h e = cc
found_has Q (x ∷ es) k v h e =
    elim (same_block k x.0) as (λ t. cond t (Some x.1) (value_at es k) ≡ Some v → (b : BlockId) × Q (b, v)) [
      | true ↦ λ g. let is : x.1 ≡ v = cc in (x.0, subst (λ w. Q (x.0, w)) is h.0)
      | false ↦ λ g. found_has Q es k v h.1 g
    ] e

state_has : (Q : State → Type 0) (es : List BlockEntry) (k : BlockId) (x : State)
    → AllByRecursion (λ (e : BlockEntry). Q e.state) es → entry_state es k ≡ Some x → Q x
state_has Q [] k x h e = cc
state_has Q (y ∷ es) k x h e =
    elim (same_block k y.block) as (λ t. cond t (Some y.state) (entry_state es k) ≡ Some x → Q x) [
      | true ↦ λ g. let is : y.state ≡ x = cc in subst Q is h.0
      | false ↦ λ g. state_has Q es k x h.1 g
    ] e

-- ---- what instructions name

module _ (env : Environment) where
  all_in_table : (ps : List Place) → list_all (place_within_tables env) ps ≡ true → AllByRecursion (InTable env) ps
  all_in_table [] h = tt
  all_in_table (p ∷ ps) h = let b = both_true (place_within_tables env p) (list_all (place_within_tables env) ps) h in
      (ltb-true p.identifier.0 (length env.identifiers) b.0, all_in_table ps b.1)

  context_there : (o : Option HirFunction) → list_all (place_within_tables env) (context_in o) ≡ true
      → AllByRecursion (InTable env) (option_map_or (λ (g : HirFunction). g.context) o [])
  context_there None h = tt
  context_there (Some g) h = all_in_table g.context h

  created_there : (o : Option FunctionId) → CreatedWithin env o → AllByRecursion (InTable env) (created_places env o)
  created_there None h = tt
  created_there (Some f) h = context_there (slice_get env.functions f.0) h.context

  module _ (F : FunctionId → Type 0) where
    -- with F, and in the table
    abbrev pub AlsoThere : FunctionId → Type 0
    AlsoThere g = F g × IsThere env g

    also_there : (o : Option FunctionId) → CreatedWithin env o → CreatesHas F o → CreatesHas AlsoThere o
    also_there None h g = tt
    also_there (Some k) h g = (
      g,
      (
        ltb-true k.0 (length env.functions) h.there,
        all_in_table (context_in (slice_get env.functions k.0)) h.context,
      ),
    )

    instruction_named : (x : Instruction) → InstructionWithin env x → CreatesHas F (created x.value)
        → InstructionNamed env AlsoThere x
    instruction_named x h g = record {
      lvalue = ltb-true x.lvalue.identifier.0 (length env.identifiers) h.lvalue;
      places = all_in_table (places_of x.value) h.places;
      context = created_there (created x.value) h.created;
      created = also_there (created x.value) h.created g;
    }

-- ---- a function

module _ (func : HirFunction) (env : Environment) (b : Bool) (fits : function_fits func env ≡ true)
    (F : FunctionId → Type 0) (creates : BlocksCreate F func) (z : Others) (same : HasSame F env z) where
  abbrev there : Environment
  there = with_others env z

  abbrev c : BlockContext
  c = context_of env func b

  abbrev d : BlockContext
  d = context_of there func b

  abbrev There : FunctionId → Type 0
  There g = AlsoThere env F g

  -- any identifiers
  abbrev N : TableLists → ℕ → Type 0
  N t n = Unit {0}

  names : Naming env N There
  names = record { identifiers = λ t n h. tt; later = λ t u x n h. tt; functions = λ f h. h.1 }

  abbrev law : BlockLaw env
  law = record {
    steps = naming env N There names;
    Stated = λ t x. Stating (N t) There x;
    Listed = λ t es. Unit {0};
    listed_later = λ t u x es h. tt;
    starts = λ x m t h. h;
    states = λ s t h. h;
    lists = λ s t h. tt;
    appends = λ x v s t p q h. named_appended (N t) There x.identifier v.identifier s.state tt h;
  }

  knows : Sees (naming env N There names) z
  knows = sees env N There names z (record {
    declares = same.declares;
    functions = λ f h. same.functions f h.0;
    params = λ f h. same.params f h.0;
  })

  abbrev Named : State → Type 0
  Named x = Stating (λ n. Unit {0}) There x

  known_at : (o : Option Instruction) → ((x : Instruction) → o ≡ Some x → InstructionWithin env x) → CreatesAt F o
      → IfKnown c law o
  known_at None h g = tt
  known_at (Some x) h g = instruction_known env There N names c.facts x (instruction_named env F x (h x refl) g)

  are_known : (is : List InstructionId)
      → AllByRecursion (λ (i : InstructionId). CreatesAt F (slice_get func.instructions i.0)) is → AreKnown c law is
  are_known [] g = tt
  are_known (i ∷ is) g = (
    known_at (slice_get func.instructions i.0)
        (λ x e. item_has (InstructionWithin env) func.instructions i.0 x (context_within func env b fits).instructions
        e) g.0,
    are_known is g.1,
  )

  phis_named : (ps : List Phi) (x : State) → Named x → Named (infer_phis ps x)
  phis_named [] x h = h
  phis_named (p ∷ ps) x h = phis_named ps (phied p.place.identifier p.operands x)
      (named_phied (λ n. Unit {0}) There p.place.identifier p.operands x tt h)

  module _ (left : TableLists) (counted : Counted env There left) where
    block_there : (k : BlockId) (block : BasicBlock) (x : State)
        → AllByRecursion (λ (i : InstructionId). CreatesAt F (slice_get func.instructions i.0)) block.instructions
        → Named x → infer_block d k block x left ≡ infer_block c k block x left
    block_there k block x g h =
        ap (λ (facts : FunctionFacts). let e : BlockContext =
        record { env = there; func = func; facts = facts; is_function_expression = b } in infer_block e k block x left)
        (facts_beside env F z same func creates)
        ∙ block_same c law z knows k block x left counted (are_known block.instructions g) (phis_named block.phis x h)

    step_at_block : (o : Option BasicBlock) (k : BlockId) (x : State)
        → ((block : BasicBlock) → o ≡ Some block
        → AllByRecursion (λ (i : InstructionId). CreatesAt F (slice_get func.instructions i.0)) block.instructions)
        → Named x → outcome_at d k o left x ≡ outcome_at c k o left x
    step_at_block None k x g h = refl
    step_at_block (Some block) k x g h = ap outcome_of (block_there k block x (g block refl) h)

    -- each block steps to the same from a state that is named so
    step_same : (k : BlockId) (x : State) → Named x → (flow_of d).step left k x ≡ (flow_of c).step left k x
    step_same k x h = step_at_block (value_at func.body.blocks k) k x
        (λ block e. (found_has (λ e. CreateIn F func e) func.body.blocks k block creates e).1) h

    reached_there : (k : BlockId) → IsReached (flow_of c) k → IsReached (flow_of d) k
    reached_there k at_entry = at_entry
    reached_there k (by_edge a e r one) = by_edge a e (reached_there a r) one

    reached_here : (k : BlockId) → IsReached (flow_of d) k → IsReached (flow_of c) k
    reached_here k at_entry = at_entry
    reached_here k (by_edge a e r one) = by_edge a e (reached_here a r) one

    recorded_same : {A : Type 0} (of : BlockEffects → List A) (es : List BlockEntry)
        → AllByRecursion (λ (e : BlockEntry). Named e.state) es
        → flat_map (λ (e : BlockEntry). of (recorded_under there func b left e)) es
        ≡ flat_map (λ (e : BlockEntry). of (recorded_under env func b left e)) es
    recorded_same of [] h = refl
    recorded_same of (e ∷ es) h =
        ap (λ o. of (effects_recorded o) ++ flat_map (λ (e : BlockEntry). of (recorded_under there func b left e)) es)
        (step_same e.block e.state h.0)
        ∙ ap (λ l. of (recorded_under env func b left e) ++ l) (recorded_same of es h.1)

    module _ (s : Solved) (named : AllByRecursion (λ (e : BlockEntry). Named e.state) s.entries)
        (h : IsSolvedUnder env func b left s) where
      at_entry_named : (k : BlockId) (x : State) → entry_state s.entries k ≡ Some x → Named x
      at_entry_named k x e = state_has Named s.entries k x named e

      solved_beside : IsSolvedUnder there func b left s
      solved_beside = record {
        in_order = h.in_order;
        solution = record {
          reached = λ k r. h.solution.reached k (reached_here k r);
          only_reached = λ k x e. reached_there k (h.solution.only_reached k x e);
          initial = h.solution.initial;
          steps = λ k x e. let t = h.solution.steps k x e in
              (t.0, t.1, step_same k x (at_entry_named k x e) ∙ t.2, t.3);
        };
        first = h.first;
        temporaries = h.temporaries;
        effects = h.effects ∙ sym (recorded_same (λ (r : BlockEffects). r.instructions) s.entries named);
        terminal_effects = h.terminal_effects
            ∙ sym (recorded_same (λ (r : BlockEffects). r.terminal) s.entries named);
        joins = λ f k x e.
            let j = h.joins f k x e in
            record {
              above = record {
                initial = j.above.initial;
                stepped = λ q y w r is step one.
                    j.above.stepped q y w r is (sym (step_same q y (at_entry_named q y is)) ∙ step) one;
              };
              least = λ u p v.
                  j.least u p (record {
                    initial = v.initial;
                    stepped = λ q y w r is step one.
                        v.stepped q y w r is (step_same q y (at_entry_named q y is) ∙ step) one;
                  });
            };
      }

  -- ---- the pass

  entries_named : (M : ℕ → Type 0) (es : Blocks) (xs : List (Option State))
      → AllHold (λ s. StateWithin env s × Stating M There s) xs
      → AllByRecursion (λ (e : BlockEntry). Named e.state) (entries_of es xs)
  entries_named M [] xs h = tt
  entries_named M (e ∷ es) [] h = tt
  entries_named M (e ∷ es) (None ∷ xs) h = entries_named M es xs h.1
  entries_named M (e ∷ es) (Some s ∷ xs) h = (
    stating_on M (λ n. Unit {0}) There There (λ n i. tt) (λ k i. i) s h.0.1,
    entries_named M es xs h.1,
  )

  ended : (x : End (VisitLog State) TableLists BlockEffects BlockRefusal) (e : PassEnd) (s : Solved) → visits_end c ≡ x
      → answer_of env func x ≡ Ok e → s.entries ≡ e.solved.entries
      → IsSolvedUnder env func b (tables_at (tables_of env) x) s → IsSolvedUnder there func b (end_tables e) s
  ended (end.Solved w) e s is given entries h =
      let same_end : end_of func w ≡ e = cc in
      let n = tables_named func env b fits F
      (λ n x reached at. item_has (CreateIn F func) func.body.blocks n x creates at) w is in
      let own : AllByRecursion (λ (e : BlockEntry). Named e.state) s.entries =
      subst (AllByRecursion (λ (e : BlockEntry). Named e.state))
      (ap (λ (q : PassEnd). q.solved.entries) same_end ∙ sym entries)
      (entries_named (λ n. n < length env.identifiers + length w.tables.temporaries) func.body.blocks
      w.progress.joined_input n.0) in
      subst (λ (q : PassEnd). IsSolvedUnder there func b (end_tables q) s) same_end
      (solved_beside w.tables n.1 s own h)
  ended (end.Fault n k) e s is given entries h = cc
  ended (end.NotSettled v) e s is given entries h = cc

  -- what a pass hands out solves the flow beside as well, under the tables that it ends with
  pub pass_beside : (e : PassEnd) (s : Solved) → pass_end env func b ≡ Ok e → s.entries ≡ e.solved.entries
      → IsSolved env func b s → IsSolvedUnder there func b (end_tables e) s
  pass_beside e s is entries h = ended (visits_end c) e s refl is entries h
