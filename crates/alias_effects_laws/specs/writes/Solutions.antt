-- In what a solution hands out, each forbidden write of a reached block stands as an error.
use Rattle.std.specs.Prelude.{◌≡◌, ℕ, Bool, true, false, cond, List, [], ◌∷◌, ◌++◌, Option, None, Some, Result, Ok, Err}
use Rattle.std.specs.Prelude.{refl}
use Rattle.std.specs.List.{AllByRecursion, flat_map, list_any}
use Rattle.std.proofs.Common.{ap, sym, ◌∙◌, subst, eqb-true}
use Rattle.alias_base.specs.Find.{same_block, value_at}
use Rattle.alias_base.specs.declared.ids.BlockId.{BlockId}
use Rattle.alias_base.specs.declared.ids.InstructionId.{InstructionId}
use Rattle.alias_hir.specs.declared.env.Environment.{Environment}
use Rattle.alias_hir.specs.declared.hir.BasicBlock.{BasicBlock}
use Rattle.alias_hir.specs.declared.hir.HirFunction.{HirFunction}
use Rattle.alias_lattice.specs.Flows.{Stepped}
use Rattle.alias_lattice.specs.States.{State}
use Rattle.alias_tables.specs.Tables.{TableLists}
use Rattle.alias_step.specs.block.Blocks.{infer_block}
use Rattle.alias_step.specs.block.Contexts.{BlockContext, context_of}
use Rattle.alias_step.specs.declared.block.faults.BlockRefusal.{BlockRefusal}
use Rattle.alias_step.specs.declared.block.recorded.BlockEffects.{BlockEffects}
use Rattle.alias_step.specs.declared.block.recorded.InstructionEffects.{InstructionEffects}
use Rattle.alias_effects.specs.FunctionFlow.{outcome_of, outcome_at}
use Rattle.alias_effects.specs.Solutions.{entry_state, effects_recorded, IsSolved, tables, recorded_from}
use Rattle.alias_effects.specs.declared.solved.BlockEntry.{BlockEntry}
use Rattle.alias_effects.specs.declared.solved.Solved.{Solved}
use Rattle.alias_effects_laws.specs.writes.BlockWrites.{ReportedIn, block_tells}
use Rattle.alias_effects_laws.specs.writes.WriteLaws.{any_more, or_true}
use Rattle.alias_effects_laws.specs.writes.Writes.{Write, block_writes, is_reported, is_reported_by}

-- what the block writes for certain, where there is one
abbrev pub writes_of_block : BlockContext → Option BasicBlock → State → TableLists → List (InstructionId × Write)
writes_of_block c None x t = []
writes_of_block c (Some block) x t = block_writes c block x t

module _ (env : Environment) (func : HirFunction) (is_function_expression : Bool) where
  abbrev context : BlockContext
  context = context_of env func is_function_expression

  -- What the instructions of a reached block write for certain, from its entry state and under the tables of the
  -- solution, stands as
  -- an error of its instruction where it is frozen, may be frozen or is a global, and no ref.
  abbrev pub TellsWrites : Solved → Type 0
  TellsWrites s =
      (b : BlockId) (x : State) → entry_state s.entries b ≡ Some x
      → AllByRecursion (ReportedIn context s.effects)
      (writes_of_block context (value_at func.body.blocks b) x (tables env func is_function_expression))

any_later : {X : Type 0} (p : X → Bool) (xs ys : List X) → list_any p ys ≡ true → list_any p (xs ++ ys) ≡ true
any_later p [] ys h = h
any_later p (x ∷ xs) ys h = or_true (p x) (list_any p (xs ++ ys)) (any_later p xs ys h)

abbrev block_numbered : ℕ → BlockId
block_numbered n = record { 0 = n }

block_is : (a b : BlockId) → same_block a b ≡ true → a ≡ b
block_is a b h = ap block_numbered (eqb-true a.0 b.0 h)

abbrev entry_of : BlockId → State → BlockEntry
entry_of b x = record { block = b; state = x }

-- the outcome of a step that is Stepped is what the step gives
stepped_is : (r : Result ((State × BlockEffects) × TableLists) BlockRefusal) (y : State) (t : TableLists)
    (k : BlockEffects) → outcome_of r ≡ Stepped y t k → r ≡ Ok ((y, k), t)
stepped_is (Ok p) y t k h =
    let state : p.0.0 ≡ y = cc in
    let effects : p.0.1 ≡ k = cc in
    let left : p.1 ≡ t = cc in
    ap (λ u. Ok ((u, p.0.1), p.1)) state ∙ ap (λ r. Ok ((y, r), p.1)) effects ∙ ap (λ u. Ok ((y, k), u)) left
stepped_is (Err c) y t k h = cc

module _ (env : Environment) (func : HirFunction) (is_function_expression : Bool) where
  abbrev recorded : BlockEntry → List InstructionEffects
  recorded e = (recorded_from env func is_function_expression e).instructions

  reported_after : (w : InstructionId × Write) (b : BlockId) (x : State) (e : BlockEntry) (es : List BlockEntry)
      (k : Bool) → same_block b e.block ≡ k
      → is_reported (recorded (entry_of b x)) w ≡ true
      → (entry_state es b ≡ Some x → is_reported (flat_map recorded es) w ≡ true)
      → cond k (Some e.state) (entry_state es b) ≡ Some x → is_reported (recorded e ++ flat_map recorded es) w ≡ true
  reported_after w b x e es true same h later i =
      let is : e.state ≡ x = cc in
      let entry = ap (λ (c : BlockId). entry_of c x) (block_is b e.block same) ∙ ap (entry_of e.block) (sym is) in
      any_more (is_reported_by w) (recorded e) (flat_map recorded es)
      (subst (λ (z : BlockEntry). is_reported (recorded z) w ≡ true) entry h)
  reported_after w b x e es false same h later i =
      any_later (is_reported_by w) (recorded e) (flat_map recorded es) (later i)

  reported_in_all : (w : InstructionId × Write) (b : BlockId) (x : State) (es : List BlockEntry)
      → is_reported (recorded (entry_of b x)) w ≡ true → entry_state es b ≡ Some x
      → is_reported (flat_map recorded es) w ≡ true
  reported_in_all w b x [] h i = cc
  reported_in_all w b x (e ∷ es) h i = reported_after w b x e es (same_block b e.block) refl h
      (reported_in_all w b x es h) i

  all_in_all : (ws : List (InstructionId × Write)) (b : BlockId) (x : State) (es : List BlockEntry)
      (effects : List InstructionEffects) → effects ≡ flat_map recorded es → entry_state es b ≡ Some x
      → AllByRecursion (ReportedIn (context env func is_function_expression) (recorded (entry_of b x))) ws
      → AllByRecursion (ReportedIn (context env func is_function_expression) effects) ws
  all_in_all [] b x es effects is h k = tt
  all_in_all (w ∷ ws) b x es effects is h k = (
    (λ f. subst (λ z. is_reported z w ≡ true) (sym is) (reported_in_all w b x es (k.0 f) h)),
    all_in_all ws b x es effects is h k.1,
  )

  block_reported : (b : BlockId) (o : Option BasicBlock) (x y : State) (t : TableLists) (k : BlockEffects)
      → outcome_at (context env func is_function_expression) b o t x ≡ Stepped y t k
      → AllByRecursion (ReportedIn (context env func is_function_expression) k.instructions)
      (writes_of_block (context env func is_function_expression) o x t)
  block_reported b None x y t k h = tt
  block_reported b (Some block) x y t k h =
      let c = context env func is_function_expression in
      block_tells c b block x t t (y, k) (stepped_is (infer_block c b block x t) y t k h)

  -- a solution tells the writes
  pub solutions_tell : (s : Solved) → IsSolved env func is_function_expression s
      → TellsWrites env func is_function_expression s
  solutions_tell s solved b x e =
      let c = context env func is_function_expression in
      let t = tables env func is_function_expression in
      let out = solved.solution.steps b x e in
      let k = out.1 in
      let recorded_is : recorded (entry_of b x) ≡ k.instructions = ap (λ o. (effects_recorded o).instructions) out.2 in
      all_in_all (writes_of_block c (value_at func.body.blocks b) x t) b x s.entries s.effects solved.effects e
      (subst (λ es. AllByRecursion (ReportedIn c es) (writes_of_block c (value_at func.body.blocks b) x t))
      (sym recorded_is) (block_reported b (value_at func.body.blocks b) x out.0 t k out.2))
