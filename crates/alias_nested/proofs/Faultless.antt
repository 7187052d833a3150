-- No pass of the inference, and no validation, answers a fault of a pass of the caller.
use Rattle.std.specs.Prelude.{◌≡◌, ℕ, ◌+◌, Bool, true, false, cond, nat_le, if◌then◌else◌, List, [], ◌∷◌, Option, Some}
use Rattle.std.specs.Prelude.{None, Result, Ok, Err, ⊤, length, slice_get, refl}
use Rattle.std.proofs.Common.{zero, suc, subst}
use Rattle.alias_base.specs.Answer.{◌>>=◌}
use Rattle.alias_base.specs.declared.ids.BlockId.{BlockId}
use Rattle.alias_base.specs.declared.ids.FunctionId.{FunctionId}
use Rattle.alias_base.specs.declared.ids.IdentifierId.{IdentifierId}
use Rattle.alias_base.specs.declared.ids.InstructionId.{InstructionId}
use Rattle.alias_effects.specs.Inference.{instruction_refusal, refusal, block_at, answer_of, pass_end, inferred}
use Rattle.alias_effects.specs.Numbered.{visits_end}
use Rattle.alias_flow.specs.Machine.{VisitLog, End as SolverEnd}
use Rattle.alias_flow.specs.Machine as end
use Rattle.alias_graph.specs.declared.recorded.listing.Listing.{Listing}
use Rattle.alias_graph.specs.recorded.BlockListings.{listed}
use Rattle.alias_hir.specs.declared.error.Counter.TheVariants.{GraphPositions}
use Rattle.alias_hir.specs.declared.error.HirError.{HirError}
use Rattle.alias_hir.specs.declared.error.HirError.TheVariants as hir
use Rattle.alias_hir.specs.Terminals.{terminal_places}
use Rattle.alias_hir.specs.Values.{created}
use Rattle.alias_hir.specs.declared.env.Environment.{Environment}
use Rattle.alias_hir.specs.Errors.{is_memory}
use Rattle.alias_hir.specs.declared.error.InferError.{InferError}
use Rattle.alias_hir.specs.declared.error.InferError.TheVariants.{NotSettled, Uninitialized, Reinitialized}
use Rattle.alias_hir.specs.declared.error.InferError.TheVariants.{AliasBeforeCreate, IncompatibleLibrary}
use Rattle.alias_hir.specs.declared.error.InferError.TheVariants.{SpreadArgument, TooMany, Memory, PassFault}
use Rattle.alias_hir.specs.declared.error.InferError.TheVariants.{EffectsNotInferred}
use Rattle.alias_hir.specs.declared.hir.BasicBlock.{BasicBlock}
use Rattle.alias_hir.specs.declared.hir.HirFunction.{HirFunction}
use Rattle.alias_hir.specs.declared.hir.Instruction.{Instruction}
use Rattle.alias_hir.specs.declared.place.Place.{Place}
use Rattle.alias_hir.specs.declared.value.InstructionValue.{InstructionValue}
use Rattle.alias_hir.specs.declared.value.InstructionValue.TheVariants.{LoadLocal, StoreLocal, DeclareContext}
use Rattle.alias_hir.specs.declared.value.InstructionValue.TheVariants.{StoreContext}
use Rattle.alias_lattice.specs.States.{State}
use Rattle.alias_nested.specs.Analysis.{IsFault, named}
use Rattle.alias_range_pass.specs.Passes.{range_pass}
use Rattle.alias_range_pass.specs.Refusals.{none_unreplaced, unreplaced, listing_or, positions_left, recorded}
use Rattle.alias_range_pass.specs.summary.Summaries.{tracked}
use Rattle.alias_step.specs.block.Contexts.{context_of}
use Rattle.alias_step.specs.declared.block.faults.BlockRefusal.{BlockRefusal}
use Rattle.alias_step.specs.declared.block.faults.BlockRefusal.TheVariants as block
use Rattle.alias_step.specs.declared.block.recorded.BlockEffects.{BlockEffects}
use Rattle.alias_tables.specs.declared.faults.Refusal.{Refusal}
use Rattle.alias_tables.specs.declared.faults.Refusal.TheVariants as refused
use Rattle.alias_tables.specs.Tables.{TableLists}
use Rattle.alias_validate.specs.InstructionSteps.{plain_step}
use Rattle.alias_validate.specs.OperandMarks.{ReassigningFunctions, Seen, first_mark, marked_operand, operand, checked}
use Rattle.alias_validate.specs.OperandMarks.{other_step}
use Rattle.alias_validate.specs.Marking.{mark_of, is_unknown}
use Rattle.alias_validate.specs.Reassigning.{Below, created_step, value_step, instruction_step, instruction_steps}
use Rattle.alias_validate.specs.Reassigning.{block_step, block_steps, context_reassignment, reassigned_reports}
use Rattle.alias_validate.specs.Reassigning.{with_reassigned}
use Rattle.alias_validate.specs.Walks.{and_then, each, ended}
use Rattle.alias_validate.specs.declared.outcome.Shared.{Shared}
use Rattle.alias_visit.specs.Operands.{lvalue_ids}
use Rattle.alias_validate.specs.declared.outcome.WalkOutcome.{WalkOutcome}
use Rattle.alias_validate.specs.declared.outcome.WalkOutcome.TheVariants.{Continue, End}

abbrev pub Faultless : {A : Type 0} → Result A InferError → Type 0
Faultless (Ok x) = ⊤
Faultless (Err e) = IsFault e → ⊥

bind_faultless : {A B : Type 0} (r : Result A InferError) (f : A → Result B InferError) → Faultless r
    → ((x : A) → Faultless (f x)) → Faultless (r >>= f)
bind_faultless (Ok x) f h k = k x
bind_faultless (Err e) f h k = h

next_faultless : {S : Type 0} (f : S → Result (S × WalkOutcome) InferError) (s : S) (o : WalkOutcome)
    → ((t : S) → Faultless (f t)) → Faultless (and_then f s o)
next_faultless f s Continue h = h s
next_faultless f s (End p) h = tt

each_faultless : {S X : Type 0} (f : S → X → Result (S × WalkOutcome) InferError)
    → ((s : S) (x : X) → Faultless (f s x)) → (s : S) (xs : List X) → Faultless (each f s xs)
each_faultless f h s [] = tt
each_faultless f h s (x ∷ xs) = bind_faultless (f s x) (λ r. and_then (λ t. each f t xs) r.0 r.1) (h s x)
    (λ r. next_faultless (λ t. each f t xs) r.0 r.1 (λ t. each_faultless f h t xs))

cond_faultless : {A : Type 0} (b : Bool) (r q : Result A InferError) → Faultless r → Faultless q
    → Faultless (cond b r q)
cond_faultless true r q h k = h
cond_faultless false r q h k = k

not_inferred : (x : IdentifierId) → Faultless {A = ReassigningFunctions × WalkOutcome} (Err (EffectsNotInferred x))
not_inferred x = λ (h : ⊥). h

operand_faultless : (ls : List IdentifierId) (ms : ReassigningFunctions) (o : Place) → Faultless (operand ls ms o)
operand_faultless ls ms o =
    cond_faultless (is_unknown o.effect) (Err (EffectsNotInferred o.identifier))
    (Ok (marked_operand ls ms o.effect (mark_of ms o.identifier))) (not_inferred o.identifier) tt

other_faultless : (env : Environment) (s : Seen) (ls : List IdentifierId) (v : InstructionValue)
    → Faultless (other_step env s ls v)
other_faultless env s ls v = bind_faultless (each (operand ls) s.0 (checked env v)) _
    (each_faultless (operand ls) (operand_faultless ls) s.0 (checked env v)) (λ r. tt)

plain_faultless : (env : Environment) (b : Bool) (s : Seen) (l : IdentifierId) (ls : List IdentifierId)
    (v : InstructionValue) → Faultless (plain_step env b s l ls v)
plain_faultless env b s l ls (LoadLocal place) = tt
plain_faultless env b s l ls (StoreLocal target value) = tt
plain_faultless env b s l ls (DeclareContext target) = tt
plain_faultless env b s l ls (StoreContext target value) = tt
plain_faultless env b s l ls v = other_faultless env s ls v

module _ (env : Environment) (below : Below)
    (below_faultless : (async : Bool) (f : HirFunction) (sh : Shared) → Faultless (below async f sh))
    (b async : Bool) where
  created_faultless : (l : IdentifierId) (s : Seen) (o : Option HirFunction)
      → Faultless (created_step env below async l s o)
  created_faultless l s None = tt
  created_faultless l s (Some f) = bind_faultless (below _ f s.1) _ (below_faultless _ f s.1) (λ r. tt)

  value_faultless : (s : Seen) (i : Instruction) (o : Option FunctionId)
      → Faultless (value_step env below b async s i o)
  value_faultless s i None = plain_faultless env b s i.lvalue.identifier (lvalue_ids i) i.value
  value_faultless s i (Some f) = created_faultless i.lvalue.identifier s (slice_get env.functions f.0)

  step_faultless : (s : Seen) (o : Option Instruction) → Faultless (instruction_step env below b async s o)
  step_faultless s None = tt
  step_faultless s (Some i) = value_faultless s i (created i.value)

  instructions_faultless : (func : HirFunction) (s : Seen) (is : List InstructionId)
      → Faultless (instruction_steps env below b async func s is)
  instructions_faultless func s is = each_faultless
      (λ t (i : InstructionId). instruction_step env below b async t (slice_get func.instructions i.0))
      (λ t i. step_faultless t (slice_get func.instructions i.0)) s is

  block_faultless : (func : HirFunction) (s : Seen) (x : BasicBlock) → Faultless (block_step env below b async func s x)
  block_faultless func s x =
      let last : Seen → Result (Seen × WalkOutcome) InferError =
      λ t. Ok (t, ended (first_mark t.0 (terminal_places x.terminal))) in
      let fine : (t : Seen) → Faultless (last t) = λ t. tt in
      bind_faultless (instruction_steps env below b async func s x.instructions) (λ r. and_then last r.0 r.1)
      (instructions_faultless func s x.instructions) (λ r. next_faultless last r.0 r.1 fine)

  blocks_faultless : (func : HirFunction) (s : Seen) (xs : List (BlockId × BasicBlock))
      → Faultless (block_steps env below b async func s xs)
  blocks_faultless func s xs = each_faultless (λ t (x : BlockId × BasicBlock). block_step env below b async func t x.1)
      (λ t x. block_faultless func t x.1) s xs

walk_faultless : (n : ℕ) (env : Environment) (b async : Bool) (func : HirFunction) (sh : Shared)
    → Faultless (context_reassignment n env b async func sh)
unfolding context_reassignment
walk_faultless zero env b async func sh = tt
walk_faultless (suc n) env b async func sh =
    bind_faultless (block_steps env (context_reassignment n env true) b async func ([], sh) func.body.blocks) _
    (blocks_faultless env (context_reassignment n env true) (walk_faultless n env true) b async func ([], sh)
    func.body.blocks) (λ r. tt)

pub reassigned_faultless : (env : Environment) (func : HirFunction)
    → Faultless (with_reassigned env (reassigned_reports env func))
reassigned_faultless env func =
    bind_faultless (reassigned_reports env func) _
    (bind_faultless (context_reassignment 64 env false false func (record { context_variables = []; reports = [] }))
    _ (walk_faultless 64 env false false func (record { context_variables = []; reports = [] })) (λ r. tt))
    (λ r. tt)

-- a refusal of what answers no fault is none
pub no_fault_of : {A : Type 0} (r : Result A InferError) (e : InferError) → Faultless r → r ≡ Err e → IsFault e → ⊥
no_fault_of (Ok x) e h is = cc
no_fault_of (Err z) e h is = subst (λ y. IsFault y → ⊥) (err_is z e is) h
  where
    err_is : {A : Type 0} (x y : InferError) → ◌≡◌ {A = Result A InferError} (Err x) (Err y) → x ≡ y
    err_is x y q = cc

-- nor is what a call answers one, out of memory included
pub refused_faultless : {A : Type 0} (r : Result A InferError) → Faultless r → (e : InferError)
    → (is_memory e ≡ false → r ≡ Err e) → IsFault e → ⊥
refused_faultless r h (Memory m) is f = f
refused_faultless r h (PassFault g p) is f = no_fault_of r (PassFault g p) h (is refl) f
refused_faultless r h e is f = f

-- the validation
pub faultless_error : (env : Environment) (func : HirFunction) (e : InferError)
    → (is_memory e ≡ false → with_reassigned env (reassigned_reports env func) ≡ Err e) → IsFault e → ⊥
faultless_error env func e h = refused_faultless (with_reassigned env (reassigned_reports env func))
    (reassigned_faultless env func) e h

-- ---- the effects pass

instruction_faultless : (i : InstructionId) (c : Refusal) → IsFault (instruction_refusal i c) → ⊥
instruction_faultless i (refused.Reinitialized x) h = h
instruction_faultless i (refused.AliasBeforeCreate x) h = h
instruction_faultless i (refused.IncompatibleLibrary report) h = h
instruction_faultless i (refused.SpreadArgument span report) h = h
instruction_faultless i (refused.TooMany which) h = h

refusal_faultless : (env : Environment) (b : BlockId) (c : BlockRefusal) → IsFault (refusal env b c) → ⊥
refusal_faultless env b (block.Instruction i c) h = instruction_faultless i c h
refusal_faultless env b (block.Uninitialized m) h = h

end_faultless : (env : Environment) (func : HirFunction)
    (w : SolverEnd (VisitLog State) TableLists BlockEffects BlockRefusal) → Faultless (answer_of env func w)
end_faultless env func (end.Solved w) = tt
end_faultless env func (end.Fault n c) = refusal_faultless env (block_at func.body.blocks n) c
end_faultless env func (end.NotSettled visits) = λ (h : ⊥). h

pub effects_faultless : (env : Environment) (func : HirFunction) (b : Bool) → Faultless (inferred env func b)
effects_faultless env func b = bind_faultless (pass_end env func b) _
    (end_faultless env func (visits_end (context_of env func b))) (λ e. tt)

-- ---- the range pass

unreplaced_faultless : (o : Option InstructionId) → Faultless (none_unreplaced o)
unreplaced_faultless None = tt
unreplaced_faultless (Some i) = λ (h : ⊥). h

listing_faultless : (r : Result Listing HirError) → Faultless (listing_or r)
listing_faultless (Ok l) = tt
listing_faultless (Err (hir.TooMany which)) = λ (h : ⊥). h
listing_faultless (Err (hir.Memory e)) = λ (h : ⊥). h

left_if : (b : Bool) → Faultless {A = ⊤} (if b then Ok tt else Err (TooMany GraphPositions))
left_if true = tt
left_if false = λ (h : ⊥). h

left_faultless : (next n : ℕ) → Faultless (positions_left next n)
left_faultless next n = left_if (nat_le (next + n) 4294967295)

recorded_faultless : (func : HirFunction) → Faultless (recorded func)
recorded_faultless func =
    bind_faultless (none_unreplaced (unreplaced func)) _ (unreplaced_faultless (unreplaced func))
    (λ u. bind_faultless (listing_or (listed func)) _ (listing_faultless (listed func))
    (λ l. bind_faultless (positions_left l.next (length (tracked func))) _
    (left_faultless l.next (length (tracked func))) (λ v. tt)))

pub ranges_faultless : (b : Bool) (func : HirFunction) (env : Environment) → Faultless (range_pass b func env)
ranges_faultless b func env = bind_faultless (recorded func) _ (recorded_faultless func) (λ l. tt)

-- ---- errors that name their function

pub named_faultless : (id : FunctionId) (e : InferError) → (IsFault e → ⊥) → IsFault (named id e) → ⊥
named_faultless id (NotSettled f visits report) free h = h
named_faultless id (Uninitialized f block identifier span report) free h = h
named_faultless id (Reinitialized f instruction identifier) free h = h
named_faultless id (AliasBeforeCreate f instruction identifier) free h = h
named_faultless id (IncompatibleLibrary f instruction report) free h = h
named_faultless id (SpreadArgument f instruction span report) free h = h
named_faultless id e free h = free h
