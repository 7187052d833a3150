-- Why the effects pass of a function is refused.
use Rattle.std.specs.Prelude.{◌≡◌, ℕ, Bool, true, false, Option, Some, None, Result, Err, is_some, length, replicate}
use Rattle.std.specs.Prelude.{slice_get, refl}
use Rattle.std.proofs.Common.{ap, sym, ◌∙◌, subst}
use Rattle.std.proofs.lemmas.List.{length-replicate}
use Rattle.alias_base.specs.Find.{value_at}
use Rattle.alias_base.specs.declared.ids.BlockId.{BlockId}
use Rattle.alias_base.specs.declared.ids.FunctionId.{FunctionId}
use Rattle.alias_base.specs.declared.ids.InstructionId.{InstructionId}
use Rattle.alias_step.specs.block.Contexts.{context_of}
use Rattle.alias_step.specs.declared.block.faults.BlockRefusal.{BlockRefusal}
use Rattle.alias_step.specs.declared.block.faults.BlockRefusal.TheVariants as block
use Rattle.alias_step.specs.declared.block.recorded.BlockEffects.{BlockEffects}
use Rattle.alias_effects.specs.Inference.{instruction_refusal, refusal, block_at, answer_of, pass_end}
use Rattle.alias_effects.specs.Numbered.{numbered, visits_end}
use Rattle.alias_effects.specs.PassLaws.{pass_laws}
use Rattle.alias_effects.specs.declared.output.PassEnd.{PassEnd}
use Rattle.alias_flow.proofs.DirtyFlags.{as_work_list_end, solution_work_list}
use Rattle.alias_flow.proofs.OneRound.{forward_settles}
use Rattle.alias_flow.specs.Machine.{End, VisitLog, FlowLaws}
use Rattle.alias_flow.specs.Machine as end
use Rattle.alias_hir.specs.declared.env.Environment.{Environment}
use Rattle.alias_hir.specs.declared.env.Unit.{Unit as HirUnit}
use Rattle.alias_hir.specs.declared.error.InferError.{InferError}
use Rattle.alias_hir.specs.declared.error.InferError.TheVariants as error
use Rattle.alias_hir.specs.declared.hir.HirFunction.{HirFunction}
use Rattle.alias_lattice.specs.JoinLaws.{state_laws}
use Rattle.alias_lattice.specs.ProperStates.{StateProper}
use Rattle.alias_lattice.specs.States.{State, state_below}
use Rattle.alias_nested.specs.Analysis.{named, is_free}
use Rattle.alias_tables.specs.GrowingLaws.{Extends}
use Rattle.alias_tables.specs.Tables.{TableLists}
use Rattle.alias_tables.specs.declared.faults.Refusal.{Refusal}
use Rattle.alias_tables.specs.declared.faults.Refusal.TheVariants as refused
use Rattle.alias_tables.specs.write_back.WriteBack.{tables_of}
use Rattle.alias_plainness.specs.Plainness.{IsPlain}
use Rattle.alias_completeness.specs.Forward.{GoesForward}
use Rattle.alias_completeness.specs.Passing.{IsPlainAnswer}
use Rattle.alias_unit_completeness.specs.Refusals.{IsNotPlain, IsNotForward, BlamesRightly}

-- ---- its refusals

-- a refusal of an effects pass, which takes its function for the root
abbrev pub IsOfPass : InferError → Type 0
IsOfPass (error.NotSettled f visits report) = f ≡ None
IsOfPass (error.Uninitialized f block identifier span report) = f ≡ None
IsOfPass (error.Reinitialized f instruction identifier) = f ≡ None
IsOfPass (error.AliasBeforeCreate f instruction identifier) = f ≡ None
IsOfPass (error.IncompatibleLibrary f instruction report) = f ≡ None
IsOfPass (error.SpreadArgument f instruction span report) = f ≡ None
IsOfPass (error.TooMany which) = Unit {0}
IsOfPass e = ⊥

abbrev pub IsUnsettled : InferError → Type 0
IsUnsettled (error.NotSettled f visits report) = Unit {0}
IsUnsettled e = ⊥

step_of_pass : (i : InstructionId) (c : Refusal) → IsOfPass (instruction_refusal i c)
    × (IsUnsettled (instruction_refusal i c) → ⊥)
step_of_pass i (refused.Reinitialized x) = (refl, λ h. h)
step_of_pass i (refused.AliasBeforeCreate x) = (refl, λ h. h)
step_of_pass i (refused.IncompatibleLibrary report) = (refl, λ h. h)
step_of_pass i (refused.SpreadArgument span report) = (refl, λ h. h)
step_of_pass i (refused.TooMany which) = (tt, λ h. h)

block_of_pass : (env : Environment) (b : BlockId) (c : BlockRefusal) → IsOfPass (refusal env b c)
    × (IsUnsettled (refusal env b c) → ⊥)
block_of_pass env b (block.Instruction i c) = step_of_pass i c
block_of_pass env b (block.Uninitialized m) = (refl, λ h. h)

-- how the visits end, and what is answered then
abbrev Ended : Type 0
Ended = End (VisitLog State) TableLists BlockEffects BlockRefusal

same_error : (x y : InferError) → ◌≡◌ {A = Result PassEnd InferError} (Err x) (Err y) → x ≡ y
same_error x y h = cc

end_of_pass : (env : Environment) (func : HirFunction) (r : Ended) (e : InferError) → answer_of env func r ≡ Err e
    → IsOfPass e
end_of_pass env func (end.Solved w) e q = cc
end_of_pass env func (end.Fault n c) e q =
    subst IsOfPass (same_error (refusal env (block_at func.body.blocks n) c) e q)
    (block_of_pass env (block_at func.body.blocks n) c).0
end_of_pass env func (end.NotSettled n) e q = subst IsOfPass (same_error _ e q) refl

pub pass_of : (env : Environment) (func : HirFunction) (b : Bool) (e : InferError) → pass_end env func b ≡ Err e
    → IsOfPass e
pass_of env func b e q = end_of_pass env func (visits_end (context_of env func b)) e q

-- ---- a forward function settles

never_ends_so : (env : Environment) (func : HirFunction) (b : Bool)
    → is_some (value_at func.body.blocks func.body.entry) ≡ true → GoesForward env func b → (n : ℕ)
    → visits_end (context_of env func b) ≡ end.NotSettled n → ⊥
never_ends_so env func b entry forward n e =
    let c = context_of env func b in
    let none = replicate (length func.body.blocks) None in
    let laws : FlowLaws StateProper Extends (numbered c) none =
    pass_laws c entry none (length-replicate (length func.body.blocks) None) in
    forward_settles state_laws laws forward (tables_of env) n
    (solution_work_list state_laws laws (tables_of env) ∙ ap (as_work_list_end state_below) e)

settled_case : (env : Environment) (func : HirFunction) (r : Ended) → ((n : ℕ) → r ≡ end.NotSettled n → ⊥)
    → (e : InferError) → answer_of env func r ≡ Err e → IsUnsettled e → ⊥
settled_case env func (end.Solved w) h e q i = cc
settled_case env func (end.Fault n c) h e q i =
    (block_of_pass env (block_at func.body.blocks n) c).1
    (subst IsUnsettled (sym (same_error (refusal env (block_at func.body.blocks n) c) e q)) i)
settled_case env func (end.NotSettled n) h e q i = h n refl

-- so it is never refused since it isn't settled
pub forward_is_settled : (env : Environment) (func : HirFunction) (b : Bool)
    → is_some (value_at func.body.blocks func.body.entry) ≡ true → GoesForward env func b → (e : InferError)
    → pass_end env func b ≡ Err e → IsUnsettled e → ⊥
forward_is_settled env func b entry forward e q i =
    settled_case env func (visits_end (context_of env func b)) (never_ends_so env func b entry forward) e q i

-- ---- who is blamed

-- the refusal has its cause in the unit, and is neither out of memory nor a fault of a pass of the caller
abbrev pub Caused : HirUnit → InferError → Type 0
Caused u e = BlamesRightly u e × (is_free e ≡ false)

module _ (u : HirUnit) where
  -- a nested function: it isn't plain, or not forward
  pub nested_blamed : (id : FunctionId) (f : HirFunction) → slice_get u.env.functions id.0 ≡ Some f → (e : InferError)
      → IsOfPass e → (IsPlain f u.env → IsPlainAnswer {A = PassEnd} (Err e))
      → (GoesForward u.env f true → IsUnsettled e → ⊥)
      → Caused u (named id e)
  nested_blamed id f at (error.NotSettled g visits report) p plain settles =
      ((f, at, λ forward. settles forward tt), refl)
  nested_blamed id f at (error.Uninitialized g block identifier span report) p plain settles = ((f, at, plain), refl)
  nested_blamed id f at (error.Reinitialized g instruction identifier) p plain settles = ((f, at, plain), refl)
  nested_blamed id f at (error.AliasBeforeCreate g instruction identifier) p plain settles = ((f, at, plain), refl)
  nested_blamed id f at (error.IncompatibleLibrary g instruction report) p plain settles = ((f, at, plain), refl)
  nested_blamed id f at (error.SpreadArgument g instruction span report) p plain settles = ((f, at, plain), refl)
  nested_blamed id f at (error.TooMany which) p plain settles = (tt, refl)
  nested_blamed id f at e p plain settles = absurd p

  not_plain : (g : Option FunctionId) → g ≡ None → (IsPlain u.function u.env → ⊥) → IsNotPlain u g
  not_plain g p plain = subst (IsNotPlain u) (sym p) (u.function, refl, plain)

  -- the root
  pub root_blamed : (e : InferError) → IsOfPass e → (IsPlain u.function u.env → IsPlainAnswer {A = PassEnd} (Err e))
      → (GoesForward u.env u.function false → IsUnsettled e → ⊥) → Caused u e
  root_blamed (error.NotSettled g visits report) p plain settles =
      (subst (IsNotForward u) (sym p) (u.function, refl, λ forward. settles forward tt), refl)
  root_blamed (error.Uninitialized g block identifier span report) p plain settles = (not_plain g p plain, refl)
  root_blamed (error.Reinitialized g instruction identifier) p plain settles = (not_plain g p plain, refl)
  root_blamed (error.AliasBeforeCreate g instruction identifier) p plain settles = (not_plain g p plain, refl)
  root_blamed (error.IncompatibleLibrary g instruction report) p plain settles = (not_plain g p plain, refl)
  root_blamed (error.SpreadArgument g instruction span report) p plain settles = (not_plain g p plain, refl)
  root_blamed (error.TooMany which) p plain settles = (tt, refl)
  root_blamed e p plain settles = absurd p
