-- A forward function settles in one round.
use Rattle.std.specs.Prelude.{◌≡◌, ℕ, Bool, true, false, None, Result, Ok, Err, length, replicate, is_some, refl}
use Rattle.std.proofs.Common.{ap, sym, subst, ◌∙◌}
use Rattle.std.proofs.lemmas.List.{length-replicate}
use Rattle.alias_base.specs.Answer.{◌>>=◌}
use Rattle.alias_base.specs.Find.{value_at}
use Rattle.alias_base.specs.declared.ids.BlockId.{BlockId}
use Rattle.alias_step.specs.block.Contexts.{context_of}
use Rattle.alias_step.specs.declared.block.faults.BlockRefusal.{BlockRefusal}
use Rattle.alias_step.specs.declared.block.faults.BlockRefusal.TheVariants as block
use Rattle.alias_step.specs.declared.block.recorded.BlockEffects.{BlockEffects}
use Rattle.alias_effects.specs.Inference.{refusal, block_at, answer_of, pass_end}
use Rattle.alias_effects.specs.Numbered.{numbered, visits_end}
use Rattle.alias_effects.specs.Output.{last_of, last_visits}
use Rattle.alias_effects.specs.PassLaws.{pass_laws}
use Rattle.alias_effects.specs.Settling.{GoesForward, is_unsettled, IsSettled}
use Rattle.alias_flow.proofs.DirtyFlags.{as_work_list_end, solution_work_list}
use Rattle.alias_flow.proofs.OneRound.{forward_settles}
use Rattle.alias_flow.specs.Machine.{End, VisitLog, FlowLaws}
use Rattle.alias_flow.specs.Machine as end
use Rattle.alias_hir.specs.Errors.{is_memory}
use Rattle.alias_hir.specs.declared.env.Environment.{Environment}
use Rattle.alias_hir.specs.declared.error.InferError.{InferError}
use Rattle.alias_hir.specs.declared.error.InferError.TheVariants as error
use Rattle.alias_hir.specs.declared.hir.HirFunction.{HirFunction}
use Rattle.alias_lattice.specs.JoinLaws.{state_laws}
use Rattle.alias_lattice.specs.ProperStates.{StateProper}
use Rattle.alias_lattice.specs.States.{State, state_below}
use Rattle.alias_rules.specs.Fitting.{function_fits}
use Rattle.alias_rules.specs.RuleLaws.{fitting_entry}
use Rattle.alias_tables.specs.GrowingLaws.{Extends}
use Rattle.alias_tables.specs.Tables.{TableLists}
use Rattle.alias_tables.specs.declared.faults.Refusal.TheVariants as refused
use Rattle.alias_tables.specs.write_back.WriteBack.{tables_of}

pub forward_settled : (env : Environment) (func : HirFunction) (b : Bool)
    → is_some (value_at func.body.blocks func.body.entry) ≡ true → GoesForward env func b → (n : ℕ)
    → visits_end (context_of env func b) ≡ end.NotSettled n → ⊥
forward_settled env func b entry forward n e =
    let c = context_of env func b in
    let none = replicate (length func.body.blocks) None in
    let laws : FlowLaws StateProper Extends (numbered c) none =
    pass_laws c entry none (length-replicate (length func.body.blocks) None) in
    forward_settles state_laws laws forward (tables_of env) n
    (solution_work_list state_laws laws (tables_of env) ∙ ap (as_work_list_end state_below) e)

-- the refusal of a step isn't NotSettled
refusal_settles : (env : Environment) (b : BlockId) (c : BlockRefusal) → is_unsettled (refusal env b c) ≡ false
refusal_settles env b (block.Instruction i (refused.Reinitialized x)) = refl
refusal_settles env b (block.Instruction i (refused.AliasBeforeCreate x)) = refl
refusal_settles env b (block.Instruction i (refused.IncompatibleLibrary report)) = refl
refusal_settles env b (block.Instruction i (refused.SpreadArgument span report)) = refl
refusal_settles env b (block.Instruction i (refused.TooMany which)) = refl
refusal_settles env b (block.Uninitialized m) = refl

end_settles : (env : Environment) (func : HirFunction) (e : End (VisitLog State) TableLists BlockEffects BlockRefusal)
    → ((n : ℕ) → e ≡ end.NotSettled n → ⊥) → IsSettled (answer_of env func e)
end_settles env func (end.Solved w) h = tt
end_settles env func (end.Fault m c) h = refusal_settles env (block_at func.body.blocks m) c
end_settles env func (end.NotSettled m) h = absurd (h m refl)

pub pass_settles : (env : Environment) (func : HirFunction) (b : Bool) → function_fits func env ≡ true
    → GoesForward env func b → IsSettled (pass_end env func b)
pass_settles env func b fits forward = end_settles env func (visits_end (context_of env func b))
    (forward_settled env func b (fitting_entry func env fits) forward)

settled_through : {A B : Type 0} (p : Result A InferError) (f : A → B) → IsSettled p
    → IsSettled {A = B} (p >>= (λ x. Ok (f x)))
settled_through (Ok x) f h = tt
settled_through (Err e) f h = h

pub visits_settle : (env : Environment) (func : HirFunction) (b : Bool) → function_fits func env ≡ true
    → GoesForward env func b → IsSettled (last_visits env func b)
visits_settle env func b fits forward = settled_through (pass_end env func b) last_of
    (pass_settles env func b fits forward)

settled_error : {A : Type 0} (stated : Result A InferError) (e : InferError) → IsSettled stated
    → (is_memory e ≡ false → stated ≡ Err e) → is_unsettled e ≡ false
settled_error {A} stated (error.NotSettled f n r) h g = subst (λ (q : Result A InferError). IsSettled q) (g refl) h
settled_error stated e h g = refl

-- an error that is given of such an answer isn't NotSettled
pub settled_alike : {A B : Type 0} (stated : Result A InferError) (q : Result B InferError) (e : InferError)
    → IsSettled stated → (is_memory e ≡ false → stated ≡ Err e) → q ≡ Err e → IsSettled q
settled_alike {A} {B} stated q e h g same =
    subst (λ (r : Result B InferError). IsSettled r) (sym same) (settled_error stated e h g)
