-- Where no instruction of a nested function carries an Apply, its passes leave what is asked of it, and none of them
-- says that one is left.
use Rattle.std.specs.Prelude.{◌≡◌, Bool, false, Ok, Err, length}
use Rattle.alias_base.specs.declared.ids.FunctionId.{FunctionId}
use Rattle.alias_hir.specs.declared.error.InferError.{InferError}
use Rattle.alias_hir.specs.declared.hir.HirFunction.{HirFunction}
use Rattle.alias_nested.specs.Analysis.{Analysis}
use Rattle.alias_nested.specs.Answers.{Answers, FunctionAnalysed}
use Rattle.alias_answer_laws.proofs.applies.Calling.{function_own}
use Rattle.alias_answer_laws.specs.answers.Applies.{InstructionsLackApply}
use Rattle.alias_answer_laws.specs.answers.Avoiding.{is_unreplaced}
use Rattle.alias_completeness.specs.summaries.Faces.{HasPlaces}
use Rattle.alias_unit_completeness.specs.Answering.{AllMeet}
use Rattle.alias_unit_completeness.specs.Turning.{turns_by_passes}
use Rattle.alias_unit_completeness.specs.Walking.{Turned}

-- what is answered has the property whatever a refusal says, and refusals have theirs
meets_both : {A : Type 0} (E : InferError → Type 0) (P : A → Type 0) (answers : Answers A)
    → AllMeet (λ e. Unit {0}) P answers → ((e : InferError) → answers (Err e) → E e) → AllMeet E P answers
meets_both E P answers h k (Ok x) a = h (Ok x) a
meets_both E P answers h k (Err e) a = k e a

pub turns_replaced : (b : Bool) (id : FunctionId) (g : HirFunction) (a : Analysis)
    → HasPlaces (length a.env.identifiers) g → InstructionsLackApply g
    → AllMeet (λ e. is_unreplaced e ≡ false) (Turned g a) (FunctionAnalysed b id g a)
turns_replaced b id g a places lacks =
    meets_both (λ e. is_unreplaced e ≡ false) (Turned g a) (FunctionAnalysed b id g a)
    (turns_by_passes (λ e. Unit {0}) id (λ f env e q. tt) g a places (λ e q. tt) (λ pass. tt) b)
    (λ e h. function_own b id g a lacks (Err e) h)
