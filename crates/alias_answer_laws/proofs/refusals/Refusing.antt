-- What the steps of an analysis never refuse with, the analysis never does, over passes of the caller that change
-- functions.
use Rattle.std.specs.Prelude.{◌≡◌, ℕ, Bool, true, false, List, [], ◌∷◌, Option, Some, None, Result, Ok, Err, slice_get}
use Rattle.std.specs.Prelude.{refl}
use Rattle.std.proofs.Common.{zero, suc, sym, subst}
use Rattle.alias_base.specs.declared.ids.FunctionId.{FunctionId}
use Rattle.alias_hir.specs.declared.env.Environment.{Environment}
use Rattle.alias_hir.specs.declared.error.InferError.{InferError}
use Rattle.alias_hir.specs.declared.error.InferError.TheVariants.{PassFault}
use Rattle.alias_hir.specs.declared.error.Pass.{Pass}
use Rattle.alias_hir.specs.declared.error.Pass.TheVariants.{DeadCodeElimination}
use Rattle.alias_hir.specs.declared.error.Pass.TheVariants.{RewriteInstructionKindsBasedOnReassignment}
use Rattle.alias_hir.specs.declared.error.Pass.TheVariants.{InferReactiveScopeVariables}
use Rattle.alias_hir.specs.declared.hir.HirFunction.{HirFunction}
use Rattle.alias_effects.specs.Inference.{pass_end}
use Rattle.alias_effects.specs.declared.output.PassEnd.{PassEnd}
use Rattle.alias_range_pass.specs.Passes.{Ranged, range_pass}
use Rattle.alias_answer_laws.specs.answers.Avoiding.{is_not_inferred, Answered, Avoids, avoids_then, avoids_on}
use Rattle.alias_answer_laws.specs.answers.Avoiding.{avoids_naming, named_alike}
use Rattle.alias_answer_laws.specs.answers.KnownUnitLaws.{pass_comes, range_comes}
use Rattle.alias_nesting_laws.specs.Slots.{with_function}
use Rattle.alias_nested.specs.Analysis.{naming, named, Analysed, Analysis, analysis, effects_analysed, put_back}
use Rattle.alias_nested.specs.Answers.{Answers, Only, Then, done, refused, Each, Passed, Completed, CompletedWith}
use Rattle.alias_nested.specs.Answers.{FunctionAnalysed, TakenAnalysed, FoundAnalysed, SlotAnalysed, AnalysedWith}
use Rattle.alias_nested.specs.Created.{created_functions}
use Rattle.alias_nested.specs.Annotating.{annotated}
use Rattle.alias_nested.specs.Slots.{emptied}

module _ (is : InferError → Bool) where
  -- no answer that may come is a refusal for this reason
  abbrev pub NeverRefuses : {A : Type 0} → Answers A → Type 0
  NeverRefuses answers = (e : InferError) → answers (Err e) → is e ≡ false

  then_never : {A B : Type 0} (first : Answers A) (next : A → Answers B) → NeverRefuses first
      → ((x : A) → NeverRefuses (next x)) → NeverRefuses (Then first next)
  then_never first next h k e (done x f n) = k x e n
  then_never first next h k e (refused d f q) = let same : e ≡ d = cc in
      subst (λ (z : InferError). is z ≡ false) (sym same) (h d f)

  only_never : {A : Type 0} (stated : Result A InferError) → Avoids is (Answered {A = A}) stated
      → NeverRefuses (Only stated)
  only_never {A} stated h e q = subst (Avoids is (Answered {A = A})) q h

  each_never : {X A : Type 0} (step : X → A → Answers A) → ((x : X) (a : A) → NeverRefuses (step x a))
      → (xs : List X) (a : A) → NeverRefuses (Each step xs a)
  each_never step h [] a = only_never (Ok a) tt
  each_never step h (x ∷ xs) a = then_never (step x a) (Each step xs) (h x a) (each_never step h xs)

  module _ (faults : (id : FunctionId) (pass : Pass) → is (PassFault (Some id) pass) ≡ false)
      (same : (id : FunctionId) (e : InferError) → is (named id e) ≡ is e)
      (passes : (env : Environment) (f : HirFunction) → Avoids is (Answered {A = PassEnd}) (pass_end env f true))
      (ranges : (f : HirFunction) (env : Environment) → Avoids is (Answered {A = Ranged}) (range_pass true f env))
      (keeps_all : Bool) where
    -- what a pass of the caller answers but Ok is its fault
    passed_never : (id : FunctionId) (pass : Pass) (old : HirFunction × Environment)
        → NeverRefuses (Passed keeps_all id pass old)
    passed_never id pass old e q = subst (λ (z : InferError). is z ≡ false) (sym q) (faults id pass)

    effects_never : (id : FunctionId) (f : HirFunction) (a : Analysis) → NeverRefuses (Only (effects_analysed id f a))
    effects_never id f a =
        only_never (effects_analysed id f a)
        (avoids_then is (Answered {A = PassEnd}) (Answered {A = HirFunction × Analysis})
        (naming id (pass_end a.env f true)) _
        (avoids_naming is (Answered {A = PassEnd}) id (pass_end a.env f true) (same id) (passes a.env f))
        (λ e p. tt))

    completed_never : (id : FunctionId) (s : HirFunction × Environment) → NeverRefuses (Completed keeps_all id s)
    completed_never id s =
        then_never (Passed keeps_all id DeadCodeElimination s) _ (passed_never id DeadCodeElimination s) (λ dead.
        then_never (Only (naming id (range_pass true dead.0 dead.1))) _
        (only_never (naming id (range_pass true dead.0 dead.1))
        (avoids_naming is (Answered {A = Ranged}) id (range_pass true dead.0 dead.1) (same id)
        (ranges dead.0 dead.1))) (λ r.
        then_never (Passed keeps_all id RewriteInstructionKindsBasedOnReassignment r.after) _
        (passed_never id RewriteInstructionKindsBasedOnReassignment r.after) (λ kinds.
        then_never (Passed keeps_all id InferReactiveScopeVariables kinds) _
        (passed_never id InferReactiveScopeVariables kinds)
        (λ scopes. only_never (Ok (annotated r.summary scopes)) tt))))

    function_never : (id : FunctionId) (f : HirFunction) (a : Analysis)
        → NeverRefuses (FunctionAnalysed keeps_all id f a)
    function_never id f a =
        then_never (Only (effects_analysed id f a)) (CompletedWith keeps_all id) (effects_never id f a)
        (λ s. then_never (Completed keeps_all id (s.0, s.1.env)) _ (completed_never id (s.0, s.1.env))
        (λ c. only_never (Ok (c.0, analysis c.1 s.1.functions)) tt))

    module _ (below : HirFunction → Analysis → Answers Analysis)
        (never : (f : HirFunction) (a : Analysis) → NeverRefuses (below f a)) where
      found_never : (id : FunctionId) (a : Analysis) (o : Option HirFunction)
          → NeverRefuses (FoundAnalysed keeps_all below id a o)
      found_never id a None = only_never (Ok a) tt
      found_never id a (Some f) =
          let out : Analysis = record a { env = with_function id (emptied f.returns) a.env } in
          then_never (TakenAnalysed keeps_all below id f out) _
          (then_never (below f out) (FunctionAnalysed keeps_all id f) (never f out) (function_never id f))
          (λ s. only_never (Ok (put_back id s)) tt)

    pub analysed_never : (n : ℕ) (f : HirFunction) (a : Analysis) → NeverRefuses (AnalysedWith keeps_all n f a)
    unfolding AnalysedWith
    analysed_never zero f a = only_never (Ok a) tt
    analysed_never (suc n) f a =
        each_never (SlotAnalysed keeps_all (AnalysedWith keeps_all n))
        (λ id b. found_never (AnalysedWith keeps_all n) (analysed_never n) id b (slice_get b.env.functions id.0))
        (created_functions f) a

-- ---- no operand without an effect

-- the analysis of nested functions never says that an operand has no effect
pub never_unknown : (keeps_all : Bool) (n : ℕ) (f : HirFunction) (env : Environment) (fs : List Analysed)
    (e : InferError) → AnalysedWith keeps_all n f (analysis env fs) (Err e) → is_not_inferred e ≡ false
never_unknown keeps_all n f env fs =
    analysed_never is_not_inferred (λ id pass. refl) (λ id e. (named_alike id e).1) (λ more g. pass_comes more g true)
    (λ g more. avoids_on is_not_inferred _ (Answered {A = Ranged}) (range_pass true g more) (λ r h. tt)
    (range_comes true g more)) keeps_all n f (analysis env fs)
