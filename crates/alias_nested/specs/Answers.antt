-- Which answers the analysis of nested functions may come to, over passes of the caller that change functions within
-- their law.
use Rattle.std.specs.Prelude.{◌≡◌, ℕ, zero, suc, Bool, true, false, List, [], ◌∷◌, Option, Some, None, Result, Ok, Err}
use Rattle.std.specs.Prelude.{⊤, slice_get}
use Rattle.alias_base.specs.declared.ids.FunctionId.{FunctionId}
use Rattle.alias_hir.specs.Errors.{is_memory}
use Rattle.alias_hir.specs.declared.env.Environment.{Environment}
use Rattle.alias_hir.specs.declared.error.InferError.{InferError}
use Rattle.alias_hir.specs.declared.error.InferError.TheVariants.{PassFault}
use Rattle.alias_hir.specs.declared.error.Pass.{Pass}
use Rattle.alias_hir.specs.declared.error.Pass.TheVariants.{DeadCodeElimination}
use Rattle.alias_hir.specs.declared.error.Pass.TheVariants.{RewriteInstructionKindsBasedOnReassignment}
use Rattle.alias_hir.specs.declared.error.Pass.TheVariants.{InferReactiveScopeVariables}
use Rattle.alias_hir.specs.declared.hir.HirFunction.{HirFunction}
use Rattle.alias_effects.specs.declared.solved.Solved.{Solved}
use Rattle.alias_inner_passes.specs.Passes.{Keeps}
use Rattle.alias_range_pass.specs.Passes.{range_pass}
use Rattle.alias_nested.specs.Analysis.{Analysed, Analysis, analysis, naming, effects_analysed, put_back, is_free}
use Rattle.alias_nested.specs.Analysis.{Accounts}
use Rattle.alias_nested.specs.Created.{created_functions}
use Rattle.alias_nested.specs.Annotating.{annotated}
use Rattle.alias_nested.specs.Slots.{emptied}
use Rattle.alias_nesting_laws.specs.Slots.{with_function}

-- ---- answers that may come

-- which answers may come of a step
abbrev pub Answers : Type 0 → Type 1
Answers A = Result A InferError → Type 0

-- the answer stated alone
abbrev pub Only : {A : Type 0} → Result A InferError → Answers A
Only stated r = stated ≡ r

-- one step, and then the next where it is done: its refusal is that of both
pub data Then {A B : Type 0} (first : Answers A) (next : A → Answers B) (r : Result B InferError) : Type 0 where
  done : (x : A) → first (Ok x) → next x r → Then first next r
  refused : (e : InferError) → first (Err e) → r ≡ Err e → Then first next r

-- one step after the other, up to the first refusal
abbrev pub Each : {X A : Type 0} → (X → A → Answers A) → List X → A → Answers A
Each step [] a = Only (Ok a)
Each step (x ∷ xs) a = Then (step x a) (Each step xs)

-- ---- a nested function

-- A pass of the caller that is done: of a function and its environment it leaves what it has to keep; all of both,
-- where the passes keep everything.
pub record IsPassed (keeps_all : Bool) (old new : HirFunction × Environment) : Type 0 where
  pub keeps : Keeps old.0 old.1 new.0 new.1
  pub same : keeps_all ≡ true → (new.0 ≡ old.0) × (new.1 ≡ old.1)

-- This pass of the caller on the function of the number: it is done, or it fails, and the fault names both.
abbrev pub Passed : Bool → FunctionId → Pass → HirFunction × Environment → Answers (HirFunction × Environment)
Passed keeps_all id pass old (Ok new) = IsPassed keeps_all old new
Passed keeps_all id pass old (Err e) = e ≡ PassFault (Some id) pass

-- What follows the effects pass: `dead_code_elimination`, the range pass, the two other passes, and what is set once
-- the summary is known.
abbrev pub Completed : Bool → FunctionId → HirFunction × Environment → Answers (HirFunction × Environment)
Completed keeps_all id s =
    Then (Passed keeps_all id DeadCodeElimination s) (λ dead.
    Then (Only (naming id (range_pass true dead.0 dead.1))) (λ r.
    Then (Passed keeps_all id RewriteInstructionKindsBasedOnReassignment r.after) (λ kinds.
    Then (Passed keeps_all id InferReactiveScopeVariables kinds) (λ scopes.
    Only (Ok (annotated r.summary scopes))))))

abbrev pub CompletedWith : Bool → FunctionId → HirFunction × Analysis → Answers (HirFunction × Analysis)
CompletedWith keeps_all id s = Then (Completed keeps_all id (s.0, s.1.env))
    (λ c. Only (Ok (c.0, analysis c.1 s.1.functions)))

-- a nested function, once those below it are analysed: first the effects pass
abbrev pub FunctionAnalysed : Bool → FunctionId → HirFunction → Analysis → Answers (HirFunction × Analysis)
FunctionAnalysed keeps_all id f a = Then (Only (effects_analysed id f a)) (CompletedWith keeps_all id)

-- a nested function that is out of its slot: first those below it
abbrev pub TakenAnalysed : Bool → (HirFunction → Analysis → Answers Analysis) → FunctionId → HirFunction → Analysis
    → Answers (HirFunction × Analysis)
TakenAnalysed keeps_all below id f a = Then (below f a) (FunctionAnalysed keeps_all id f)

abbrev pub FoundAnalysed : Bool → (HirFunction → Analysis → Answers Analysis) → FunctionId → Analysis
    → Option HirFunction → Answers Analysis
FoundAnalysed keeps_all below id a None = Only (Ok a)
FoundAnalysed keeps_all below id a (Some f) =
    Then (TakenAnalysed keeps_all below id f (record a { env = with_function id (emptied f.returns) a.env }))
    (λ s. Only (Ok (put_back id s)))

-- the nested function of a number is taken out of its slot, analysed, and put back
abbrev pub SlotAnalysed : Bool → (HirFunction → Analysis → Answers Analysis) → FunctionId → Analysis → Answers Analysis
SlotAnalysed keeps_all below id a = FoundAnalysed keeps_all below id a (slice_get a.env.functions id.0)

-- The functions on the n levels below a function, in stored order, those below each before it. Where the passes keep
-- everything, the one answer is that of `analysed`.
unfoldable pub AnalysedWith : Bool → ℕ → HirFunction → Analysis → Answers Analysis
AnalysedWith keeps_all zero f a = Only (Ok a)
AnalysedWith keeps_all (suc n) f a = Each (SlotAnalysed keeps_all (AnalysedWith keeps_all n)) (created_functions f) a

-- ---- what calls answer

-- The call comes to one of the answers: to an analysis whose solutions it hands out, innermost first, each of which
-- solves the flow of its function as
-- its effects pass began; or to a refusal, or to a fault of a pass of the caller. Out of memory is free.
abbrev pub Analyses : Answers Analysis → Result (List Solved) InferError → Environment → Type 0
Analyses answers (Ok solved) env = (fs : List Analysed) × answers (Ok (analysis env fs)) × Accounts fs solved
Analyses answers (Err e) env = is_memory e ≡ false → answers (Err e)

-- the same of a call that hands nothing out
abbrev pub AnalysesInto : Answers Analysis → Result ⊤ InferError → Environment → Type 0
AnalysesInto answers (Ok u) env = (fs : List Analysed) × answers (Ok (analysis env fs))
AnalysesInto answers (Err e) env = is_memory e ≡ false → answers (Err e)

-- The same where there is one answer, that of passes that keep everything and never fail: a fault of a pass of the
-- caller is free too.
abbrev pub AnalysesExactly : Result Analysis InferError → Result (List Solved) InferError → Environment → Type 0
AnalysesExactly stated (Ok solved) env = (fs : List Analysed) × (stated ≡ Ok (analysis env fs)) × Accounts fs solved
AnalysesExactly stated (Err e) env = is_free e ≡ false → stated ≡ Err e

-- the same of a call that hands nothing out
abbrev pub AnalysesExactlyInto : Result Analysis InferError → Result ⊤ InferError → Environment → Type 0
AnalysesExactlyInto stated (Ok u) env = (fs : List Analysed) × (stated ≡ Ok (analysis env fs))
AnalysesExactlyInto stated (Err e) env = is_free e ≡ false → stated ≡ Err e
