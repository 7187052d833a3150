-- How the analysis of nested functions is refused, and what that leaves: the environment in which a pass refused a
-- function, with that function and those
-- around it back in their slots. So whatever was found of the functions before it stays.
use Rattle.std.specs.Prelude.{◌≡◌, ℕ, zero, suc, Bool, true, false, List, [], ◌∷◌, Some, Result, Ok, Err, ⊤, slice_get}
use Rattle.alias_base.specs.declared.ids.FunctionId.{FunctionId}
use Rattle.alias_effects.specs.declared.solved.Solved.{Solved}
use Rattle.alias_hir.specs.Errors.{is_memory}
use Rattle.alias_hir.specs.declared.env.Environment.{Environment}
use Rattle.alias_hir.specs.declared.error.InferError.{InferError}
use Rattle.alias_hir.specs.declared.error.Pass.{Pass}
use Rattle.alias_hir.specs.declared.error.Pass.TheVariants.{DeadCodeElimination}
use Rattle.alias_hir.specs.declared.error.Pass.TheVariants.{RewriteInstructionKindsBasedOnReassignment}
use Rattle.alias_hir.specs.declared.error.Pass.TheVariants.{InferReactiveScopeVariables}
use Rattle.alias_hir.specs.declared.hir.HirFunction.{HirFunction}
use Rattle.alias_range_pass.specs.Passes.{range_pass}
use Rattle.alias_nested.specs.Analysis.{Analysed, Analysis, analysis, naming, effects_analysed, Accounts}
use Rattle.alias_nested.specs.Answers.{Answers, Only, IsPassed, Passed, SlotAnalysed, AnalysedWith}
use Rattle.alias_nested.specs.Created.{created_functions}
use Rattle.alias_nested.specs.Slots.{emptied}
use Rattle.alias_nesting_laws.specs.Slots.{with_function}

-- ---- refusals of steps

-- which refusals may come of a step, and what each leaves
abbrev pub Refusals : Type 0 → Type 1
Refusals S = InferError → S → Type 0

-- one step, and then the next: the step is refused, or it is done and the next is refused
pub data OneRefused {A S : Type 0} (step : Refusals S) (answers : Answers A) (next : A → Refusals S) (e : InferError)
    (left : S) : Type 0 where
  at_once : step e left → OneRefused step answers next e left
  later : (x : A) → answers (Ok x) → next x e left → OneRefused step answers next e left

-- one step after the other: one of them is refused, and those before it are done
abbrev pub OneOfRefused : {X A S : Type 0} → (X → A → Refusals S) → (X → A → Answers A) → List X → A → Refusals S
OneOfRefused refused step [] a e left = ⊥
OneOfRefused refused step (x ∷ xs) a e left = OneRefused (refused x a) (step x a) (OneOfRefused refused step xs) e left

-- ---- a nested function

-- A pass of the caller fails, and leaves what it has to keep.
abbrev pub Fails : Bool → FunctionId → Pass → HirFunction × Environment → Refusals (HirFunction × Environment)
Fails keeps_all id pass old e left = Passed keeps_all id pass old (Err e) × IsPassed keeps_all old left

-- A pass of the caller fails, or it is done and what follows is refused.
abbrev pub ThroughPass : Bool → FunctionId → Pass → HirFunction × Environment
    → (HirFunction × Environment → Refusals (HirFunction × Environment)) → Refusals (HirFunction × Environment)
ThroughPass keeps_all id pass old = OneRefused (Fails keeps_all id pass old) (Passed keeps_all id pass old)

-- A pass of the inference with this answer is refused, and changes nothing.
abbrev pub Unchanged : {A : Type 0} → Result A InferError → HirFunction × Environment
    → Refusals (HirFunction × Environment)
Unchanged stated old e left = (stated ≡ Err e) × (left ≡ old)

-- A pass of the inference with this answer is refused, or it is done and what follows is refused.
abbrev pub Through : {A : Type 0} → Result A InferError → HirFunction × Environment
    → (A → Refusals (HirFunction × Environment)) → Refusals (HirFunction × Environment)
Through stated old = OneRefused (Unchanged stated old) (Only stated)

-- what follows the effects pass
abbrev pub CompletionRefused : Bool → FunctionId → HirFunction × Environment → Refusals (HirFunction × Environment)
CompletionRefused keeps_all id s =
    ThroughPass keeps_all id DeadCodeElimination s (λ dead.
    Through (naming id (range_pass true dead.0 dead.1)) dead (λ r.
    ThroughPass keeps_all id RewriteInstructionKindsBasedOnReassignment r.after
    (Fails keeps_all id InferReactiveScopeVariables)))

-- a nested function, once those below it are analysed: first the effects pass
abbrev pub FunctionRefused : Bool → FunctionId → HirFunction → Analysis → Refusals (HirFunction × Environment)
FunctionRefused keeps_all id f a = Through (effects_analysed id f a) (f, a.env)
    (λ s. CompletionRefused keeps_all id (s.0, s.1.env))

-- a refusal of one of the functions below a function, which stays as it is
abbrev pub BelowRefused : Refusals Environment → HirFunction → Refusals (HirFunction × Environment)
BelowRefused below f e left = below e left.1 × (left.0 ≡ f)

-- a nested function that is out of its slot: first those on the n levels below it
abbrev pub TakenRefused : Bool → ℕ → (HirFunction → Analysis → Refusals Environment) → FunctionId → HirFunction
    → Analysis → Refusals (HirFunction × Environment)
TakenRefused keeps_all n below id f a = OneRefused (BelowRefused (below f a) f) (AnalysedWith keeps_all n f a)
    (FunctionRefused keeps_all id f)

-- the nested function of a number is taken out of its slot, refused, and put back
pub record SlotRefused (keeps_all : Bool) (n : ℕ) (below : HirFunction → Analysis → Refusals Environment)
    (id : FunctionId) (a : Analysis) (e : InferError) (left : Environment) : Type 0 where
  pub func : HirFunction
  pub there : slice_get a.env.functions id.0 ≡ Some func
  pub last : HirFunction × Environment
  pub refused : TakenRefused keeps_all n below id func
      (record a { env = with_function id (emptied func.returns) a.env }) e last
  pub back : left ≡ with_function id last.0 last.1

-- One of the functions on the n levels below a function is refused, in the order of `AnalysedWith`.
unfoldable pub AnalysisRefused : Bool → ℕ → HirFunction → Analysis → Refusals Environment
AnalysisRefused keeps_all zero f a e left = ⊥
AnalysisRefused keeps_all (suc n) f a e left =
    OneOfRefused (SlotRefused keeps_all n (AnalysisRefused keeps_all n))
    (SlotAnalysed keeps_all (AnalysedWith keeps_all n)) (created_functions f) a e left

-- ---- what calls leave

-- A refusal is one of these, with what it leaves. Out of memory is free.
abbrev pub Leaves : {A S : Type 0} → Refusals S → Result A InferError → S → Type 0
Leaves refusals (Ok x) left = ⊤
Leaves refusals (Err e) left = is_memory e ≡ false → refusals e left

-- What follows the effects pass leaves one of the functions and environments, or is refused.
abbrev pub CompletesOne : Answers (HirFunction × Environment) → Refusals (HirFunction × Environment)
    → Result ⊤ InferError → HirFunction → Environment → Type 0
CompletesOne answers refusals (Ok u) func env = answers (Ok (func, env))
CompletesOne answers refusals (Err e) func env = is_memory e ≡ false → refusals e (func, env)

-- A call within the analysis comes to one of the answers, and notes solutions behind those that were noted, or is
-- refused.
abbrev pub LeadsToOne : Answers Analysis → Refusals Environment → Result ⊤ InferError → Environment → List Solved
    → Type 0
LeadsToOne answers refusals (Ok u) env solved = (fs : List Analysed) × answers (Ok (analysis env fs))
    × Accounts fs solved
LeadsToOne answers refusals (Err e) env solved = is_memory e ≡ false → refusals e env

-- the same of a call that has a function out of its slot
abbrev pub LeadsToOneWith : Answers (HirFunction × Analysis) → Refusals (HirFunction × Environment)
    → Result ⊤ InferError → HirFunction → Environment → List Solved → Type 0
LeadsToOneWith answers refusals (Ok u) func env solved = (fs : List Analysed) × answers (Ok (func, analysis env fs))
    × Accounts fs solved
LeadsToOneWith answers refusals (Err e) func env solved = is_memory e ≡ false → refusals e (func, env)
