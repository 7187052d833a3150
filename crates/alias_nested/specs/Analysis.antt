-- What the functions below a function lead to, innermost first.
use Rattle.std.specs.Prelude.{◌≡◌, ℕ, zero, suc, Bool, true, false, List, [], ◌∷◌, ◌++◌, Option, Some, None, Result, Ok}
use Rattle.std.specs.Prelude.{Err, ⊤, map, slice_get}
use Rattle.std.specs.List.{AllByRecursion}
use Rattle.alias_base.specs.Answer.{◌>>=◌}
use Rattle.alias_base.specs.declared.ids.FunctionId.{FunctionId}
use Rattle.alias_hir.specs.Errors.{is_memory}
use Rattle.alias_hir.specs.declared.env.Environment.{Environment}
use Rattle.alias_hir.specs.declared.error.InferError.{InferError}
use Rattle.alias_hir.specs.declared.error.InferError.TheVariants.{NotSettled, Uninitialized, Reinitialized}
use Rattle.alias_hir.specs.declared.error.InferError.TheVariants.{AliasBeforeCreate, IncompatibleLibrary}
use Rattle.alias_hir.specs.declared.error.InferError.TheVariants.{SpreadArgument, PassFault, Memory}
use Rattle.alias_hir.specs.declared.hir.HirFunction.{HirFunction}
use Rattle.alias_effects.specs.declared.solved.Solved.{Solved}
use Rattle.alias_effects.specs.Inference.{pass_end, env_after}
use Rattle.alias_effects.specs.Recording.{with_effects_of}
use Rattle.alias_effects.specs.Solutions.{IsSolved}
use Rattle.alias_range_pass.specs.Passes.{range_pass}
use Rattle.alias_nested.specs.Created.{created_functions}
use Rattle.alias_nested.specs.Annotating.{annotated}
use Rattle.alias_nesting_laws.specs.Slots.{with_function}
use Rattle.alias_nested.specs.Slots.{emptied}

-- ---- errors and solutions that name their function

abbrev pub named : FunctionId → InferError → InferError
named id (NotSettled f visits report) = NotSettled (Some id) visits report
named id (Uninitialized f block identifier span report) = Uninitialized (Some id) block identifier span report
named id (Reinitialized f instruction identifier) = Reinitialized (Some id) instruction identifier
named id (AliasBeforeCreate f instruction identifier) = AliasBeforeCreate (Some id) instruction identifier
named id (IncompatibleLibrary f instruction report) = IncompatibleLibrary (Some id) instruction report
named id (SpreadArgument f instruction span report) = SpreadArgument (Some id) instruction span report
named id e = e

-- a refusal is one of the function of the number
abbrev pub naming : {A : Type 0} → FunctionId → Result A InferError → Result A InferError
naming id (Ok x) = Ok x
naming id (Err e) = Err (named id e)

abbrev pub numbered : FunctionId → Solved → Solved
numbered id s = record s { function = Some id }

-- ---- what is analysed

-- a function as its effects pass begins, and what is solved of it
pub record Analysed : Type 0 where
  pub env : Environment
  pub func : HirFunction
  pub is_function_expression : Bool
  pub solved : Solved

-- the environment, and the functions that are analysed so far
pub record Analysis : Type 0 where
  pub env : Environment
  pub functions : List Analysed

abbrev pub analysis : Environment → List Analysed → Analysis
analysis env fs = record { env = env; functions = fs }

-- one step after the other, up to the first refusal
abbrev pub each : {X A : Type 0} → (X → A → Result A InferError) → List X → A → Result A InferError
each step [] a = Ok a
each step (x ∷ xs) a = step x a >>= each step xs

-- the effects pass on a nested function
abbrev pub effects_analysed : FunctionId → HirFunction → Analysis → Result (HirFunction × Analysis) InferError
effects_analysed id f a = do
  e ← naming id (pass_end a.env f true)
  Ok (
    with_effects_of e.solved f,
    analysis (env_after a.env e)
        (a.functions ++ record { env = a.env; func = f; is_function_expression = true; solved = numbered id e.solved }
        ∷ []),
  )

-- from the range pass on: the summary is stored
abbrev pub completed : FunctionId → HirFunction → Environment → Result (HirFunction × Environment) InferError
completed id f env = do
  r ← naming id (range_pass true f env)
  Ok (annotated r.summary r.after)

abbrev pub completed_with : FunctionId → HirFunction × Analysis → Result (HirFunction × Analysis) InferError
completed_with id s = do
  c ← completed id s.0 s.1.env
  Ok (c.0, analysis c.1 s.1.functions)

-- a nested function, once those below it are analysed: the effects pass, then the range pass, and what is set once the
-- summary is known
abbrev pub function_analysed : FunctionId → HirFunction → Analysis → Result (HirFunction × Analysis) InferError
function_analysed id f a = effects_analysed id f a >>= completed_with id

-- a nested function that is out of its slot: first those below it
abbrev pub taken_analysed : (HirFunction → Analysis → Result Analysis InferError) → FunctionId → HirFunction → Analysis
    → Result (HirFunction × Analysis) InferError
taken_analysed below id f a = below f a >>= function_analysed id f

abbrev pub put_back : FunctionId → HirFunction × Analysis → Analysis
put_back id s = record s.1 { env = with_function id s.0 s.1.env }

abbrev pub found_analysed : (HirFunction → Analysis → Result Analysis InferError) → FunctionId → Analysis
    → Option HirFunction → Result Analysis InferError
found_analysed below id a None = Ok a
found_analysed below id a (Some f) = do
  s ← taken_analysed below id f (record a { env = with_function id (emptied f.returns) a.env })
  Ok (put_back id s)

-- the nested function of a number is taken out of its slot, analysed, and put back
abbrev pub slot_analysed : (HirFunction → Analysis → Result Analysis InferError) → FunctionId → Analysis
    → Result Analysis InferError
slot_analysed below id a = found_analysed below id a (slice_get a.env.functions id.0)

-- the functions on the n levels below a function, in stored order, those below each before it
unfoldable pub analysed : ℕ → HirFunction → Analysis → Result Analysis InferError
analysed zero f a = Ok a
analysed (suc n) f a = each (slot_analysed (analysed n)) (created_functions f) a

-- the levels of functions below the one that is handed in
abbrev pub most_levels : ℕ
most_levels = 63

-- ---- what calls answer

-- an answer that no definition foretells: out of memory, and a fault of a pass of the caller
abbrev pub is_free : InferError → Bool
is_free (Memory e) = true
is_free (PassFault f pass) = true
is_free e = false

-- what is handed out of an analysed function solves its flow
abbrev pub SolvesItsFlow : Analysed → Type 0
SolvesItsFlow x = IsSolved x.env x.func x.is_function_expression x.solved

-- these are the solutions of the functions that were analysed, and each solves the flow of its function
pub record Accounts (fs : List Analysed) (solved : List Solved) : Type 0 where
  pub same : map (λ (x : Analysed). x.solved) fs ≡ solved
  pub solve : AllByRecursion SolvesItsFlow fs

-- a call leads to the analysis stated, or answers the refusal stated
abbrev pub Leads : Result Analysis InferError → Result ⊤ InferError → Environment → List Solved → Type 0
Leads stated (Ok u) env solved = (fs : List Analysed) × (stated ≡ Ok (analysis env fs)) × Accounts fs solved
Leads stated (Err e) env solved = is_free e ≡ false → stated ≡ Err e

-- the same of a call that has a function out of its slot, and that calls no pass of the caller
abbrev pub LeadsWith : Result (HirFunction × Analysis) InferError → Result ⊤ InferError → HirFunction → Environment
    → List Solved → Type 0
LeadsWith stated (Ok u) func env solved = (fs : List Analysed) × (stated ≡ Ok (func, analysis env fs))
    × Accounts fs solved
LeadsWith stated (Err e) func env solved = is_memory e ≡ false → stated ≡ Err e

-- a pass of the caller failed
abbrev pub IsFault : InferError → Type 0
IsFault (PassFault f pass) = ⊤
IsFault e = ⊥

abbrev pub IsPassFault : {A : Type 0} → Result A InferError → Type 0
IsPassFault (Ok x) = ⊥
IsPassFault (Err e) = IsFault e
