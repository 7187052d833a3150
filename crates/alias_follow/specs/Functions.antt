-- What follows for the functions of a unit, one function after the other.
use Rattle.std.specs.Prelude.{◌≡◌, Bool, true, false, List, [], ◌∷◌, ◌++◌, Option, Some, None, Result, Ok, Err, ⊤}
use Rattle.std.specs.Prelude.{map}
use Rattle.std.specs.List.{AllByRecursion}
use Rattle.alias_base.specs.Answer.{◌>>=◌}
use Rattle.alias_base.specs.declared.ids.FunctionId.{FunctionId}
use Rattle.alias_hir.specs.declared.effect.AliasingEffect.{AliasingEffect}
use Rattle.alias_hir.specs.declared.env.Environment.{Environment}
use Rattle.alias_hir.specs.Errors.{is_memory as is_free}
use Rattle.alias_hir.specs.declared.error.InferError.{InferError}
use Rattle.alias_hir.specs.declared.hir.HirFunction.{HirFunction}
use Rattle.alias_tables.specs.Tables.{TableLists}
use Rattle.alias_effects.specs.Inference.{env_after, end_tables}
use Rattle.alias_effects.specs.Recording.{with_effects_of}
use Rattle.alias_effects.specs.Solutions.{IsSolvedUnder}
use Rattle.alias_effects.specs.declared.solved.Solved.{Solved}
use Rattle.alias_range_pass.specs.Passes.{range_pass}
use Rattle.alias_nested.specs.Finishing.{finished}
use Rattle.alias_nested.specs.Units.{validated}
use Rattle.alias_certificate.specs.declared.certificate.CertFunction.{CertFunction}
use Rattle.alias_certificate.specs.declared.fault.CheckFault.{CheckFault}
use Rattle.alias_cert.specs.Functions.{ranging}
use Rattle.alias_cert.specs.function.Faults.{is_memory}
use Rattle.alias_follow.specs.declared.function.follow.FunctionEnd.{FunctionEnd}
use Rattle.alias_follow.specs.declared.function.follow.FunctionBeyond.{FunctionBeyond}
use Rattle.alias_follow.specs.function.Functions.{function_followed}
use Rattle.alias_follow.specs.function.Givens.{given_of}

-- ---- what is followed

-- a function as the pass over it begins, the tables that its steps end with, and what is handed out of it
pub record FollowedFunction : Type 0 where
  pub env : Environment
  pub func : HirFunction
  pub is_function_expression : Bool
  pub tables : TableLists
  pub solved : Solved
  pub beyond : FunctionBeyond

-- the environment, and the functions that are followed so far
pub record Following : Type 0 where
  pub env : Environment
  pub functions : List FollowedFunction

abbrev pub following : Environment → List FollowedFunction → Following
following env fs = record { env = env; functions = fs }

-- ---- effects

-- a function of which this is handed out, as the pass over it began
abbrev pub followed_function : Option FunctionId → Bool → HirFunction → Environment → FunctionEnd → FollowedFunction
followed_function id is_function_expression f env e = record {
  env = env;
  func = f;
  is_function_expression = is_function_expression;
  tables = end_tables e.end;
  solved = record e.end.solved { function = id };
  beyond = e.beyond;
}

-- the function carries its effects, and the environment takes over what the steps added
abbrev pub effects_followed : List CertFunction → Option FunctionId → Bool → HirFunction → Following
    → Result (HirFunction × Following) CheckFault
effects_followed given id is_function_expression f a = do
  e ← function_followed (given_of given id) id a.env f is_function_expression
  Ok (
    with_effects_of e.end.solved f,
    following (env_after a.env e.end)
        (a.functions ++ followed_function id is_function_expression f a.env e ∷ []),
  )

-- ---- whole functions

-- a nested function that carries its effects is finished as the inference finishes it
abbrev pub nested_finished : FunctionId → HirFunction × Following → Result (HirFunction × Following) CheckFault
nested_finished id s = do
  r ← ranging (Some id) (finished s.0 s.1.env)
  Ok (r.0, following r.1 s.1.functions)

-- a nested function, once those below it are followed
abbrev pub nested_followed : List CertFunction → FunctionId → HirFunction → Following
    → Result (HirFunction × Following) CheckFault
nested_followed given id f a = effects_followed given (Some id) true f a >>= nested_finished id

-- the root with all that was followed, and its summary
pub record RootFollowing : Type 0 where
  pub summary : List AliasingEffect
  pub func : HirFunction
  pub following : Following

-- the range pass gives the summary of the root, and both validations their reports
abbrev pub root_ended : HirFunction → Environment → Result (List AliasingEffect × (HirFunction × Environment)) InferError
root_ended f env = do
  r ← range_pass false f env
  more ← validated r.after.0 r.after.1
  Ok (r.summary, (r.after.0, more))

-- the same of the root that carries its effects
abbrev pub root_finished : HirFunction × Following → Result RootFollowing CheckFault
root_finished s = do
  r ← ranging None (root_ended s.0 s.1.env)
  Ok (record { summary = r.0; func = r.1.0; following = following r.1.1 s.1.functions })

-- the root, once the functions below it are followed
abbrev pub root_followed : List CertFunction → HirFunction → Following → Result RootFollowing CheckFault
root_followed given f a = effects_followed given None false f a >>= root_finished

-- ---- what calls answer

-- what is handed out of a function that is followed solves its flow, under the tables that its steps end with
abbrev pub SolvesItsFlow : FollowedFunction → Type 0
SolvesItsFlow x = IsSolvedUnder x.env x.func x.is_function_expression x.tables x.solved

-- these are what is handed out of the functions that were followed, and each solves the flow of its function
pub record Accounts (fs : List FollowedFunction) (solved : List Solved) (beyond : List FunctionBeyond) : Type 0 where
  pub solved_same : map (λ (x : FollowedFunction). x.solved) fs ≡ solved
  pub beyond_same : map (λ (x : FollowedFunction). x.beyond) fs ≡ beyond
  pub solve : AllByRecursion SolvesItsFlow fs

-- a call comes to what is stated, or finds the fault that is stated. Out of memory is free: it can come in the place of
-- any answer
abbrev pub Comes : Result Following CheckFault → Result ⊤ CheckFault → Environment → List Solved → List FunctionBeyond
    → Type 0
Comes stated (Ok u) env solved beyond = (fs : List FollowedFunction) × (stated ≡ Ok (following env fs))
    × Accounts fs solved beyond
Comes stated (Err e) env solved beyond = is_memory e ≡ false → stated ≡ Err e

-- the same of a call that has a function out of its slot
abbrev pub ComesWith : Result (HirFunction × Following) CheckFault → Result ⊤ CheckFault → HirFunction → Environment
    → List Solved → List FunctionBeyond → Type 0
ComesWith stated (Ok u) func env solved beyond = (fs : List FollowedFunction) × (stated ≡ Ok (func, following env fs))
    × Accounts fs solved beyond
ComesWith stated (Err e) func env solved beyond = is_memory e ≡ false → stated ≡ Err e

-- the root and the environment become what is stated, with the summary, or the refusal is the one stated. Out of memory
-- is free: it can come in the place of any answer
abbrev pub RootEnds : Result (List AliasingEffect × (HirFunction × Environment)) InferError
    → Result (List AliasingEffect) InferError → HirFunction → Environment → Type 0
RootEnds stated (Ok summary) func env = stated ≡ Ok (summary, (func, env))
RootEnds stated (Err e) func env = is_free e ≡ false → stated ≡ Err e

-- and of one that has the root
abbrev pub RootComes : Result RootFollowing CheckFault → Result (List AliasingEffect) CheckFault → HirFunction
    → Environment → List Solved → List FunctionBeyond → Type 0
RootComes stated (Ok summary) func env solved beyond = (fs : List FollowedFunction)
    × (stated ≡ Ok (record { summary = summary; func = func; following = following env fs }))
    × Accounts fs solved beyond
RootComes stated (Err e) func env solved beyond = is_memory e ≡ false → stated ≡ Err e
