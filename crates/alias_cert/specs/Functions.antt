-- What a certificate says of the functions of a unit, checked one function after the other.
use Rattle.std.specs.Prelude.{◌≡◌, ℕ, Bool, true, false, ◌==◌, if◌then◌else◌, List, [], ◌∷◌, ◌++◌, length, map, Option}
use Rattle.std.specs.Prelude.{Some, None, Result, Ok, Err, ⊤, slice_get}
use Rattle.std.specs.List.{AllByRecursion}
use Rattle.alias_base.specs.Answer.{◌>>=◌}
use Rattle.alias_base.specs.declared.ids.FunctionId.{FunctionId}
use Rattle.alias_hir.specs.declared.effect.AliasingEffect.{AliasingEffect}
use Rattle.alias_hir.specs.declared.env.Environment.{Environment}
use Rattle.alias_hir.specs.declared.error.InferError.{InferError}
use Rattle.alias_hir.specs.declared.error.InferError.TheVariants as error
use Rattle.alias_hir.specs.declared.hir.HirFunction.{HirFunction}
use Rattle.alias_lattice.specs.States.{State}
use Rattle.alias_tables.specs.Tables.{TableLists}
use Rattle.alias_effects.specs.Inference.{env_after, end_tables, entries_of}
use Rattle.alias_effects.specs.Recording.{with_effects_of}
use Rattle.alias_effects.specs.Solutions.{IsSolvedUnder}
use Rattle.alias_effects.specs.declared.output.PassEnd.{PassEnd}
use Rattle.alias_effects.specs.declared.solved.Solved.{Solved}
use Rattle.alias_range_pass.specs.Passes.{range_pass}
use Rattle.alias_nested.specs.Finishing.{finished}
use Rattle.alias_certificate.specs.declared.certificate.CertFunction.{CertFunction}
use Rattle.alias_certificate.specs.declared.fault.CheckFault.{CheckFault}
use Rattle.alias_certificate.specs.declared.fault.CheckFault.TheVariants as fault
use Rattle.alias_cert.specs.effects.Telling.{is_summary_claimed}
use Rattle.alias_cert.specs.function.Faults.{is_memory}
use Rattle.alias_cert.specs.function.Functions.{entries_checked, function_solved}

-- ---- what is checked

-- a function as the check of it begins, the tables that its steps end with, and what is handed out of it
pub record CheckedFunction : Type 0 where
  pub env : Environment
  pub func : HirFunction
  pub is_function_expression : Bool
  pub said : CertFunction
  pub tables : TableLists
  pub solved : Solved

-- the environment, and the functions that are checked so far
pub record Checking : Type 0 where
  pub env : Environment
  pub functions : List CheckedFunction

abbrev pub checking : Environment → List CheckedFunction → Checking
checking env fs = record { env = env; functions = fs }

-- ---- what is said of a function

abbrev pub same_name : Option FunctionId → Option FunctionId → Bool
same_name None None = true
same_name None (Some g) = false
same_name (Some f) None = false
same_name (Some f) (Some g) = f.0 == g.0

-- what is said at a position: it is to be there, and of this function
abbrev pub said_as : ℕ → Option FunctionId → Option CertFunction → Result CertFunction CheckFault
said_as n id None = Err (fault.Functions n)
said_as n id (Some c) = if same_name c.function id then Ok c else Err (fault.Functions n)

abbrev pub said : List CertFunction → ℕ → Option FunctionId → Result CertFunction CheckFault
said functions n id = said_as n id (slice_get functions n)

-- ---- effects

-- a function of which this is handed out, as the check of it began
abbrev pub checked_function : Option FunctionId → Bool → HirFunction → Environment → CertFunction → PassEnd
    → CheckedFunction
checked_function id is_function_expression f env c e = record {
  env = env;
  func = f;
  is_function_expression = is_function_expression;
  said = c;
  tables = end_tables e;
  solved = record e.solved { function = id };
}

-- the function carries its effects, and the environment takes over what the steps added
abbrev pub effects_checked : Option FunctionId → Bool → HirFunction → Checking → CertFunction
    → Result (HirFunction × Checking) CheckFault
effects_checked id is_function_expression f a c = do
  e ← function_solved c a.env f is_function_expression
  Ok (
    with_effects_of e.solved f,
    checking (env_after a.env e)
        (a.functions ++ checked_function id is_function_expression f a.env c e ∷ []),
  )

-- ---- summaries

-- why the range pass gives no summary: it is refused for want of numbers alone
abbrev pub range_fault : Option FunctionId → InferError → CheckFault
range_fault id (error.TooMany which) = fault.TooMany which
range_fault id (error.Memory e) = fault.Memory e
range_fault id e = fault.Step id (record { 0 = 0 }) e

abbrev pub ranging : {A : Type 0} → Option FunctionId → Result A InferError → Result A CheckFault
ranging id (Ok x) = Ok x
ranging id (Err e) = Err (range_fault id e)

-- the summary is the one that is claimed
abbrev pub summary_checked : CertFunction → List AliasingEffect → Result ⊤ CheckFault
summary_checked c summary = if is_summary_claimed summary c.summary then Ok tt else Err (fault.Summary c.function)

abbrev pub summary_or : Option (List AliasingEffect) → List AliasingEffect
summary_or None = []
summary_or (Some es) = es

abbrev pub stored_summary : HirFunction → List AliasingEffect
stored_summary f = summary_or f.aliasing_effects

-- ---- whole functions

-- the summary is checked, and what is left is handed on
abbrev pub summed : CertFunction → List AliasingEffect → HirFunction → Checking
    → Result (HirFunction × Checking) CheckFault
summed c summary f a = do
  u ← summary_checked c summary
  Ok (f, a)

-- a nested function that carries its effects is finished as the inference finishes it, with the summary that is claimed
abbrev pub nested_finished : CertFunction → FunctionId → HirFunction × Checking
    → Result (HirFunction × Checking) CheckFault
nested_finished c id s = do
  r ← ranging (Some id) (finished s.0 s.1.env)
  summed c (stored_summary r.0) r.0 (checking r.1 s.1.functions)

abbrev pub nested_as_said : FunctionId → HirFunction → Checking → CertFunction
    → Result (HirFunction × Checking) CheckFault
nested_as_said id f a c = effects_checked (Some id) true f a c >>= nested_finished c id

-- a nested function, once those below it are checked
abbrev pub nested_checked : List CertFunction → FunctionId → HirFunction → Checking
    → Result (HirFunction × Checking) CheckFault
nested_checked functions id f a = said functions (length a.functions) (Some id) >>= nested_as_said id f a

-- the root that carries its effects: the range pass gives its summary, which is the one that is claimed
abbrev pub root_finished : CertFunction → HirFunction × Checking → Result (HirFunction × Checking) CheckFault
root_finished c s = do
  r ← ranging None (range_pass false s.0 s.1.env)
  summed c r.summary r.after.0 (checking r.after.1 s.1.functions)

abbrev pub root_as_said : HirFunction → Checking → CertFunction → Result (HirFunction × Checking) CheckFault
root_as_said f a c = effects_checked None false f a c >>= root_finished c

-- the root, once the functions below it are checked
abbrev pub root_checked : List CertFunction → HirFunction → Checking → Result (HirFunction × Checking) CheckFault
root_checked functions f a = said functions (length a.functions) None >>= root_as_said f a

-- ---- what calls answer

-- what is handed out of a function enters its blocks with the states that the certificate says, block by block
abbrev pub EntersAsSaid : CheckedFunction → Type 0
EntersAsSaid x =
    (states : List (Option State)) × (entries_checked x.said x.env x.func x.is_function_expression ≡ Ok states)
    × (x.solved.entries ≡ entries_of x.func.body.blocks states)

-- the functions that were checked are those of the certificate, one after the other, and each enters its blocks as it
-- says
pub record AreAsSaid (functions : List CertFunction) (fs : List CheckedFunction) : Type 0 where
  pub same : map (λ (x : CheckedFunction). x.said) fs ≡ functions
  pub enter : AllByRecursion EntersAsSaid fs

-- what is handed out of a function that is checked solves its flow, under the tables that its steps end with
abbrev pub SolvesItsFlow : CheckedFunction → Type 0
SolvesItsFlow x = IsSolvedUnder x.env x.func x.is_function_expression x.tables x.solved

-- these are the solutions of the functions that were checked, and each solves the flow of its function
pub record Accounts (fs : List CheckedFunction) (solved : List Solved) : Type 0 where
  pub same : map (λ (x : CheckedFunction). x.solved) fs ≡ solved
  pub solve : AllByRecursion SolvesItsFlow fs

-- a call comes to what is stated, or finds the fault that is stated. Out of memory is free: it can come in the place of
-- any answer
abbrev pub Comes : Result Checking CheckFault → Result ⊤ CheckFault → Environment → List Solved → Type 0
Comes stated (Ok u) env solved = (fs : List CheckedFunction) × (stated ≡ Ok (checking env fs)) × Accounts fs solved
Comes stated (Err e) env solved = is_memory e ≡ false → stated ≡ Err e

-- the same of a call that has a function out of its slot
abbrev pub ComesWith : Result (HirFunction × Checking) CheckFault → Result ⊤ CheckFault → HirFunction → Environment
    → List Solved → Type 0
ComesWith stated (Ok u) func env solved = (fs : List CheckedFunction) × (stated ≡ Ok (func, checking env fs))
    × Accounts fs solved
ComesWith stated (Err e) func env solved = is_memory e ≡ false → stated ≡ Err e
