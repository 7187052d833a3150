-- One level of a walk.
use Rattle.std.proofs.Common.{◌≡◌, ℕ, suc, Bool, true, false, List, [], Some, refl, ap, sym, ◌∙◌}
use Rattle.std.specs.Prelude.{Option, Result, Ok, Err}
use Rattle.alias_base.specs.Answer.{◌>>=◌, Gives}
use Rattle.alias_base.specs.declared.ids.FunctionId.{FunctionId}
use Rattle.alias_hir.specs.declared.env.Environment.{Environment}
use Rattle.alias_hir.specs.declared.error.InferError.{InferError}
use Rattle.alias_hir.specs.Errors.{is_memory}
use Rattle.alias_hir.specs.declared.hir.HirFunction.{HirFunction}
use Rattle.alias_validate.specs.OperandMarks.{ReassigningFunctions}
use Rattle.alias_validate.specs.Walks.{answered}
use Rattle.alias_validate.specs.declared.outcome.Shared.{Shared}
use Rattle.alias_lint.specs.declared.reassigned.WalkEnd.{WalkEnd}
use Rattle.alias_lint.specs.declared.reassigned.WalkEnd.TheVariants.{Going}
use Rattle.alias_lint.specs.declared.sites.Lint.{Lint}
use Rattle.alias_lint.specs.Reassigned.{Reported, Noted, Below, block_steps, noted, reported_after, reassignment}

module _ (env : Environment) (is_function_expression : Bool) (name : Option FunctionId) (async : Bool)
    (func : HirFunction) (sh : Shared) (ls : List Lint) where
  none_walked : reassignment 0 env is_function_expression name async func (sh, ls) ≡ Ok (reported_after sh ls Going)
  unfolding reassignment
  none_walked = refl

  -- with no levels left nothing is walked
  pub walked_none : (n : ℕ) → n ≡ 0 → reassignment n env is_function_expression name async func (sh, ls)
      ≡ Ok (reported_after sh ls Going)
  walked_none n e = ap (λ (k : ℕ). reassignment k env is_function_expression name async func (sh, ls)) e ∙ none_walked

  abbrev below : ℕ → Below
  below m = λ k. reassignment m env true (Some k)

  abbrev blocks : ℕ → ReassigningFunctions → Result (Noted × WalkEnd) InferError
  blocks m ms = block_steps env (below m) is_function_expression async name func ((ms, sh), ls) func.body.blocks

  abbrev reported : Result (Noted × WalkEnd) InferError → Result (Reported × WalkEnd) InferError
  reported r = r >>= (λ x. Ok ((x.0.0.1, x.0.1), x.1))

  one_walked : (m : ℕ) → reassignment (suc m) env is_function_expression name async func (sh, ls)
      ≡ reported (blocks m [])
  unfolding reassignment
  one_walked m = refl

  -- one level is the walk of the blocks, whose own marks begin empty
  walked_more : (n m : ℕ) (ms : ReassigningFunctions) → n ≡ suc m → ms ≡ []
      → reassignment n env is_function_expression name async func (sh, ls) ≡ reported (blocks m ms)
  walked_more n m ms e none = ap (λ (k : ℕ). reassignment k env is_function_expression name async func (sh, ls)) e
      ∙ one_walked m ∙ ap (λ (z : ReassigningFunctions). reported (blocks m z)) (sym none)

  pub walked : (n m : ℕ) (ms new : ReassigningFunctions) (after : Shared) (more : List Lint) → n ≡ suc m → ms ≡ []
      → (r : Result WalkEnd InferError)
      → Gives is_memory (blocks m ms) (answered (noted new after more) r)
      → Gives is_memory (reassignment n env is_function_expression name async func (sh, ls))
      (answered (reported_after after more) r)
  walked n m ms new after more e none (Ok end) h = walked_more n m ms e none ∙ ap reported h
  walked n m ms new after more e none (Err f) h = λ no. walked_more n m ms e none ∙ ap reported (h no)
