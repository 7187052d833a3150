-- One level of a walk.
use Rattle.std.proofs.Common.{◌≡◌, ℕ, suc, Bool, true, false, [], refl, ap, sym, subst, ◌∙◌}
use Rattle.std.specs.Prelude.{Option, None, Result, Ok, Err}
use Rattle.alias_base.specs.Answer.{◌>>=◌, Gives}
use Rattle.alias_hir.specs.declared.env.Environment.{Environment}
use Rattle.alias_hir.specs.declared.error.InferError.{InferError}
use Rattle.alias_hir.specs.Errors.{is_memory}
use Rattle.alias_hir.specs.declared.hir.HirFunction.{HirFunction}
use Rattle.alias_hir.specs.declared.place.Place.{Place}
use Rattle.alias_validate.specs.OperandMarks.{ReassigningFunctions, Seen, seen}
use Rattle.alias_validate.specs.Reassigning.{block_steps, context_reassignment, walk_ended}
use Rattle.alias_validate.specs.Walks.{answered, place_of}
use Rattle.alias_validate.specs.declared.outcome.WalkOutcome.{WalkOutcome}
use Rattle.alias_validate.specs.declared.outcome.Shared.{Shared}

abbrev pub ended_with : Shared → Option Place → Result (Shared × Option Place) InferError
ended_with sh p = Ok (walk_ended sh p)

module _ (env : Environment) (is_function_expression async : Bool) (func : HirFunction) (sh : Shared) where
  none_walked : context_reassignment 0 env is_function_expression async func sh ≡ Ok (walk_ended sh None)
  unfolding context_reassignment
  none_walked = refl

  -- with no levels left nothing is walked
  pub walked_none : (n : ℕ) → n ≡ 0 → context_reassignment n env is_function_expression async func sh
      ≡ Ok (walk_ended sh None)
  walked_none n e = ap (λ (k : ℕ). context_reassignment k env is_function_expression async func sh) e ∙ none_walked

  one_walked : (m : ℕ) → context_reassignment (suc m) env is_function_expression async func sh
      ≡ block_steps env (context_reassignment m env true) is_function_expression async func ([], sh) func.body.blocks
      >>= (λ r. Ok (r.0.1, place_of r.1))
  unfolding context_reassignment
  one_walked m = refl

  -- one level is the walk of the blocks, whose own marks begin empty
  walked_more : (n m : ℕ) (ms : ReassigningFunctions) → n ≡ suc m → ms ≡ []
      → context_reassignment n env is_function_expression async func sh
      ≡ block_steps env (context_reassignment m env true) is_function_expression async func (ms, sh)
      func.body.blocks >>= (λ r. Ok (r.0.1, place_of r.1))
  walked_more n m ms e none =
      ap (λ (k : ℕ). context_reassignment k env is_function_expression async func sh) e ∙ one_walked m
      ∙ ap (λ (z : ReassigningFunctions). block_steps env (context_reassignment m env true) is_function_expression async
      func (z, sh) func.body.blocks >>= (λ r. Ok (r.0.1, place_of r.1))) (sym none)

  pub walked_ok : (n m : ℕ) (ms : ReassigningFunctions) → n ≡ suc m → ms ≡ []
      → (new : ReassigningFunctions) (after : Shared) (o : WalkOutcome)
      → block_steps env (context_reassignment m env true) is_function_expression async func (ms, sh) func.body.blocks
      ≡ Ok (seen new after o) → context_reassignment n env is_function_expression async func sh
      ≡ Ok (walk_ended after (place_of o))
  walked_ok n m ms e none new after o h = walked_more n m ms e none
      ∙ ap (λ (z : Result (Seen × WalkOutcome) InferError). z >>= (λ r. Ok (r.0.1, place_of r.1))) h

  pub walked_fails : (n m : ℕ) (ms : ReassigningFunctions) → n ≡ suc m → ms ≡ []
      → (after : Shared) (f : InferError) (r : Result (Option Place) InferError) → r ≡ Err f
      → (is_memory f ≡ false → block_steps env (context_reassignment m env true) is_function_expression async func
      (ms, sh) func.body.blocks ≡ Err f)
      → Gives is_memory (context_reassignment n env is_function_expression async func sh)
      (answered (walk_ended after) r)
  walked_fails n m ms e none after f r is h =
      subst (λ z. Gives is_memory (context_reassignment n env is_function_expression async func sh)
      (answered (walk_ended after) z)) (sym is)
      (λ no. walked_more n m ms e none ∙ ap (λ (z : Result (Seen × WalkOutcome) InferError). z
      >>= (λ r. Ok (r.0.1, place_of r.1))) (h no))
