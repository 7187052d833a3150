-- What finishes a nested function once its effects are recorded.
use Rattle.std.specs.Prelude.{◌≡◌, true, false, Result, Ok, Err, ⊤}
use Rattle.alias_base.specs.Answer.{◌>>=◌}
use Rattle.alias_hir.specs.Errors.{is_memory}
use Rattle.alias_hir.specs.declared.env.Environment.{Environment}
use Rattle.alias_hir.specs.declared.error.InferError.{InferError}
use Rattle.alias_hir.specs.declared.hir.HirFunction.{HirFunction}
use Rattle.alias_range_pass.specs.Passes.{range_pass}
use Rattle.alias_nested.specs.Annotating.{annotated}

-- the range pass, and what is set once the summary is known
abbrev pub finished : HirFunction → Environment → Result (HirFunction × Environment) InferError
finished f env = do
  r ← range_pass true f env
  Ok (annotated r.summary r.after)

-- function and environment become what is stated, or stay where the refusal is the one stated. Out of memory is free:
-- it can come in the place of any answer
abbrev pub FinishesInto : Result (HirFunction × Environment) InferError → HirFunction → Environment
    → Result ⊤ InferError → HirFunction → Environment → Type 0
FinishesInto stated f env (Ok u) new_f new_env = stated ≡ Ok (new_f, new_env)
FinishesInto stated f env (Err e) new_f new_env = is_memory e ≡ false → (stated ≡ Err e) × (new_f ≡ f) × (new_env ≡ env)
