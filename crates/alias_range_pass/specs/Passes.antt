-- The range pass whole: a function, its environment and its summary after it.
use Rattle.std.specs.Prelude.{◌≡◌, ◌&&◌, Bool, false, not, List, Result, Ok, Err}
use Rattle.alias_base.specs.Answer.{◌>>=◌}
use Rattle.alias_hir.specs.declared.effect.AliasingEffect.{AliasingEffect}
use Rattle.alias_hir.specs.declared.env.Environment.{Environment}
use Rattle.alias_hir.specs.declared.error.InferError.{InferError}
use Rattle.alias_hir.specs.declared.hir.HirFunction.{HirFunction}
use Rattle.alias_hir.specs.Errors.{is_memory}
use Rattle.alias_graph.specs.declared.recorded.listing.Listing.{Listing}
use Rattle.alias_range_pass.specs.places.Blocks.{Placed, function_placed}
use Rattle.alias_range_pass.specs.summary.MarkedPlaces.{function_captured}
use Rattle.alias_range_pass.specs.summary.Summaries.{summarized}
use Rattle.alias_range_pass.specs.summary.Walking.{Walked, mutations_done, renders_done}
use Rattle.alias_range_pass.specs.Refusals.{recorded}

-- errors are recorded for the root, with validations on
abbrev pub records : Bool → Environment → Bool
records is_function_expression env = not is_function_expression && env.config.enable_validations

pub record Ranged : Type 0 where
  pub summary : List AliasingEffect
  pub after : Placed

-- the summary, and the function and its environment, where so much was walked and rendered
abbrev pub ranged_after : Bool → HirFunction → Listing → Walked → Environment → Ranged
ranged_after is_function_expression f l w env = record {
  summary = summarized w.0 l.next f env l.summary;
  after = function_placed is_function_expression (function_captured w.0 f, env);
}

-- the pass, where this is recorded: mutations walk, then renders run where errors are recorded
abbrev pub ranged : Bool → HirFunction → Environment → Listing → Ranged
ranged is_function_expression f env l =
    ranged_after is_function_expression f l (mutations_done (records is_function_expression env) l env)
    (renders_done (records is_function_expression env) l
    (mutations_done (records is_function_expression env) l env))

-- the range pass
abbrev pub range_pass : Bool → HirFunction → Environment → Result Ranged InferError
range_pass is_function_expression f env = do
  l ← recorded f
  Ok (ranged is_function_expression f env l)

-- What a call of the pass answers and leaves. A refusal leaves function and environment as they were. Memory may fail
-- at any time.
abbrev pub PassGives : Result Ranged InferError → HirFunction → Environment → Result (List AliasingEffect) InferError
    → HirFunction → Environment → Type 0
PassGives stated f env (Ok summary) new_f new_env = stated ≡ Ok (record { summary = summary; after = (new_f, new_env) })
PassGives stated f env (Err e) new_f new_env = is_memory e ≡ false → (stated ≡ Err e) × (new_f ≡ f) × (new_env ≡ env)
