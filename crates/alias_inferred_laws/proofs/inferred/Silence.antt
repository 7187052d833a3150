-- The analysis of nested functions records no report.
use Rattle.std.specs.Prelude.{◌≡◌, true, List, [], ◌∷◌, ◌++◌, Option, Some, None, Result, Ok, slice_get, refl}
use Rattle.std.proofs.Common.{zero, suc, ap, sym, ◌∙◌}
use Rattle.std.specs.Prelude.{ℕ}
use Rattle.alias_base.specs.declared.ids.FunctionId.{FunctionId}
use Rattle.alias_hir.specs.Tables.{with_identifier}
use Rattle.alias_hir.specs.declared.env.Environment.{Environment}
use Rattle.alias_hir.specs.declared.error.InferError.{InferError}
use Rattle.alias_hir.specs.declared.hir.HirFunction.{HirFunction}
use Rattle.alias_hir.specs.declared.report.Report.{Report}
use Rattle.alias_effects.specs.Inference.{pass_end, end_tables, env_after}
use Rattle.alias_effects.specs.Recording.{with_effects_of}
use Rattle.alias_effects.specs.declared.output.PassEnd.{PassEnd}
use Rattle.alias_ranges.specs.laws.ReportLaws.{expression_reports}
use Rattle.alias_range_pass.specs.Passes.{Ranged, range_pass}
use Rattle.alias_tables.specs.declared.temporaries.Temporary.{Temporary}
use Rattle.alias_tables.specs.write_back.WriteBack.{with_identifiers}
use Rattle.alias_nesting_laws.specs.Slots.{with_function}
use Rattle.alias_nested.specs.Analysis.{naming, numbered, Analysis, analysis, each, effects_analysed, completed}
use Rattle.alias_nested.specs.Analysis.{completed_with, function_analysed, taken_analysed, put_back, found_analysed}
use Rattle.alias_nested.specs.Analysis.{slot_analysed, analysed}
use Rattle.alias_nested.specs.Created.{created_functions}
use Rattle.alias_nested.specs.Annotating.{annotated}
use Rattle.alias_nested.specs.Slots.{emptied}
use Rattle.alias_answer_laws.proofs.order.Ordering.{went, naming_ok, effects_made}

abbrev errors_of : Environment → List Report
errors_of e = e.errors

identified : (ts : List Temporary) (env : Environment) → (with_identifiers ts env).errors ≡ env.errors
identified [] env = refl
identified (t ∷ ts) env = identified ts (with_identifier t.place.span env)

-- nor does an effects pass
pub effects_silent : (env : Environment) (e : PassEnd) → (env_after env e).errors ≡ env.errors
effects_silent env e = identified (end_tables e).temporaries env

-- a function and an analysis
abbrev Taken : Type 0
Taken = HirFunction × Analysis

function_silent : (id : FunctionId) (f : HirFunction) (a : Analysis) (s : Taken) → function_analysed id f a ≡ Ok s
    → s.1.env.errors ≡ a.env.errors
function_silent id f a s h =
    let w = went (effects_analysed id f a) (completed_with id) s h in
    let p : Taken = w.0 in
    let x = went (naming id (pass_end a.env f true)) (λ e. Ok (effects_made id f a e)) p w.1 in
    let made : effects_made id f a x.0 ≡ p = cc in
    let first : p.1.env.errors ≡ a.env.errors = ap (λ (z : Taken). z.1.env.errors) (sym made)
    ∙ effects_silent a.env x.0 in
    let v = went (completed id p.0 p.1.env) (λ (c : HirFunction × Environment). Ok (c.0, analysis c.1 p.1.functions)) s
    w.2 in
    let c : HirFunction × Environment = v.0 in
    let y = went (naming id (range_pass true p.0 p.1.env)) (λ (r : Ranged). Ok (annotated r.summary r.after)) c v.1 in
    let r : Ranged = y.0 in
    let second : r.after.1.errors ≡ p.1.env.errors =
    expression_reports p.0 p.1.env r (naming_ok id (range_pass true p.0 p.1.env) r y.1) in
    let set : annotated r.summary r.after ≡ c = cc in
    let is : ◌≡◌ {A = Taken} (c.0, analysis c.1 p.1.functions) s = cc in
    ap (λ (z : Taken). z.1.env.errors) (sym is) ∙ ap (λ (z : HirFunction × Environment). z.1.errors) (sym set) ∙ second
    ∙ first

-- reports stay
abbrev IsSilent : (HirFunction → Analysis → Result Analysis InferError) → Type 0
IsSilent below = (f : HirFunction) (a b : Analysis) → below f a ≡ Ok b → b.env.errors ≡ a.env.errors

module _ (below : HirFunction → Analysis → Result Analysis InferError) (silent : IsSilent below) where
  found_silent : (id : FunctionId) (a b : Analysis) (o : Option HirFunction) → found_analysed below id a o ≡ Ok b
      → b.env.errors ≡ a.env.errors
  found_silent id a b None h = let is : a ≡ b = cc in ap (λ (z : Analysis). z.env.errors) (sym is)
  found_silent id a b (Some f) h =
      let out : Analysis = record a { env = with_function id (emptied f.returns) a.env } in
      let w = went (taken_analysed below id f out) (λ (s : Taken). Ok (put_back id s)) b h in
      let v = went (below f out) (function_analysed id f) w.0 w.1 in
      let is : put_back id w.0 ≡ b = cc in
      ap (λ (z : Analysis). z.env.errors) (sym is) ∙ function_silent id f v.0 w.0 v.2 ∙ silent f out v.0 v.1

  each_silent : (ids : List FunctionId) (a b : Analysis) → each (slot_analysed below) ids a ≡ Ok b → b.env.errors
      ≡ a.env.errors
  each_silent [] a b h = let is : a ≡ b = cc in ap (λ (z : Analysis). z.env.errors) (sym is)
  each_silent (id ∷ ids) a b h =
      let w = went (slot_analysed below id a) (each (slot_analysed below) ids) b h in
      each_silent ids w.0 b w.2 ∙ found_silent id a w.0 (slice_get a.env.functions id.0) w.1

-- the analysis of the functions on n levels leaves reports as they were
pub analysed_silent : (n : ℕ) → IsSilent (analysed n)
unfolding analysed
analysed_silent zero f a b h = let is : a ≡ b = cc in ap (λ (z : Analysis). z.env.errors) (sym is)
analysed_silent (suc n) f a b h = each_silent (analysed n) (analysed_silent n) (created_functions f) a b h
