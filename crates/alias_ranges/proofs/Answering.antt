-- What the pass answers, in the words of its clauses.
use Rattle.std.specs.Prelude.{◌≡◌, ℕ, Bool, true, List, [], Result, Ok, IsOkAnd, length, take}
use Rattle.std.proofs.Common.{ap, sym, subst, ◌∙◌, append-nil}
use Rattle.std.proofs.Math.Seq.{take-append_seam}
use Rattle.alias_hir.specs.declared.effect.AliasingEffect.{AliasingEffect}
use Rattle.alias_hir.specs.declared.env.Environment.{Environment}
use Rattle.alias_hir.specs.declared.env.Identifier.{Identifier}
use Rattle.alias_hir.specs.declared.error.InferError.{InferError}
use Rattle.alias_hir.specs.declared.hir.HirFunction.{HirFunction}
use Rattle.alias_hir.specs.declared.report.Report.{Report}
use Rattle.alias_fitting_laws.specs.bare.Bare.{but_place_effects}
use Rattle.alias_graph.specs.declared.recorded.listing.Listing.{Listing}
use Rattle.alias_graph.specs.recorded.Recording.{graph_listed}
use Rattle.alias_ranges.specs.laws.AnswerLaws.{pass_is}
use Rattle.alias_ranges.specs.laws.ReportLaws.{root_reports}
use Rattle.alias_range_pass.specs.Laws.{Causes, PassKeeps}
use Rattle.alias_range_pass.specs.Passes.{Ranged, range_pass}
use Rattle.alias_range_pass.specs.Refusals.{recorded}
use Rattle.alias_rules.specs.Fitting.{function_fits}
use Rattle.alias_ranges.specs.KeptLaws.{ranged_fits, silent_fits}
use Rattle.alias_ranges.specs.Ranges.{RangesHaveCauses}

-- ---- an answer with a summary

-- the function fits after the pass
pub answered_fits : (b : Bool) (f g : HirFunction) (env more : Environment) (summary : List AliasingEffect)
    → range_pass b f env ≡ Ok (record { summary = summary; after = (g, more) })
    → function_fits f env ≡ true → but_place_effects g ≡ but_place_effects f → PassKeeps env more → function_fits g more
    ≡ true
answered_fits b f g env more summary is h still kept =
    ranged_fits f g env more h still kept (root_reports b f env (record { summary = summary; after = (g, more) }) is h)

-- where the pass answers, what holds of whatever was recorded holds of what is recorded
of_recorded : (b : Bool) (f : HirFunction) (env : Environment) (r : Ranged) → range_pass b f env ≡ Ok r
    → (P : Listing → Type 0) → ((l : Listing) → recorded f ≡ Ok l → P l) → IsOkAnd (recorded f) P
of_recorded b f env r is P h =
    let p = pass_is b f env r is in
    subst (λ (q : Result Listing InferError). IsOkAnd q P) (sym p.1) (h p.0 p.1)

-- range ends have their causes
pub answered_causes : (b : Bool) (f : HirFunction) (env : Environment) (r : Ranged) (old new : List Identifier)
    → range_pass b f env ≡ Ok r
    → ((l : Listing) → recorded f ≡ Ok l → Causes (graph_listed l) l.mutations f.instructions old new)
    → RangesHaveCauses f old new
answered_causes b f env r old new is h =
    of_recorded b f env r is (λ l. Causes (graph_listed l) l.mutations f.instructions old new) h

-- ---- an answer without one, after which the reports that were recorded are taken back

module _ (env more : Environment) (kept : PassKeeps env more) (count : ℕ) (is_count : count ≡ length env.errors)
    (left : List Report) (is_left : left ≡ take count more.errors) where
  taken_back : left ≡ env.errors
  taken_back = is_left ∙ ap (λ n. take n more.errors) is_count ∙ ap (λ rs. take (length env.errors) rs) kept.errors.1
      ∙ take-append_seam env.errors kept.errors.0

  -- all that is kept still is
  pub refused_keeps : PassKeeps env (record more { errors = left })
  refused_keeps = record { rest = kept.rest; ends = kept.ends; errors = ([], taken_back ∙ sym (append-nil env.errors)) }

  -- the function fits
  pub refused_fits : (f g : HirFunction) → function_fits f env ≡ true → but_place_effects g ≡ but_place_effects f
      → function_fits g (record more { errors = left }) ≡ true
  refused_fits f g h still = silent_fits f g env (record more { errors = left }) h still refused_keeps taken_back
