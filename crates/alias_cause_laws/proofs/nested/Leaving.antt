-- What the range pass leaves of a function that the inference takes, by its equation.
use Rattle.std.specs.Prelude.{◌≡◌, Bool, true, Result, Ok, IsOkAnd, refl}
use Rattle.std.proofs.Common.{sym, subst}
use Rattle.alias_graph.specs.recorded.Recording.{graph_listed}
use Rattle.alias_graph.specs.declared.recorded.listing.Listing.{Listing}
use Rattle.alias_ranges.proofs.heap.HeapLaws.{heap_is_covered}
use Rattle.alias_hir.specs.declared.env.Environment.{Environment}
use Rattle.alias_hir.specs.declared.error.InferError.{InferError}
use Rattle.alias_hir.specs.declared.hir.HirFunction.{HirFunction}
use Rattle.alias_range_pass.specs.Laws.{Causes}
use Rattle.alias_range_pass.specs.Passes.{records, Ranged, range_pass}
use Rattle.alias_range_pass.specs.Refusals.{recorded}
use Rattle.alias_range_pass.specs.summary.Laws.{Covers, SeesDefinite}
use Rattle.alias_range_pass.specs.summary.WalkLaws.{listing_sees}
use Rattle.alias_range_pass.specs.summary.Walking.{mutations_done}
use Rattle.alias_ranges.specs.Ranges.{MarksAreDefinite}
use Rattle.alias_rules.specs.Fitting.{function_fits}
use Rattle.alias_inferred_laws.proofs.inferred.Ranging.{pass_leaves, ranged_covers}
use Rattle.alias_cause_laws.proofs.causes.Walking.{flows_listed}
use Rattle.alias_cause_laws.specs.nested.Leaving.{LeavesRanges}

-- what holds of the listing holds of what is recorded
pub of_recorded : (f : HirFunction) (l : Listing) (P : Listing → Type 0) → recorded f ≡ Ok l → P l
    → IsOkAnd (recorded f) P
of_recorded f l P is h = subst (λ (q : Result Listing InferError). IsOkAnd q P) (sym is) h

-- what legal paths lead to with Definite is marked so after the walks of what is recorded
pub marked_definite : (b : Bool) (f : HirFunction) (env : Environment) (l : Listing) → recorded f ≡ Ok l
    → MarksAreDefinite b f env
marked_definite b f env l is =
    of_recorded f l (λ k. SeesDefinite (graph_listed k) k.mutations (mutations_done (records b env) k env).0) is
    (listing_sees (records b env) l env (graph_listed l) (mutations_done (records b env) l env).0 refl refl)

pub pass_ranges : (b : Bool) (f : HirFunction) (env : Environment) (r : Ranged) → function_fits f env ≡ true
    → range_pass b f env ≡ Ok r → LeavesRanges b f env r
pass_ranges b f env r fits h =
    let c = ranged_covers b f env r fits h in
    let left = pass_leaves b f env r h in
    record {
      cover = of_recorded f c.0 (λ l. Covers (graph_listed l) l.mutations r.after.1.identifiers) c.1 c.2;
      definite = marked_definite b f env c.0 c.1;
      heap = heap_is_covered f r.after.1.identifiers c.0 c.1 c.2;
      cause = of_recorded f left.listing (λ l.
          Causes (graph_listed l) l.mutations f.instructions env.identifiers r.after.1.identifiers) left.recorded
          left.causes;
      flows = flows_listed b f env r fits h;
    }
