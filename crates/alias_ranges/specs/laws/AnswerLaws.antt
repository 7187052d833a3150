-- What the range pass goes by, where it answers.
use Rattle.std.proofs.Common.{◌≡◌, Bool, length, ap, ◌∙◌}
use Rattle.std.specs.Prelude.{Result, Ok, Err}
use Rattle.alias_base.specs.Answer.{◌>>=◌}
use Rattle.alias_hir.specs.declared.env.Environment.{Environment}
use Rattle.alias_hir.specs.declared.error.HirError.{HirError}
use Rattle.alias_hir.specs.declared.error.InferError.{InferError}
use Rattle.alias_hir.specs.declared.hir.HirFunction.{HirFunction}
use Rattle.alias_graph.specs.declared.recorded.listing.Listing.{Listing}
use Rattle.alias_graph.specs.recorded.BlockListings.{listed}
use Rattle.alias_graph.proofs.FitLaws.{went_on}
use Rattle.alias_range_pass.specs.summary.Summaries.{tracked}
use Rattle.alias_range_pass.specs.Refusals.{unreplaced, none_unreplaced, listing_or, positions_left, recorded}
use Rattle.alias_range_pass.specs.Passes.{Ranged, ranged, range_pass}

listing_is : (r : Result Listing HirError) (l : Listing) → listing_or r ≡ Ok l → r ≡ Ok l
listing_is (Ok m) l h = let e : m ≡ l = cc in ap Ok e
listing_is (Err e) l h = cc

-- what is recorded is what the function's effects record
pub recorded_is_listed : (f : HirFunction) (l : Listing) → recorded f ≡ Ok l → listed f ≡ Ok l
recorded_is_listed f l h =
    let rest : Listing → Result Listing InferError = λ m. positions_left m.next (length (tracked f))
    >>= (λ left. Ok m) in
    let u = went_on (none_unreplaced (unreplaced f)) (λ replaced. listing_or (listed f) >>= rest) l h in
    let v = went_on (listing_or (listed f)) rest l u.2 in
    let w = went_on (positions_left v.0.next (length (tracked f))) (λ left. Ok v.0) l v.2 in
    let e : v.0 ≡ l = cc in
    listing_is (listed f) v.0 v.1 ∙ ap Ok e

-- where the pass answers, this was recorded, and what it answers and leaves is by that
pub pass_is : (is_function_expression : Bool) (f : HirFunction) (env : Environment) (r : Ranged)
    → range_pass is_function_expression f env ≡ Ok r
    → (l : Listing) × (recorded f ≡ Ok l) × (ranged is_function_expression f env l ≡ r)
pass_is b f env r h =
    let go : Listing → Result Ranged InferError = λ l. Ok (ranged b f env l) in
    let w = went_on (recorded f) go r h in
    let e : ranged b f env w.0 ≡ r = cc in
    (w.0, w.1, e)
