-- What the range pass leaves of a function and its environment, by its equation.
use Rattle.std.specs.Prelude.{◌≡◌, Bool, true, false, cond, List, [], ◌∷◌, Ok, length, refl}
use Rattle.std.proofs.Common.{inl, inr, ⊎_elim, ap, sym, ◌∙◌, subst, arith}
use Rattle.alias_hir.specs.ReportNumbers.{effect_reports}
use Rattle.alias_hir.specs.declared.env.Environment.{Environment}
use Rattle.alias_hir.specs.declared.env.Identifier.{Identifier}
use Rattle.alias_hir.specs.declared.hir.HirFunction.{HirFunction}
use Rattle.alias_graph.specs.Nodes.{Nodes}
use Rattle.alias_graph.specs.Renders.{rendered, render_reports}
use Rattle.alias_graph.specs.declared.recorded.listing.Listing.{Listing}
use Rattle.alias_graph.specs.declared.recorded.listing.RecordedMutation.{RecordedMutation}
use Rattle.alias_graph.specs.declared.recorded.listing.RecordedRender.{RecordedRender}
use Rattle.alias_graph.specs.recorded.BlockListings.{listed}
use Rattle.alias_graph.proofs.FitLaws.{listed_fits}
use Rattle.alias_graph.specs.recorded.Recording.{graph_listed}
use Rattle.alias_inferred_laws.proofs.lints.Placing.{listed_alike}
use Rattle.alias_answer_laws.proofs.order.Staying.{placed_still}
use Rattle.alias_ranges.specs.laws.AnswerLaws.{pass_is, recorded_is_listed}
use Rattle.alias_ranges.specs.laws.PlacedLaws.{function_keeps}
use Rattle.alias_range_pass.proofs.Keeps.{pass_keeps, pass_stays}
use Rattle.alias_range_pass.specs.CheckLaws.{checked_fits}
use Rattle.alias_range_pass.specs.Laws.{Causes, PassKeeps, but_places}
use Rattle.alias_range_pass.specs.Passes.{records, Ranged, ranged, range_pass}
use Rattle.alias_range_pass.specs.Refusals.{recorded}
use Rattle.alias_range_pass.specs.places.Blocks.{Placed, function_placed}
use Rattle.alias_range_pass.specs.places.CauseLaws.{function_causes}
use Rattle.alias_range_pass.specs.places.Causes.{EndsCaused}
use Rattle.alias_range_pass.specs.summary.FlowLaws.{ends_with_flows}
use Rattle.alias_range_pass.specs.summary.Keeping.{WalksKeep}
use Rattle.alias_range_pass.specs.summary.KeepingLaws.{keeps_same, keeps_trans, walk_keeps, reports_keep}
use Rattle.alias_range_pass.specs.summary.Laws.{Covers, MutationCause, MutationCauses, EndsWithFlows}
use Rattle.alias_range_pass.specs.summary.MarkedPlaces.{function_captured}
use Rattle.alias_range_pass.specs.summary.Summaries.{tracked, summarized}
use Rattle.alias_range_pass.specs.summary.WalkLaws.{listing_covers, listing_causes, done_links, done_before}
use Rattle.alias_range_pass.specs.summary.Walking.{start_origin, expanded, mutation_start, Walked, after_mutation}
use Rattle.alias_range_pass.specs.summary.Walking.{after_mutations, after_render, after_renders, env_reported}
use Rattle.alias_range_pass.specs.summary.Walking.{mutations_done, renders_done}
use Rattle.alias_rules.specs.Fitting.{function_fits}

-- ---- the walks

walked_keep : (c : Bool) (ms : List RecordedMutation) (w : Walked) → WalksKeep w.1 (after_mutations c ms w).1
walked_keep c [] w = keeps_same w.1
walked_keep c (m ∷ ms) w =
    let s = mutation_start m in
    keeps_trans w.1 (after_mutation c w m).1 (after_mutations c (m ∷ ms) w).1
    (walk_keeps c s.index (start_origin s) s.end w.0 (expanded w.0 s) w.1 (after_mutation c w m).1 refl)
    (walked_keep c ms (after_mutation c w m))

rendered_keep : (g : Nodes) (rs : List RecordedRender) (env : Environment) → WalksKeep env (after_renders g rs env)
rendered_keep g [] env = keeps_same env
rendered_keep g (r ∷ rs) env =
    keeps_trans env (after_render g env r) (after_renders g (r ∷ rs) env)
    (reports_keep env (after_render g env r) (render_reports env g (rendered g r.index r.place.identifier).done)
    refl) (rendered_keep g rs (after_render g env r))

renders_keep : (c : Bool) (l : Listing) (w : Walked) → WalksKeep w.1 (renders_done c l w)
renders_keep true l w = rendered_keep w.0 l.renders w.1
renders_keep false l w = keeps_same w.1

-- the walks and renders of a listing change range ends and reports alone
walks_keep : (c : Bool) (l : Listing) (env : Environment) → WalksKeep env (renders_done c l (mutations_done c l env))
walks_keep c l env =
    let w : Walked = mutations_done c l env in
    let mid : Environment = env_reported c l env in
    keeps_trans env w.1 (renders_done c l w)
    (keeps_trans env mid w.1 (reports_keep env mid (cond c (effect_reports env.interned l.summary) []) refl)
    (walked_keep c l.mutations (graph_listed l, mid)))
    (renders_keep c l w)

-- ---- the pass

causes_both : (g : Nodes) (ms : List RecordedMutation) (f : HirFunction) (old walked new : List Identifier)
    → MutationCauses g ms old walked → EndsCaused f.instructions walked new → Causes g ms f.instructions old new
causes_both g ms f old walked new first last k =
    ⊎_elim
    (λ same. ⊎_elim (λ before. inl (same ∙ before)) (λ cause. inr (inl (subst (MutationCause g ms k) (sym same) cause)))
    (first k))
    (λ cause. inr (inr cause))
    (last k)

-- what the pass leaves, where it answers
pub record PassLeaves (is_function_expression : Bool) (f : HirFunction) (env : Environment) (r : Ranged) : Type 0 where
  pub listing : Listing
  pub recorded : recorded f ≡ Ok listing
  pub lists : listed f ≡ Ok listing
  pub still : but_places r.after.0 ≡ but_places f
  pub kept : PassKeeps env r.after.1
  pub errors : r.after.1.errors ≡ (let c = records is_function_expression env in
      (renders_done c listing (mutations_done c listing env)).errors)
  pub causes : Causes (graph_listed listing) listing.mutations f.instructions env.identifiers r.after.1.identifiers

pub pass_leaves : (b : Bool) (f : HirFunction) (env : Environment) (r : Ranged) → range_pass b f env ≡ Ok r
    → PassLeaves b f env r
pass_leaves b f env r h =
    let p = pass_is b f env r h in
    let l : Listing = p.0 in
    let c : Bool = records b env in
    let w : Walked = mutations_done c l env in
    let walked : Environment = renders_done c l w in
    let begun : Placed = (function_captured w.0 f, walked) in
    let after : Placed = function_placed b begun in
    let k = function_keeps b begun in
    let made : PassLeaves b f env (ranged b f env l) = record {
      listing = l;
      recorded = p.1;
      lists = recorded_is_listed f l p.1;
      still = pass_stays w.0 f begun.0 after.0 refl (placed_still b begun);
      kept = pass_keeps env walked walked after.1 (walks_keep c l env) refl k;
      errors = ap (λ (e : Environment). e.errors) k.rest;
      causes = causes_both (graph_listed l) l.mutations f env.identifiers walked.identifiers after.1.identifiers
          (listing_causes c l env (graph_listed l) walked refl refl) (function_causes b begun);
    } in
    subst (PassLeaves b f env) p.2 made

-- the function still records what it did
pub lists_still : (b : Bool) (f : HirFunction) (env : Environment) (r : Ranged) (p : PassLeaves b f env r)
    → listed r.after.0 ≡ Ok p.listing
lists_still b f env r p = listed_alike f r.after.0 p.still ∙ p.lists

-- of a function that fits: each range ends past the recorded mutations that legal paths join to it
pub ranged_covers : (b : Bool) (f : HirFunction) (env : Environment) (r : Ranged) → function_fits f env ≡ true
    → range_pass b f env ≡ Ok r → (l : Listing) × (recorded f ≡ Ok l)
    × Covers (graph_listed l) l.mutations r.after.1.identifiers
ranged_covers b f env r fits h =
    let p = pass_is b f env r h in
    let l : Listing = p.0 in
    let c : Bool = records b env in
    let walked : Environment = renders_done c l (mutations_done c l env) in
    let begun : Placed = (function_captured (mutations_done c l env).0 f, walked) in
    let k = function_keeps b begun in
    let covers : Covers (graph_listed l) l.mutations walked.identifiers
    = listing_covers c l env (graph_listed l) walked
    (listed_fits (length env.identifiers) f l (checked_fits f env fits) (recorded_is_listed f l p.1)) refl refl in (
      l,
      p.1,
      subst (λ (z : Ranged). Covers (graph_listed l) l.mutations z.after.1.identifiers) p.2
          (λ m i e legal. let low = covers m i e legal in let up = k.ends e.id.0 in omega arith),
    )

-- and the summary ends with the flows of legal paths
pub ranged_flows : (b : Bool) (f : HirFunction) (env : Environment) (r : Ranged) → function_fits f env ≡ true
    → range_pass b f env ≡ Ok r → (l : Listing) × (recorded f ≡ Ok l)
    × EndsWithFlows (graph_listed l) l.next f.returns (tracked f) r.summary
ranged_flows b f env r fits h =
    let p = pass_is b f env r h in
    let l : Listing = p.0 in
    let c : Bool = records b env in
    let w : Walked = mutations_done c l env in
    let fit = listed_fits (length env.identifiers) f l (checked_fits f env fits) (recorded_is_listed f l p.1) in (
      l,
      p.1,
      subst (λ (z : Ranged). EndsWithFlows (graph_listed l) l.next f.returns (tracked f) z.summary) p.2
          (ends_with_flows (graph_listed l) w.0 l.next f (renders_done c l w) l.summary
          (summarized w.0 l.next f (renders_done c l w) l.summary) refl (done_links c l env)
          (done_before c l env fit.before)),
    )
