use Rattle.std.proofs.Common.{◌≡◌, ℕ, List, length, map, reverse, ap, sym, subst}
use Rattle.alias_hir.specs.declared.env.Environment.{Environment}
use Rattle.alias_hir.specs.declared.env.Identifier.{Identifier}
use Rattle.alias_graph.specs.Nodes.{Nodes, Within}
use Rattle.alias_graph.specs.Raising.{Raised}
use Rattle.alias_graph.specs.declared.recorded.listing.RecordedMutation.{RecordedMutation}
use Rattle.alias_graph.proofs.FitLaws.{graph_within}
use Rattle.alias_range_pass.specs.summary.Sweeping.{range_walk}
use Rattle.alias_range_pass.specs.summary.SweepLaws.{step_part, step_env, step_within}
use Rattle.alias_range_pass.proofs.summary.walking.walk_all.Goals as goal

pub raise_ranges-requires-clause-within : goal.raise_ranges-requires-clause-within
raise_ranges-requires-clause-within c =
    let P : ℕ → Type 0 = λ n. Within n c.args.graph.now in
    let Q : Nodes → Type 0 = λ z. Within (length c.args.env.now.identifiers) z in
    subst P (sym (ap (λ (z : Environment). length z.identifiers) c.in_ok-report_effects.ensures.ok))
    (subst Q (sym c.requires.graph) (graph_within (length c.args.env.now.identifiers) c.args.listing.now.events
    c.requires.fits.events))

raised_of : (g : Nodes) (ms ns : List RecordedMutation) (old new : List Identifier) → ms ≡ ns
    → Raised g (map range_walk (reverse ms)) old new → Raised g (map range_walk (reverse ns)) old new
raised_of g ms ns old new is h = subst (λ z. Raised g (map range_walk (reverse z)) old new) is h

pub walk_and_render-requires : goal.walk_and_render-requires
walk_and_render-requires c =
    step_within c.args.should_record_errors c.args.listing.now c.args.env.now c.args.ids.now c.requires.fits
    c.args.graph.now c.raise_ranges.new.graph c.cut_off.new.self c.report_effects.new.env c.raise_ranges.new.env
    c.requires.graph c.in_ok-report_effects.ensures.ok
    (raised_of c.args.graph.now c.as_slice.result.now c.args.listing.now.mutations
    c.report_effects.new.env.identifiers c.raise_ranges.new.env.identifiers c.as_slice.ensures
    c.in_ok-raise_ranges.ensures.raised) c.raise_ranges.ensures.env c.raise_ranges.ensures.graph
    c.in_ok-cut_off.ensures.cut

pub returns-clause-graph : goal.returns-clause-graph
returns-clause-graph c =
    step_part c.args.should_record_errors c.args.listing.now c.args.env.now c.args.ids.now c.requires.fits
    c.args.graph.now c.raise_ranges.new.graph c.cut_off.new.self c.report_effects.new.env c.raise_ranges.new.env
    c.requires.graph c.in_ok-report_effects.ensures.ok
    (raised_of c.args.graph.now c.as_slice.result.now c.args.listing.now.mutations
    c.report_effects.new.env.identifiers c.raise_ranges.new.env.identifiers c.as_slice.ensures
    c.in_ok-raise_ranges.ensures.raised) c.raise_ranges.ensures.env c.raise_ranges.ensures.graph
    c.in_ok-cut_off.ensures.cut
    c.walk_and_render.new.graph c.in_ok-walk_and_render.ensures.graph

pub returns-clause-env : goal.returns-clause-env
returns-clause-env c =
    step_env c.args.should_record_errors c.args.listing.now c.args.env.now c.args.ids.now c.requires.fits
    c.args.graph.now c.raise_ranges.new.graph c.cut_off.new.self c.report_effects.new.env c.raise_ranges.new.env
    c.requires.graph c.in_ok-report_effects.ensures.ok
    (raised_of c.args.graph.now c.as_slice.result.now c.args.listing.now.mutations
    c.report_effects.new.env.identifiers c.raise_ranges.new.env.identifiers c.as_slice.ensures
    c.in_ok-raise_ranges.ensures.raised) c.raise_ranges.ensures.env c.raise_ranges.ensures.graph
    c.in_ok-cut_off.ensures.cut
    c.walk_and_render.new.env c.in_ok-walk_and_render.ensures.env
