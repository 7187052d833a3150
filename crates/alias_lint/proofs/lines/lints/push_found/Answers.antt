use Rattle.std.proofs.Common.{ap, ◌∙◌}
use Rattle.std.specs.Prelude.{Result, Ok, Err, OnOk}
use Rattle.alias_graph.specs.Events.{events_of}
use Rattle.alias_graph.specs.Graph.{graph_of}
use Rattle.alias_lint.proofs.lines.Parts.{part_within, found_done}
use Rattle.alias_lint.proofs.lines.lints.push_found.Goals as goal

pub push_mutations-requires-clause-within : goal.push_mutations-requires-clause-within
push_mutations-requires-clause-within c =
    part_within c.args.env.now _ c.in_ok-graph.graph c.cut_off.new.self c.args.listing.now c.requires.fits
    (c.in_ok-graph.ensures.graph ∙ ap (λ es. graph_of (events_of es)) c.as_slice.ensures) c.in_ok-cut_off.ensures.cut

at_ok : {X E A B : Type 0} (r : Result X E) → (A → B) → OnOk r A → OnOk r B
at_ok (Ok x) f h = f h
at_ok (Err e) f h = tt

pub returns-clause-lints : goal.returns-clause-lints
returns-clause-lints c =
    at_ok c.push_renders.result
    (found_done c.args.env.now c.push_mutations.new.env c.args.func.now _ c.in_ok-graph.graph c.cut_off.new.self
    c.push_mutations.new.graph c.args.listing.now c.as_slice-mutations.result.now c.as_slice-2.result.now
    c.args.lints.now c.push_mutations.new.lints c.push_renders.new.lints
    (c.in_ok-graph.ensures.graph ∙ ap (λ es. graph_of (events_of es)) c.as_slice.ensures) c.in_ok-cut_off.ensures.cut
    c.as_slice-mutations.ensures c.as_slice-2.ensures
    c.in_ok-push_mutations.ensures.graph c.in_ok-push_mutations.ensures.env c.in_ok-push_mutations.ensures.lints)
    c.push_renders.ensures.lints
