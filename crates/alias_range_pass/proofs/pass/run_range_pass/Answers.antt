use Rattle.std.proofs.Common.{◌+◌, ◌≤◌, List, length, subst, sym, ◌∙◌}
use Rattle.alias_hir.specs.declared.place.Place.{Place}
use Rattle.alias_graph.specs.declared.recorded.listing.Listing.{Listing}
use Rattle.alias_graph.proofs.FitLaws.{listed_fits}
use Rattle.alias_graph.specs.recorded.Recording.{graph_listed}
use Rattle.alias_range_pass.specs.summary.Laws.{Covers, SeesDefinite, EndsWithFlows}
use Rattle.alias_range_pass.specs.summary.Summaries.{tracked}
use Rattle.alias_range_pass.specs.summary.Walking.{mutations_done}
use Rattle.alias_range_pass.specs.Laws.{Causes}
use Rattle.alias_range_pass.specs.Passes.{records}
use Rattle.alias_range_pass.proofs.Refused.{recorded_is, recorded_once, orders_fit}
use Rattle.alias_range_pass.proofs.Ranging.{refused_pass}
use Rattle.alias_range_pass.proofs.pass.run_range_pass.Goals as goal

pub range_recorded-requires-clause-fits : goal.range_recorded-requires-clause-fits
range_recorded-requires-clause-fits c =
    let is = recorded_is c.args.func.now c.in_ok-listing.listing c.in_ok-listing.ensures in
    listed_fits (length c.args.env.now.identifiers) c.args.func.now c.in_ok-listing.listing c.requires is.listing

pub range_recorded-requires-clause-orders : goal.range_recorded-requires-clause-orders
range_recorded-requires-clause-orders c =
    orders_fit (length c.args.env.now.identifiers) c.args.func.now.instructions c.requires.instructions

pub returns-clause-cover : goal.returns-clause-cover
returns-clause-cover c = λ l h.
    let P : Listing → Type 0 = λ z. Covers (graph_listed z) z.mutations c.range_recorded.new.env.identifiers in
    subst P (recorded_once c.args.func.now c.in_ok-listing.listing l c.in_ok-listing.ensures h)
    c.in_ok-summary.ensures.cover

pub returns-clause-definite : goal.returns-clause-definite
returns-clause-definite c = λ l h.
    let P : Listing → Type 0 = λ z. SeesDefinite (graph_listed z) z.mutations
    (mutations_done (records c.args.is_function_expression c.args.env.now) z c.args.env.now).0 in
    subst P (recorded_once c.args.func.now c.in_ok-listing.listing l c.in_ok-listing.ensures h)
    c.in_ok-summary.ensures.definite

pub returns-clause-cause : goal.returns-clause-cause
returns-clause-cause c = λ l h.
    let P : Listing → Type 0 = λ z. Causes (graph_listed z) z.mutations c.args.func.now.instructions
    c.args.env.now.identifiers c.range_recorded.new.env.identifiers in
    subst P (recorded_once c.args.func.now c.in_ok-listing.listing l c.in_ok-listing.ensures h)
    c.in_ok-summary.ensures.cause

pub returns-clause-flows : goal.returns-clause-flows
returns-clause-flows c = λ l h.
    let P : Listing → Type 0 = λ z. EndsWithFlows (graph_listed z) z.next c.args.func.now.returns
    (tracked c.args.func.now) c.in_ok-summary.summary in
    subst P (recorded_once c.args.func.now c.in_ok-listing.listing l c.in_ok-listing.ensures h)
    c.in_ok-summary.ensures.flows

pub range_recorded-requires-clause-left : goal.range_recorded-requires-clause-left
range_recorded-requires-clause-left c =
    let is = recorded_is c.args.func.now c.in_ok-listing.listing c.in_ok-listing.ensures in
    let P : List Place → Type 0 = λ z. c.in_ok-listing.listing.next + length z ≤ 4294967295 in
    subst P (sym (c.as_slice.ensures ∙ c.in_ok-places.ensures)) is.left

pub returns-in_err-listing-clause-pass : goal.returns-in_err-listing-clause-pass
returns-in_err-listing-clause-pass c =
    refused_pass c.args.is_function_expression c.args.func.now c.args.env.now c.from_residual-in_err-listing.result _
    c.in_err-listing.ensures c.from_residual-in_err-listing.ensures.1
