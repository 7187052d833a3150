use Rattle.std.proofs.Common.{◌≡◌, ◌+◌, ◌++◌, [], Some, length, ap, sym, ◌∙◌, subst, arith, append-nil}
use Rattle.alias_graph.specs.declared.types.Pending.{Pending}
use Rattle.alias_graph.specs.Waiting.{waiting, waiting_of, AllOld, Searched}
use Rattle.alias_graph.proofs.Waiting.{waiting_last, search_goes_on, search_finds}
use Rattle.alias_graph.proofs.Walking.{no_items}
use Rattle.alias_graph.proofs.search.next_new.Goals as goal

pub search-init : goal.search-init
search-init g c = ([], append-nil _, tt, omega arith, omega arith, omega arith)

pub search-preserved : goal.search-preserved
search-preserved g c =
    let w = waiting c.args.links.now c.args.nodes.now c.args.index in
    let rest : Pending = record c.in-Some.pending { left = c.search_pending-left.result.0 } in
    let part = waiting_of c.args.links.now c.args.nodes.now c.args.index c.in-Some.pending in
    let left = waiting_of c.args.links.now c.args.nodes.now c.args.index rest in
    let split = sym (waiting_last c.args.links.now c.args.nodes.now c.args.index c.pop.new.self.items c.in-Some.pending)
    ∙ ap w (sym c.in-Some.ensures.items) in
    let on = search_goes_on c.args.nodes.now c.args.seen.now (w c.pop.new.self.items) part c.search.invariant.0
    (w c.args.stack.now.items) left c.args.steps.now c.search.steps c.search_pending-left.new.steps
    (ap (λ z. z ++ c.search.invariant.0) split ∙ c.search.invariant.1) c.search.invariant.2 c.search.invariant.3
    (subst (Searched c.args.nodes.now c.args.seen.now part left c.search.steps c.search_pending-left.new.steps)
    c.in_default-found.is c.search_pending-left.ensures) in (
      part ++ c.search.invariant.0,
      on.0,
      on.1,
      on.2,
      omega (arith, c.search.invariant.4, c.in-Some.ensures.len),
      omega (arith, c.search.invariant.5, c.in-Some.ensures.capacity),
    )

pub returns-in-Some-found-clause-found : goal.returns-in-Some-found-clause-found
returns-in-Some-found-clause-found g c =
    let w = waiting c.args.links.now c.args.nodes.now c.args.index in
    let rest : Pending = record c.in-Some.pending { left = c.search_pending-left.result.0 } in
    let part = waiting_of c.args.links.now c.args.nodes.now c.args.index c.in-Some.pending in
    let left = waiting_of c.args.links.now c.args.nodes.now c.args.index rest in
    let split = sym (waiting_last c.args.links.now c.args.nodes.now c.args.index c.pop.new.self.items c.in-Some.pending)
    ∙ ap w (sym c.in-Some.ensures.items) in
    let put = sym (waiting_last c.args.links.now c.args.nodes.now c.args.index c.pop.new.self.items rest)
    ∙ ap w (sym c.put.ensures.items) in
    subst (λ z. Searched c.args.nodes.now c.args.seen.now (w c.args.stack.now.items) z c.args.steps.now
    c.search_pending-left.new.steps (Some c.in-Some-found.found)) put
    (search_finds c.args.nodes.now c.args.seen.now (w c.pop.new.self.items) part c.search.invariant.0
    (w c.args.stack.now.items) left c.args.steps.now c.search.steps c.search_pending-left.new.steps
    c.in-Some-found.found
    (ap (λ z. z ++ c.search.invariant.0) split ∙ c.search.invariant.1) c.search.invariant.2 c.search.invariant.3
    (subst (Searched c.args.nodes.now c.args.seen.now part left c.search.steps c.search_pending-left.new.steps)
    c.in-Some-found.is c.search_pending-left.ensures))

pub returns-clause-found : goal.returns-clause-found
returns-clause-found g c =
    let w = waiting c.args.links.now c.args.nodes.now c.args.index in
    let empty : c.search.stack.items ≡ [] =
    no_items c.search.stack.items (omega (arith, c.search.stack.ok.0, c.in_default.ensures.cases.0)) in
    let all = sym (ap (λ z. w z ++ c.search.invariant.0) empty) ∙ c.search.invariant.1 in (
      ap w (sym (append-nil c.pop.new.self.items) ∙ sym c.in_default.ensures.items ∙ empty),
      subst (AllOld c.args.nodes.now c.args.seen.now) all c.search.invariant.2,
      c.search.invariant.3 ∙ ap (λ z. c.args.steps.now + length z) all,
    )
