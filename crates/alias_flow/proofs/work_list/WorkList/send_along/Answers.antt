use Rattle.std.proofs.Common.{◌-◌, ◌≤◌, length, take, refl, arith}
use Rattle.alias_lattice.specs.OutcomeLaws.{on_ok}
use Rattle.alias_flow.specs.WorkLists.{work_list_send, work_list_sends}
use Rattle.alias_flow.specs.WorkListViews.{work_list_of}
use Rattle.alias_flow.proofs.Along.{sent_along}
use Rattle.alias_flow.proofs.work_list.WorkList.send_along.Goals as goal

pub returns-clause-joined_input : goal.returns-clause-joined_input
returns-clause-joined_input g c =
    let l = g.S.Lattice in
    let x = c.args.state in
    let es = c.args.edges.now in
    let some : 1 ≤ length es = omega arith in
    let past : length (take (length es - 1) es) ≤ c.loop-to.to-index = omega arith in
    on_ok c.send_state.result c.send_state.ensures.joined_input
    (sent_along (work_list_send l.join l.below x) (work_list_sends l.join l.below x) (λ d. refl) (λ d to more. refl)
    es c.loop-to.to-index (work_list_of c.args.self.now) (work_list_of c.loop-to.self)
    (work_list_of c.send_state.new.self) some past c.loop-to.invariant.2)
