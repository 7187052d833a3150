use Rattle.std.proofs.Common.{◌-◌, ◌≤◌, length, take, refl, arith}
use Rattle.alias_lattice.specs.OutcomeLaws.{on_ok}
use Rattle.alias_flow.specs.Machine.{send, send_all}
use Rattle.alias_flow.proofs.Along.{sent_along}
use Rattle.alias_flow.proofs.forward.send_along.Goals as goal

pub returns : goal.returns
returns g c =
    let join = g.S.Lattice.join in
    let x = c.args.state in
    let es = c.args.edges.now in
    let some : 1 ≤ length es = omega arith in
    let past : length (take (length es - 1) es) ≤ c.loop-to.to-index = omega arith in
    on_ok c.send_state.result c.send_state.ensures
    (sent_along (send join x) (send_all join x) (λ d. refl) (λ d to more. refl) es c.loop-to.to-index
    c.args.waiting.now c.loop-to.waiting c.send_state.new.joined_input some past c.loop-to.invariant.1)
