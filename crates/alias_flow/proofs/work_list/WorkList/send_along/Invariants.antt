use Rattle.std.proofs.Common.{◌≡◌, vec_len, drop}
use Rattle.alias_flow.specs.WorkLists.{work_list_sends}
use Rattle.alias_flow.specs.WorkListViews.{work_list_of}
use Rattle.alias_flow.proofs.work_list.WorkList.send_along.Given as goal

abbrev pub invariant-loop-to : goal.invariant-loop-to
invariant-loop-to g l =
    let lattice = g.S.Lattice in
    (vec_len l.self.joined_input ≡ vec_len l.initial.self.joined_input)
    × (vec_len l.self.dirty ≡ vec_len l.initial.self.dirty)
    × (work_list_sends lattice.join lattice.below l.state (work_list_of l.self) (drop l.to-index l.before)
    ≡ work_list_sends lattice.join lattice.below l.state (work_list_of l.initial.self) l.before)
