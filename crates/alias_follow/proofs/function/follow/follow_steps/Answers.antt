use Rattle.std.proofs.Common.{◌≡◌, Err, refl, ap, ◌∙◌, rules}
use Rattle.alias_lattice.specs.States.{empty_state, state_join, state_below}
use Rattle.alias_flow.specs.Runs.{solver_state}
use Rattle.alias_step.specs.block.Contexts.{held}
use Rattle.alias_effects.specs.Numbered.{numbered}
use Rattle.alias_certificate.specs.declared.fault.CheckFault.TheVariants as fault
use Rattle.alias_follow.specs.declared.lines.entering.Unfollowed.TheVariants as unfollowed
use Rattle.alias_follow.specs.function.Faults.{faulted}
use Rattle.alias_follow.specs.function.Givens.{lacking}
use Rattle.alias_follow.specs.lines.Entering.{entering_of}
use Rattle.alias_passage.specs.Passes.{flow_passed}
use Rattle.alias_follow.proofs.function.Answering.{passes_memory, begun_arriving, begun_entries, pass_comes, pass_finds}
use Rattle.alias_follow.proofs.function.follow.follow_steps.Goals as goal

pub pass_all-requires : goal.pass_all-requires
pass_all-requires c =
    let r = numbered (held c.args.flow.now.context) in
    let p = c.in_ok-passage.passage in
    record {
      marks = c.requires;
      arriving = begun_arriving r p c.in_ok-passage.ensures;
      entries = begun_entries r p c.in_ok-passage.ensures;
    }

pub returns-in_err-passage-clause-steps : goal.returns-in_err-passage-clause-steps
returns-in_err-passage-clause-steps c =
    let flow = c.args.flow.now in
    let lines = c.args.lines.now in
    let e = c.in_err-passage.field-0.0 in
    let same : c.from_residual.result ≡ Err (fault.Memory e) = search rules in
    passes_memory flow.tables flow.recorded.items
    (faulted c.args.function c.args.env.now c.args.func.now.body.blocks
    (flow_passed state_join state_below empty_state (numbered (held flow.context))
    (entering_of lines.blocks) unfollowed.State
    (lacking lines.limit) c.args.marks.now flow.tables flow.recorded.items)) c.from_residual.result e same

pub returns-in-Ok-clause-steps : goal.returns-in-Ok-clause-steps
returns-in-Ok-clause-steps c =
    let flow = c.args.flow.now in
    let now = c.pass_all.new.flow in
    let lines = c.args.lines.now in
    pass_comes (numbered (held flow.context)) c.in_ok-passage.passage c.in_ok-passage.ensures
    (entering_of lines.blocks) lines.limit c.args.marks.now
    flow.tables flow.recorded.items c.empty-empty.result c.empty-empty.ensures c.args.function c.args.env.now
    c.args.func.now.body.blocks (solver_state c.pass_all.new.passage now.tables now.recorded.items)
    (c.in-Ok.ensures.passes (lacking lines.limit) (λ _. refl))

pub returns-in-Err-clause-steps : goal.returns-in-Err-clause-steps
returns-in-Err-clause-steps c =
    let flow = c.args.flow.now in
    let now = c.pass_all.new.flow in
    let lines = c.args.lines.now in
    pass_finds (numbered (held flow.context)) c.in_ok-passage.passage c.in_ok-passage.ensures
    (entering_of lines.blocks) lines.limit c.args.marks.now
    flow.tables flow.recorded.items c.empty-empty.result c.empty-empty.ensures c.args.function c.args.env.now
    c.args.func.now.body.blocks c.in-Err.fault c.fault_of.result
    (solver_state c.pass_all.new.passage now.tables now.recorded.items)
    (c.in-Err.ensures.passes (lacking lines.limit) (λ _. refl)) c.fault_of.ensures

pub returns-in-Ok-clause-func : goal.returns-in-Ok-clause-func
returns-in-Ok-clause-func c = ap (λ p. p.1) c.in-Ok.ensures.borrows

pub returns-in-Err-clause-func : goal.returns-in-Err-clause-func
returns-in-Err-clause-func c = ap (λ p. p.1) c.in-Err.ensures.borrows

pub returns-in-Ok-clause-entries : goal.returns-in-Ok-clause-entries
returns-in-Ok-clause-entries c = c.in-Ok.ensures.entries
    ∙ begun_entries (numbered (held c.args.flow.now.context)) c.in_ok-passage.passage c.in_ok-passage.ensures
