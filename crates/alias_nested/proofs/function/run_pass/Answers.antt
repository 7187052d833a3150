use Rattle.std.proofs.Common.{ap, Err}
use Rattle.alias_nested.proofs.Faulting.{fault_of}
use Rattle.alias_nested.proofs.function.run_pass.Goals as goal

pub returns-in-Err-clause-failed : goal.returns-in-Err-clause-failed
returns-in-Err-clause-failed g c = λ f. c.in-Err.ensures.failed (ap Err (c.stopped.ensures.fault f))

pub returns-in-Err-clause-names : goal.returns-in-Err-clause-names
returns-in-Err-clause-names g c = c.stopped.ensures.names

pub returns-in-Err-clause-fault : goal.returns-in-Err-clause-fault
returns-in-Err-clause-fault g c = c.stopped.ensures.named

pub returns-in-Err-clause-last : goal.returns-in-Err-clause-last
returns-in-Err-clause-last g c = fault_of (g.P.InnerPasses.failed_last c.called.new.passes) c.args.id c.args.pass
    c.called.new.func c.stopped.result c.stopped.ensures.named
    (λ f. c.in-Err.ensures.last (ap Err (c.stopped.ensures.fault f)))
