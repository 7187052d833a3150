use Rattle.std.proofs.Common.{sym, subst}
use Rattle.alias_run.specs.Findings.{IsInferred}
use Rattle.alias_run.specs.declared.outcome.Outcome.{Outcome}
use Rattle.alias_run.proofs.Refusing.{inferred_ended}
use Rattle.alias_run.proofs.finding.infer_checked.Goals as goal

pub returns-in-Ok : goal.returns-in-Ok
returns-in-Ok c = subst (λ (o : Outcome). IsInferred c.args.unit o.status o.answer) (sym c.done.ensures)
    c.in-Ok.ensures.0

pub returns-in-Err : goal.returns-in-Err
returns-in-Err c = inferred_ended c.args.unit c.in-Err.status c.ended.result c.ended.ensures c.in-Err.ensures
