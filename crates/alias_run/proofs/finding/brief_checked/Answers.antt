use Rattle.std.proofs.Common.{◌≡◌, subst}
use Rattle.std.specs.Prelude.{Ok}
use Rattle.alias_rules.specs.Functions.{rules_hold}
use Rattle.alias_run.specs.Findings.{IsBriefedAs}
use Rattle.alias_run.proofs.Briefs.{memory_briefed}
use Rattle.alias_run.proofs.Running.{of_ended, of_inferred}
use Rattle.alias_run.proofs.finding.brief_checked.Goals as goal

pub returns-in-Ok : goal.returns-in-Ok
returns-in-Ok c =
    let is = c.in-Ok.ensures.0 in
    let o = c.brief_inferred.result in
    let known = c.unit-unit.ensures in
    let rules = subst (λ z. rules_hold z ≡ Ok tt) known.unit known.checked in
    of_inferred (IsBriefedAs c.args.unit) (memory_briefed c.args.unit) c.args.unit c.in-Ok.inferred o.status o.answer
    (is.0, is.1) (c.brief_inferred.ensures c.args.unit c.requires rules)

pub returns-in-Err : goal.returns-in-Err
returns-in-Err c = of_ended (IsBriefedAs c.args.unit) c.args.unit c.in-Err.status c.ended.result c.ended.ensures
    c.in-Err.ensures
