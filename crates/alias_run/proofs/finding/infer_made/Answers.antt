use Rattle.std.proofs.Common.{subst, []}
use Rattle.alias_made.specs.Units.{made_unit}
use Rattle.alias_made_result_laws.specs.counts.MadeCounts.{made_is_inferred}
use Rattle.alias_made.specs.laws.MadeLaws.{made_unit_keeps_rules}
use Rattle.alias_run.specs.Findings.{IsChecked}
use Rattle.alias_run.specs.declared.query.Query.TheVariants.{Inference}
use Rattle.alias_run.proofs.Refusing.{inferred_ends}
use Rattle.alias_run.proofs.Running.{checked_fit, ran_out_fit}
use Rattle.alias_run.proofs.finding.infer_made.Goals as goal

pub returns-in-Ok : goal.returns-in-Ok
returns-in-Ok c =
    let o = c.judge_unit.result in
    checked_fit [] (made_unit c.args.seed c.args.size) o.status o.answer
    (made_unit_keeps_rules c.args.seed c.args.size c.requires.some c.requires.limit)
    (inferred_ends (made_unit c.args.seed c.args.size)
    (made_is_inferred c.args.seed c.args.size c.requires.limit c.requires.some))
    (subst (λ u. IsChecked Inference [] u o.status o.answer) c.in-Ok.ensures c.judge_unit.ensures)

pub returns-in-Err : goal.returns-in-Err
returns-in-Err c = ran_out_fit (made_unit c.args.seed c.args.size) c.ended.result c.ended.ensures
    (made_unit_keeps_rules c.args.seed c.args.size c.requires.some c.requires.limit)
