use Rattle.alias_run.proofs.Accepting.{check_rejected}
use Rattle.alias_run.proofs.finding.accept_certificate.Goals as goal

pub returns-in-Err : goal.returns-in-Err
returns-in-Err c =
    let rules = c.unit-unit.ensures in
    check_rejected c.args.certificate.now c.args.unit c.unit-unit.result.now c.in-Err.fault _ c.ended.result
    c.ended.ensures c.from.ensures rules.unit rules.checked c.in-Err.ensures
