use Rattle.alias_run.proofs.Running.{accepted_of}
use Rattle.alias_run.proofs.finding.accept_checked.Goals as goal

pub returns-in-Ok : goal.returns-in-Ok
returns-in-Ok c = let o = c.accept_certificate.result in
    accepted_of c.args.text.now c.args.unit c.in-Ok.certificate o.status o.answer c.in-Ok.ensures
    c.accept_certificate.ensures
