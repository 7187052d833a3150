use Rattle.std.proofs.Common.{◌≡◌, Err, rules}
use Rattle.alias_certificate.specs.declared.fault.CheckFault.{CheckFault}
use Rattle.alias_brief.proofs.Printed.{brief_refused, brief_comes, brief_fits}
use Rattle.alias_brief.proofs.calls.brief.Goals as goal

pub returns-in_err-followed-clause-text : goal.returns-in_err-followed-clause-text
returns-in_err-followed-clause-text c =
    let e : CheckFault = c.in_err-followed.field-0.0 in
    let same : c.from_residual-in_err-followed.result ≡ Err e = search rules in
    brief_refused c.args.solved.now c.args.unit c.in_ok-given.given.functions c.in_ok-given.ensures
    c.from_residual-in_err-followed.result e same c.in_err-followed.ensures

pub returns-clause-text : goal.returns-clause-text
returns-clause-text c =
    let f = c.in_ok-followed.ensures in
    brief_comes c.args.solved.now c.args.unit c.in_ok-given.given.functions c.in_ok-given.ensures f.0
    c.in_ok-followed.followed c.in_ok-text.text f.1 c.in_ok-text.ensures.text

pub returns-clause-fits : goal.returns-clause-fits
returns-clause-fits c =
    let f = c.in_ok-followed.ensures in
    brief_fits c.args.solved.now c.args.unit c.in_ok-given.given.functions c.in_ok-given.ensures f.0
    c.in_ok-followed.followed c.in_ok-text.text f.1 c.in_ok-text.ensures.text c.in_ok-text.ensures.fits
