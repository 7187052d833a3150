use Rattle.std.proofs.Common.{◌≡◌, Err, rules}
use Rattle.alias_certificate.specs.declared.fault.CheckFault.{CheckFault}
use Rattle.alias_brief.specs.Verifying.{check_fault_of}
use Rattle.alias_verify.proofs.Verified.{unfollowed, compared_with, printed_for}
use Rattle.alias_verify.proofs.calls.verify_given.Goals as goal

pub returns-in_err-followed-clause-follows : goal.returns-in_err-followed-clause-follows
returns-in_err-followed-clause-follows c =
    let e : CheckFault = c.in_err-followed.field-0.0 in
    let same : c.from_residual.result ≡ Err (check_fault_of e) = search rules in
    unfollowed c.args.given.now c.args.text.now c.args.unit c.from_residual.result e same c.in_err-followed.ensures

pub returns-clause-follows : goal.returns-clause-follows
returns-clause-follows c =
    let f = c.in_ok-followed.ensures in
    compared_with c.args.given.now c.args.text.now c.args.unit f.0 c.in_ok-followed.followed f.1 c.compare.result f.2
    c.compare.ensures.compared c.compare.ensures.printed

pub returns-clause-printed : goal.returns-clause-printed
returns-clause-printed c =
    let f = c.in_ok-followed.ensures in
    printed_for c.args.given.now c.args.text.now c.args.unit f.0 c.in_ok-followed.followed f.1 c.compare.result
    c.compare.ensures.printed
