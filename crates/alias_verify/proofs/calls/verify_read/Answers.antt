use Rattle.std.proofs.Common.{◌≡◌, Err, rules}
use Rattle.alias_cert_text.specs.declared.fault.CertFault.{CertFault}
use Rattle.alias_brief.specs.Verifying.{text_fault_of}
use Rattle.alias_verify.proofs.Verified.{read_then, unread}
use Rattle.alias_verify.proofs.calls.verify_read.Goals as goal

pub returns-in_err-given : goal.returns-in_err-given
returns-in_err-given c =
    let e : CertFault = c.in_err-given.field-0.0 in
    let same : c.from_residual.result ≡ Err (text_fault_of e) = search rules in
    unread c.args.text.now c.args.unit c.from_residual.result e same c.in_err-given.ensures

pub returns : goal.returns
returns c = read_then c.in_ok-given.given c.args.text.now c.args.unit c.verify_given.result c.in_ok-given.ensures
    c.verify_given.ensures.follows
