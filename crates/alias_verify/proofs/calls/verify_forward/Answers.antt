use Rattle.std.proofs.Common.{◌≡◌, Err, rules, subst}
use Rattle.std.specs.Prelude.{Ok}
use Rattle.alias_rules.specs.Functions.{rules_hold}
use Rattle.alias_cert_text.specs.declared.fault.CertFault.{CertFault}
use Rattle.alias_brief.specs.Verifying.{text_fault_of}
use Rattle.alias_verify.proofs.Verified.{accepted_unread, refused_alike, unread}
use Rattle.alias_verify.proofs.calls.verify_forward.Goals as goal

pub returns-in-Ok : goal.returns-in-Ok
returns-in-Ok c =
    let known = c.unit-unit.ensures in
    let holds = subst (λ z. rules_hold z ≡ Ok tt) known.unit known.checked in
    accepted_unread c.args.text.now c.args.unit holds c.requires c.forward_units_alike_law.ensures
    (record { functions = c.new.result }) c.briefs_read_back.ensures c.in-Ok.functions c.in-Ok.ensures.follows
    c.in-Ok.ensures.printed

pub returns-in_err-_said-in-Err : goal.returns-in_err-_said-in-Err
returns-in_err-_said-in-Err c =
    let e : CertFault = c.in_err-_said-in-Err.field-0.0 in
    let same : c.from_residual.result ≡ Err (text_fault_of e) = search rules in
    unread c.args.text.now c.args.unit c.from_residual.result e same c.in_err-_said-in-Err.ensures

pub returns : goal.returns
returns c =
    let known = c.unit-unit.ensures in
    let holds = subst (λ z. rules_hold z ≡ Ok tt) known.unit known.checked in
    refused_alike c.args.text.now c.args.unit holds c.requires c.forward_units_alike_law.ensures
    (record { functions = c.new.result }) c.in_ok-_said-in-Err._said c.in-Err.fault c.in_ok-_said-in-Err.ensures c.in-Err.ensures.follows
