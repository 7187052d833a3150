use Rattle.std.proofs.Common.{◌≡◌, ◌∙◌, length, option_map, Err, ap, sym, subst, rules}
use Rattle.std.specs.Borrow.{Bor}
use Rattle.std.specs.Prelude.{IfOk}
use Rattle.alias_base.specs.Answer.{Gives}
use Rattle.alias_step.specs.block.Contexts.{held}
use Rattle.alias_effects.specs.Numbered.{numbered}
use Rattle.alias_certificate.specs.declared.certificate.CertFunction.{CertFunction}
use Rattle.alias_certificate.specs.declared.fault.CheckFault.{CheckFault}
use Rattle.alias_certificate.specs.declared.fault.CheckFault.TheVariants as fault
use Rattle.alias_cert.specs.function.Faults.{is_memory}
use Rattle.alias_follow.specs.function.Functions.{passed_with, given_passed}
use Rattle.alias_follow.specs.lines.Entering.{entering_of}
use Rattle.alias_follow.proofs.function.Answering.{passes_fault, passes_memory, temporaries_refused, given_at}
use Rattle.alias_follow.proofs.function.follow.follow_given.Goals as goal

pub new-requires : goal.new-requires
new-requires c = c.blocks-count.ensures ∙ c.requires.blocks

pub returns-in_err-lines-clause-steps : goal.returns-in_err-lines-clause-steps
returns-in_err-lines-clause-steps c =
    let given = option_map (λ (g : Bor CertFunction). g.now) c.args.given in
    let flow = c.args.flow.now in
    let e = c.in_err-lines.field-0.0 in
    let same : c.from_residual.result ≡ Err (fault.Memory e) = search rules in
    passes_memory flow.tables flow.recorded.items
    (given_passed given c.args.limit c.args.function c.args.env.now c.args.func.now (numbered (held flow.context))
    c.args.marks.now flow.tables flow.recorded.items) c.from_residual.result e same

pub returns-in_err-state_temporaries-clause-steps : goal.returns-in_err-state_temporaries-clause-steps
returns-in_err-state_temporaries-clause-steps c =
    let given = option_map (λ (g : Bor CertFunction). g.now) c.args.given in
    let old = c.args.flow.now in
    let now = c.state_temporaries.new.flow in
    let e : CheckFault = c.in_err-state_temporaries.field-0.0 in
    let same : c.from_residual-in_err-state_temporaries.result ≡ Err e = search rules in
    passes_fault now.tables now.recorded.items
    (given_passed given c.args.limit c.args.function c.args.env.now c.args.func.now (numbered (held old.context))
    c.args.marks.now old.tables old.recorded.items) c.from_residual-in_err-state_temporaries.result e same
    (λ m. temporaries_refused given c.args.limit c.args.function c.args.env.now c.args.func.now
    (numbered (held old.context)) c.args.marks.now old.tables old.recorded.items
    c.temporaries_given-temporaries.result.now e c.temporaries_given-temporaries.ensures
    (c.in_err-state_temporaries.ensures.tables m))

pub returns-in_err-state_temporaries-clause-func : goal.returns-in_err-state_temporaries-clause-func
returns-in_err-state_temporaries-clause-func c = ap (λ x. x.func) c.in_err-state_temporaries.ensures.same.context

pub follow_steps-requires : goal.follow_steps-requires
follow_steps-requires c = c.requires.marks ∙ sym c.requires.blocks
    ∙ sym (ap (λ x. (numbered (held x)).blocks) c.in_ok-state_temporaries.ensures.same.context)

pub returns-clause-steps : goal.returns-clause-steps
returns-clause-steps c =
    let given = option_map (λ (g : Bor CertFunction). g.now) c.args.given in
    let old = c.args.flow.now in
    let flow = c.state_temporaries.new.flow in
    let now = c.follow_steps.new.flow in
    let lines = c.in_ok-lines.lines in
    let is = c.in_ok-lines.ensures in
    subst (λ z. Gives is_memory z (passed_with now.tables now.recorded.items c.follow_steps.result))
    (given_at given c.args.limit c.args.function c.args.env.now c.args.func.now (numbered (held old.context))
    c.args.marks.now old.tables old.recorded.items c.temporaries_given-temporaries.result.now flow.tables
    c.temporaries_given-temporaries.ensures c.in_ok-state_temporaries.ensures.tables (entering_of lines.blocks)
    lines.limit (numbered (held flow.context)) flow.recorded.items is.entering is.limit
    (ap (λ x. numbered (held x)) c.in_ok-state_temporaries.ensures.same.context)
    c.in_ok-state_temporaries.ensures.same.recorded) c.follow_steps.ensures.steps

pub returns-clause-func : goal.returns-clause-func
returns-clause-func c = c.follow_steps.ensures.func ∙ ap (λ x. x.func) c.in_ok-state_temporaries.ensures.same.context

pub returns-clause-entries : goal.returns-clause-entries
returns-clause-entries c =
    subst (λ n. IfOk c.follow_steps.result (λ p. length p.entries ≡ n))
    (ap (λ x. (numbered (held x)).blocks) c.in_ok-state_temporaries.ensures.same.context ∙ c.requires.blocks)
    c.follow_steps.ensures.entries
