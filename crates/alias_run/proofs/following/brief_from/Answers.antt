use Rattle.std.proofs.Common.{◌≡◌, sym, subst}
use Rattle.std.specs.Prelude.{Ok}
use Rattle.alias_rules.specs.Functions.{rules_hold}
use Rattle.alias_brief.specs.Fitting.{IsFittingText}
use Rattle.alias_run.proofs.Briefs.{briefed_done, briefed_fault}
use Rattle.alias_run.proofs.following.brief_from.Goals as goal

pub returns-in-Ok : goal.returns-in-Ok
returns-in-Ok c =
    let known = c.unit-unit.ensures in
    let rules = subst (λ z. rules_hold z ≡ Ok tt) known.unit known.checked in
    let text = c.as_str.ensures in
    let fits = subst (IsFittingText c.args.solved.now c.args.unit) (sym text) c.in-Ok.ensures.fits in
    briefed_done c.args.solved.now c.args.unit c.in-Ok.text c.as_str.result.now c.done.result c.done.ensures text
    c.in-Ok.ensures.text (c.brief_accepted.ensures c.args.unit rules fits)

pub returns-in-Err : goal.returns-in-Err
returns-in-Err c = briefed_fault c.args.solved.now c.args.unit c.in-Err.fault _ c.ended.result c.ended.ensures
    c.brief_status.ensures c.in-Err.ensures.text
