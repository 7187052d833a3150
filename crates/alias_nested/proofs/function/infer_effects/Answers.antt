use Rattle.std.proofs.Common.{◌≡◌, true, false, Err, map, ap, sym, subst}
use Rattle.alias_hir.specs.Errors.{is_memory}
use Rattle.alias_hir.specs.declared.env.Environment.{Environment}
use Rattle.alias_range_pass.specs.places.Keeping.{but_context}
use Rattle.alias_effects.specs.Inference.{inferred}
use Rattle.alias_nested.specs.Analysis.{analysis, named, effects_analysed, IsFault}
use Rattle.alias_nested.proofs.Changing.{names_named}
use Rattle.alias_nested.proofs.Ending.{ended, ended_keeps, ended_slots, effects_lead, accounts_numbered, notes_one}
use Rattle.alias_nested.proofs.Ending.{not_memory, effects_refused}
use Rattle.alias_nested.proofs.Faultless.{effects_faultless, named_faultless, refused_faultless}
use Rattle.alias_nested.proofs.Keeping.{kept_unchanged}
use Rattle.alias_nested.proofs.function.infer_effects.Goals as goal

pub returns-in_err-push-in-Ok-clause-kept : goal.returns-in_err-push-in-Ok-clause-kept
returns-in_err-push-in-Ok-clause-kept c =
    let p = c.infer_effects_certified in
    let x = ended c.args.env.now c.args.func.now true c.in-Ok.found p.new.env c.in-Ok.ensures.answer
    c.in-Ok.ensures.env in
    ended_keeps c.args.env.now c.args.func.now true c.in-Ok.found p.new.env x p.new.func c.in-Ok.ensures.recorded
    c.requires

pub returns-in_ok-push-in-Ok-clause-run : goal.returns-in_ok-push-in-Ok-clause-run
returns-in_ok-push-in-Ok-clause-run c =
    let p = c.infer_effects_certified in
    let x = ended c.args.env.now c.args.func.now true c.in-Ok.found p.new.env c.in-Ok.ensures.answer
    c.in-Ok.ensures.env in
    λ fs a. (
      _,
      effects_lead c.args.env.now c.args.func.now c.in-Ok.found p.new.env x p.new.func
          c.in-Ok.ensures.recorded c.args.id fs,
      accounts_numbered c.args.env.now c.args.func.now c.args.id c.in-Ok.found fs c.args.solved.now c.push.new.self a
          c.in_ok-push-in-Ok.ensures.items c.in-Ok.ensures.solves,
    )

pub returns-in_ok-push-in-Ok-clause-kept : goal.returns-in_ok-push-in-Ok-clause-kept
returns-in_ok-push-in-Ok-clause-kept c =
    let p = c.infer_effects_certified in
    let x = ended c.args.env.now c.args.func.now true c.in-Ok.found p.new.env c.in-Ok.ensures.answer
    c.in-Ok.ensures.env in
    ended_keeps c.args.env.now c.args.func.now true c.in-Ok.found p.new.env x p.new.func c.in-Ok.ensures.recorded
    c.requires

pub returns-in-Err-clause-kept : goal.returns-in-Err-clause-kept
returns-in-Err-clause-kept c =
    let p = c.infer_effects_certified in
    kept_unchanged c.args.func.now p.new.func c.args.env.now p.new.env c.in-Err.ensures.err.0 c.in-Err.ensures.err.1
    c.requires

pub returns-in-Err-clause-run : goal.returns-in-Err-clause-run
returns-in-Err-clause-run c =
    λ fs a free.
    let not : is_memory (named c.args.id c.in-Err.error) ≡ false =
    subst (λ e. is_memory e ≡ false) c.named.ensures free in
    subst (λ e. effects_analysed c.args.id c.args.func.now (analysis c.args.env.now fs) ≡ Err e) (sym c.named.ensures)
    (effects_refused c.args.env.now c.args.func.now c.args.id fs c.in-Err.error
    (c.in-Err.ensures.answer (not_memory c.args.id c.in-Err.error not)))

pub returns-in_err-push-in-Ok-clause-slots : goal.returns-in_err-push-in-Ok-clause-slots
returns-in_err-push-in-Ok-clause-slots c =
    let p = c.infer_effects_certified in
    ended_slots c.args.env.now c.args.func.now true c.in-Ok.found p.new.env
    (ended c.args.env.now c.args.func.now true c.in-Ok.found p.new.env c.in-Ok.ensures.answer c.in-Ok.ensures.env)

pub returns-in_ok-push-in-Ok-clause-slots : goal.returns-in_ok-push-in-Ok-clause-slots
returns-in_ok-push-in-Ok-clause-slots c =
    let p = c.infer_effects_certified in
    ended_slots c.args.env.now c.args.func.now true c.in-Ok.found p.new.env
    (ended c.args.env.now c.args.func.now true c.in-Ok.found p.new.env c.in-Ok.ensures.answer c.in-Ok.ensures.env)

pub returns-in-Err-clause-slots : goal.returns-in-Err-clause-slots
returns-in-Err-clause-slots c = ap (λ (e : Environment). map but_context e.functions) c.in-Err.ensures.err.1

pub returns-in-Err-clause-no_fault : goal.returns-in-Err-clause-no_fault
returns-in-Err-clause-no_fault c = λ f.
    let env = c.args.env.now in
    let func = c.args.func.now in
    named_faultless c.args.id c.in-Err.error
    (refused_faultless (inferred env func true) (effects_faultless env func true) c.in-Err.error
    c.in-Err.ensures.answer) (subst IsFault c.named.ensures f)

pub returns-in-Err-clause-names : goal.returns-in-Err-clause-names
returns-in-Err-clause-names c = λ no. names_named c.args.id c.in-Err.error c.named.result c.named.ensures no

pub returns-in_ok-push-in-Ok-clause-noted : goal.returns-in_ok-push-in-Ok-clause-noted
returns-in_ok-push-in-Ok-clause-noted c =
    notes_one c.args.id c.in-Ok.found c.args.solved.now c.push.new.self c.in_ok-push-in-Ok.ensures.items
