use Rattle.std.proofs.Common.{◌≡◌, ◌∙◌, true, false, Err, ap, sym, subst}
use Rattle.alias_hir.specs.Errors.{is_memory}
use Rattle.alias_ranges.specs.laws.SummaryLaws.{summary_fits}
use Rattle.alias_nested.specs.Analysis.{named, naming}
use Rattle.alias_nested.proofs.Changing.{names_named, ranged_slots}
use Rattle.alias_nested.proofs.Ending.{not_memory}
use Rattle.alias_nested.proofs.Keeping.{ranged_keeps, summary_kept}
use Rattle.alias_nested.proofs.function.infer_ranges.Goals as goal

pub returns-in-Err-clause-run : goal.returns-in-Err-clause-run
returns-in-Err-clause-run c =
    λ free.
    let not : is_memory (named c.args.id c.in-Err.error) ≡ false =
    subst (λ e. is_memory e ≡ false) c.named.ensures free in
    let stays = c.in-Err.ensures.pass (not_memory c.args.id c.in-Err.error not) in
    (ap (λ r. naming c.args.id r) stays.0 ∙ ap Err (sym c.named.ensures), stays.1, stays.2)

pub returns-in-Ok-clause-kept : goal.returns-in-Ok-clause-kept
returns-in-Ok-clause-kept c =
    let p = c.infer_mutation_aliasing_ranges in
    ranged_keeps c.args.func.now p.new.func c.args.env.now p.new.env p.ensures.fits p.ensures.still p.ensures.kept

pub returns-in-Err-clause-kept : goal.returns-in-Err-clause-kept
returns-in-Err-clause-kept c =
    let p = c.infer_mutation_aliasing_ranges in
    ranged_keeps c.args.func.now p.new.func c.args.env.now p.new.env p.ensures.fits p.ensures.still p.ensures.kept

pub returns-in-Ok-clause-summary : goal.returns-in-Ok-clause-summary
returns-in-Ok-clause-summary c =
    let p = c.infer_mutation_aliasing_ranges in
    let kept = ranged_keeps c.args.func.now p.new.func c.args.env.now p.new.env p.ensures.fits p.ensures.still
    p.ensures.kept in
    let fits = summary_fits true c.args.func.now c.args.env.now _ c.in-Ok.ensures.pass c.requires in
    summary_kept c.args.env.now p.new.env c.args.func.now kept.evolves.effects c.requires c.in-Ok.summary
    (record { within = fits.0; no_call = fits.1 })

pub returns-in-Ok-clause-slots : goal.returns-in-Ok-clause-slots
returns-in-Ok-clause-slots c = let p = c.infer_mutation_aliasing_ranges in
    ranged_slots c.args.env.now p.new.env p.ensures.kept

pub returns-in-Err-clause-slots : goal.returns-in-Err-clause-slots
returns-in-Err-clause-slots c = let p = c.infer_mutation_aliasing_ranges in
    ranged_slots c.args.env.now p.new.env p.ensures.kept

pub returns-in-Err-clause-names : goal.returns-in-Err-clause-names
returns-in-Err-clause-names c = λ no. names_named c.args.id c.in-Err.error c.named.result c.named.ensures no
