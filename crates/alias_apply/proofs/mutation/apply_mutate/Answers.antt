-- What the state answers decides as the kind of the value does.
use Rattle.std.proofs.Common.{subst}
use Rattle.alias_tables.specs.Tables.{Step}
use Rattle.alias_apply.specs.declared.progress.StepProgress.{StepProgress}
use Rattle.alias_apply.specs.Contexts.{held}
use Rattle.alias_apply.specs.MutationLaws.{mutate_by_kind}
use Rattle.alias_apply.specs.Progress.{Follows}
use Rattle.alias_apply.proofs.mutation.apply_mutate.Goals as goal

pub returns : goal.returns
returns c =
    let a = c.apply_mutation in
    subst (λ (f : Step StepProgress). Follows (f c.args.tables.now) a.result a.new.step a.new.tables)
    (mutate_by_kind (held c.args.context.now) c.args.effect c.args.place c.args.step.now) a.ensures
