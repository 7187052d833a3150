use Rattle.std.proofs.Common.{subst, sym}
use Rattle.alias_apply.specs.Contexts.{held}
use Rattle.alias_apply.specs.Mutation.{report_write, record_result}
use Rattle.alias_apply.specs.Progress.{Follows}
use Rattle.alias_apply.proofs.mutation.record_result.Goals as goal

pub returns-in-MutateGlobal : goal.returns-in-MutateGlobal
returns-in-MutateGlobal c =
    let w = c.report_write in
    let there = subst (λ v. Follows (report_write (held c.args.context.now) v c.args.place c.args.step.now
    c.args.tables.now) w.result w.new.step w.new.tables) c.value_at-there-in-MutateGlobal.ensures w.ensures in
    subst (λ m. Follows (record_result (held c.args.context.now) m c.args.effect c.args.place c.args.step.now
    c.args.tables.now) w.result w.new.step w.new.tables) (sym c.in-MutateGlobal.is) there
