use Rattle.std.proofs.Common.{subst, sym}
use Rattle.alias_lattice.specs.States.{lookup}
use Rattle.alias_apply.specs.Contexts.{held}
use Rattle.alias_apply.specs.Progress.{Follows}
use Rattle.alias_step.specs.Instructions.{record_write_if, check_write}
use Rattle.alias_step.proofs.instruction.check_write.Goals as goal

-- the test and the value are those of the definition
pub returns-in-Some : goal.returns-in-Some
returns-in-Some c =
    let k = held c.args.context.now in
    let s = c.args.step.now in
    let t = c.args.tables.now in
    let v = c.in-Some.place in
    let r = c.record_write_if.result in
    let s' = c.record_write_if.new.step in
    let t' = c.record_write_if.new.tables in
    subst (λ o. Follows (check_write k c.args.places.now o s t) r s' t') (sym c.in-Some.is)
    (subst (λ b. Follows (record_write_if k b (lookup s.state v.identifier) v s t) r s' t')
    c.is_frozen_context-is_reported.ensures
    (subst (λ a. Follows (record_write_if k c.is_frozen_context-is_reported.result a v s t) r s' t')
    c.value_at-there.ensures c.record_write_if.ensures))
