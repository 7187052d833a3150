use Rattle.alias_inner_passes.proofs.PassLaws.{keeps_unchanged}
use Rattle.alias_inner_passes.proofs.keeping.KeepAllInnerPasses.infer_reactive_scope_variables.Goals as goal

pub returns-clause-kept : goal.returns-clause-kept
returns-clause-kept c = keeps_unchanged _ _ c.requires
