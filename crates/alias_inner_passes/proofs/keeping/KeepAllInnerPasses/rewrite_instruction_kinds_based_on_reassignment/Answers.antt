use Rattle.alias_inner_passes.proofs.PassLaws.{keeps_unchanged}
use Rattle.alias_inner_passes.proofs.keeping.KeepAllInnerPasses.rewrite_instruction_kinds_based_on_reassignment.Goals as
    goal

pub returns-clause-kept : goal.returns-clause-kept
returns-clause-kept c = keeps_unchanged _ _ c.requires
