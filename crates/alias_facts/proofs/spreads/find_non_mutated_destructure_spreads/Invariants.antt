use Rattle.std.proofs.Common.{◌≡◌}
use Rattle.std.specs.List.{fold}
use Rattle.alias_facts.specs.Candidates.{first_candidates}
use Rattle.alias_facts.specs.Spreads.{after_entry}
use Rattle.alias_facts.proofs.spreads.find_non_mutated_destructure_spreads.Given as goal

abbrev pub invariant-loop-block : goal.invariant-loop-block
invariant-loop-block l = fold (after_entry l.func l.env) (first_candidates l.func) l.func.body.blocks
    ≡ fold (after_entry l.func l.env) l.candidates l.block-iterator
