use Rattle.std.proofs.Common.{◌≡◌}
use Rattle.std.specs.List.{fold}
use Rattle.alias_facts.specs.Hoisted.{after_entry, find_hoisted_context_declarations}
use Rattle.alias_facts.proofs.hoisted.find_hoisted_context_declarations.Given as goal

abbrev pub invariant-loop-block : goal.invariant-loop-block
invariant-loop-block l = find_hoisted_context_declarations l.func l.env
    ≡ fold (after_entry l.func l.env) l.hoisted l.block-iterator
