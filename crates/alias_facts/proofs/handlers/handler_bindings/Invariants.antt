use Rattle.std.proofs.Common.{◌≡◌}
use Rattle.std.specs.List.{fold}
use Rattle.alias_facts.specs.Handlers.{after_entry, handler_bindings}
use Rattle.alias_facts.proofs.handlers.handler_bindings.Given as goal

abbrev pub invariant-loop-block : goal.invariant-loop-block
invariant-loop-block l = handler_bindings l.func ≡ fold after_entry l.handlers l.block-iterator
