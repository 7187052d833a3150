use Rattle.std.proofs.Common.{◌≡◌}
use Rattle.alias_made.specs.Draws.{state_before}
use Rattle.alias_made.specs.Units.{made_instructions}
use Rattle.alias_made.proofs.unit.made_instructions.Given as goal

abbrev pub invariant-loop-block : goal.invariant-loop-block
invariant-loop-block l = record {
  drawn : l.draws.state ≡ state_before l.seed l.block;
  pushed : l.instructions ≡ made_instructions l.seed l.block;
}
