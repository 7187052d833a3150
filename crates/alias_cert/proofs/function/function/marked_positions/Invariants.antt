use Rattle.std.proofs.Common.{◌≡◌, ◌++◌, drop}
use Rattle.alias_cert.specs.function.Functions.{marked_positions}
use Rattle.alias_cert.proofs.function.function.marked_positions.Given as goal

abbrev pub invariant-loop-index : goal.invariant-loop-index
invariant-loop-index l = l.positions ++ marked_positions l.index (drop l.index l.marks) ≡ marked_positions 0 l.marks
