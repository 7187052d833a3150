use Rattle.std.proofs.Common.{◌≡◌, ◌++◌, drop}
use Rattle.std.specs.Prelude.{map}
use Rattle.alias_effects.specs.Inference.{block_at}
use Rattle.alias_effects.proofs.output.names_of.Given as goal

-- the names so far, and those of the positions that are left, are all names
abbrev pub invariant-loop-position : goal.invariant-loop-position
invariant-loop-position l = l.names ++ map (block_at l.blocks) (drop l.position-index l.positions)
    ≡ map (block_at l.blocks) l.positions
