use Rattle.std.proofs.Common.{◌≡◌, ◌++◌, drop}
use Rattle.alias_hir.specs.Positions.{positions_of}
use Rattle.alias_hir.proofs.positions.positions_of.Given as goal

-- the positions so far, and those of the names that are left, are all positions
abbrev pub invariant-loop-name : goal.invariant-loop-name
invariant-loop-name l = l.positions.items ++ positions_of l.blocks (drop l.name-index l.names)
    ≡ positions_of l.blocks l.names
