use Rattle.std.proofs.Common.{◌≡◌, ℕ, ◌<◌, Some}
use Rattle.alias_flow.specs.Solutions.{entry_at}
use Rattle.alias_flow.proofs.check.entries.all_known.Given as goal

abbrev pub invariant-loop-entry : goal.invariant-loop-entry
invariant-loop-entry g l = (b : ℕ) → b < l.entry-index → (s : g.row.S.Denot) → entry_at l.entries b ≡ Some s
    → g.S.Lattice.proper s
