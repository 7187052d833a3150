use Rattle.std.proofs.Common.{◌≡◌, replicate, []}
use Rattle.alias_graph.proofs.recorded.block_listing.nothing_pending.Given as goal

abbrev pub invariant-loop : goal.invariant-loop
invariant-loop l = l.pending ≡ replicate l.counter []
