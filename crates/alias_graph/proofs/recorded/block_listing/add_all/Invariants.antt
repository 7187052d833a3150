use Rattle.std.proofs.Common.{◌≡◌, ◌++◌, take}
use Rattle.alias_graph.proofs.recorded.block_listing.add_all.Given as goal

abbrev pub invariant-loop-event : goal.invariant-loop-event
invariant-loop-event l = l.events ≡ l.initial.events ++ take l.event-index l.more
