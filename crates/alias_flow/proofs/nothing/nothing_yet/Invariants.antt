use Rattle.std.proofs.Common.{◌≡◌, None, replicate, vec_len}
use Rattle.alias_flow.proofs.nothing.nothing_yet.Given as goal

abbrev pub invariant-loop : goal.invariant-loop
invariant-loop g l = (l.list.items ≡ replicate l.counter None) × (vec_len l.list ≡ l.counter)
