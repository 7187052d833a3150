use Rattle.std.proofs.Common.{◌≡◌, false, replicate, vec_len}
use Rattle.alias_flow.proofs.check.reached.entry_marked.Given as goal

abbrev pub invariant-loop : goal.invariant-loop
invariant-loop l = (l.marks.items ≡ replicate l.counter false) × (vec_len l.marks ≡ l.counter)
