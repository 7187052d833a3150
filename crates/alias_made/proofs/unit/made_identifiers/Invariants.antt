use Rattle.std.proofs.Common.{◌≡◌, None, map}
use Rattle.std.specs.List.{range_with_len}
use Rattle.alias_hir.specs.Tables.{fresh_identifier}
use Rattle.alias_made.proofs.unit.made_identifiers.Given as goal

abbrev pub invariant-loop-number : goal.invariant-loop-number
invariant-loop-number l = l.identifiers ≡ map (λ n. fresh_identifier None n 0) (range_with_len 0 l.number)
