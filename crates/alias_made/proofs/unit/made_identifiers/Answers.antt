use Rattle.std.proofs.Common.{None}
use Rattle.alias_hir.specs.Tables.{fresh_identifier}
use Rattle.alias_made.proofs.Ranges.{map-range_more}
use Rattle.alias_made.proofs.unit.made_identifiers.Goals as goal

pub loop-number-preserved : goal.loop-number-preserved
loop-number-preserved c =
    map-range_more (λ n. fresh_identifier None n 0) c.loop-number.number c.loop-number.identifiers c.push.new.self
    c.fresh_identifier.result c.loop-number.invariant c.fresh_identifier.ensures c.in_ok-push.ensures.items
