use Rattle.std.proofs.Common.{◌≡◌, ap, arith}
use Rattle.alias_graph.specs.Cutting.{unflagged}
use Rattle.alias_graph.specs.Reach.{once}
use Rattle.alias_graph.proofs.Cutting.{grow_fewer, part_less}
use Rattle.alias_graph.proofs.part.flag_part.Goals as goal

pub part-smaller : goal.part-smaller
part-smaller c =
    let less = part_less (unflagged c.part.flags.items) (unflagged c.spread.new.flags.items)
    (unflagged c.flag_leading.new.flags.items) c.in_ok-more.more
    (grow_fewer c.part.flags.items c.spread.new.flags.items c.in_ok-spread.ensures.grow) c.in_ok-more.ensures.fewer
    (λ is. ap unflagged (c.in_ok-more.ensures.closed is).0) in
    let was : once c.part.more ≡ 1 = ap once c.part-test.true in
    omega arith
