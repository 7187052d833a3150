use Rattle.std.proofs.Common.{refl}
use Rattle.alias_straight.proofs.Pointing.{root-key, part_found}
use Rattle.alias_straight.proofs.unit.read_part.Goals as goal

pub returns : goal.returns
returns g c =
    part_found g.T.FromJson.reads c.args.default _ c.args.key.now (root-key _ c.args.key refl) c.args.part
    c.in-Some.tree c.in-Some.is c.in_ok-read.read c.in_ok-read.ensures
