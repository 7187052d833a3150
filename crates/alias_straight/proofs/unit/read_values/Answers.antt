use Rattle.std.proofs.Common.{refl, codes}
use Rattle.alias_straight.proofs.Pointing.{root-key, values_found}
use Rattle.alias_straight.proofs.unit.read_values.Goals as goal

pub returns-in_ok-values-in-Second : goal.returns-in_ok-values-in-Second
returns-in_ok-values-in-Second c =
    values_found _ (root-key _ (record { ref_ptr = _; now = codes "context_values" }) refl) _ c.args.root.now
    c.len.ensures c.args.part c.in-Some.tree c.in-Some.is c.args.format c.in-Second.is c.in_ok-values-in-Second.values
    c.in_ok-values-in-Second.ensures
