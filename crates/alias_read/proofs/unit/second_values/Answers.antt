use Rattle.std.proofs.Common.{[], codes}
use Rattle.alias_json.specs.Tree.{view}
use Rattle.alias_json.specs.Pointer.{pointer}
use Rattle.alias_read.specs.Units.{context_values_at}
use Rattle.alias_read.proofs.Members.{pointer-key, given_found}
use Rattle.alias_read.proofs.unit.second_values.Goals as goal

pub returns-in-Some : goal.returns-in-Some
returns-in-Some c =
    given_found (context_values_at c.args.count) [] (pointer c.args.path.now) _ (codes "context_values")
    (pointer-key c.args.path (record { ref_ptr = _; now = codes "context_values" })) (view c.args.value.now)
    (view c.in-Some.found.now)
    c.in-Some.ensures c.context_values.result c.context_values.ensures
