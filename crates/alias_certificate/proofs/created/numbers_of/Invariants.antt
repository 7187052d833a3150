use Rattle.std.proofs.Common.{◌≡◌, ◌||◌, drop}
use Rattle.std.specs.Ordering.{nat_cmp}
use Rattle.std.specs.BTreeSet.{contains}
use Rattle.alias_base.specs.declared.ids.FunctionId.{FunctionId}
use Rattle.alias_certificate.specs.states.States.{is_created}
use Rattle.alias_certificate.proofs.created.numbers_of.Given as goal

-- what is noted already, or is to come
abbrev pub invariant-loop-id : goal.invariant-loop-id
invariant-loop-id l =
    (f : FunctionId) → is_created l.ids f ≡ contains nat_cmp l.numbers f.0 || is_created (drop l.id-index l.ids) f
