use Rattle.std.proofs.Common.{refl, subst}
use Rattle.alias_unit_completeness.specs.Refusals.{IsForwardUnit}
use Rattle.alias_verify.proofs.calls.verify.Goals as goal

pub verify_forward-requires : goal.verify_forward-requires
verify_forward-requires c = subst IsForwardUnit c.unit.ensures.unit (c.if-is_forward_unit.ensures.0 refl)
