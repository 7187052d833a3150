use Rattle.std.proofs.Common.{◌≡◌, drop}
use Rattle.alias_plain.specs.laws.UnsureFlow.{with_phis}
use Rattle.alias_plain.proofs.sure.apply_phis.Given as goal

-- the phis that are left lead where all of them do
abbrev pub invariant-loop-phi : goal.invariant-loop-phi
invariant-loop-phi l = with_phis l.from (drop l.phi-index l.phis) l.set ≡ with_phis l.from l.phis l.initial.set
