use Rattle.std.proofs.Common.{◌≡◌, drop}
use Rattle.alias_step.specs.block.Blocks.{infer_phis}
use Rattle.alias_step.proofs.block.block.infer_phis.Given as goal

-- the phis that are left go where all of them do
abbrev pub invariant-loop-phi : goal.invariant-loop-phi
invariant-loop-phi l = infer_phis (drop l.phi-index l.phi-items) l.state ≡ infer_phis l.phis l.initial.state
