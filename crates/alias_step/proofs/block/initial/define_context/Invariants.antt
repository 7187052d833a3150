use Rattle.std.proofs.Common.{◌≡◌, drop}
use Rattle.alias_step.specs.block.Initial.{with_context, with_context_from}
use Rattle.alias_step.proofs.block.initial.define_context.Given as goal

-- the places that are left go where all of them do
abbrev pub invariant-loop-place : goal.invariant-loop-place
invariant-loop-place l = record {
  index : l.index ≡ l.place-index;
  left : with_context_from l.values l.index (drop l.place-index l.places) l.state
      ≡ with_context l.values l.places l.initial.state;
}
