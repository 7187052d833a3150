use Rattle.std.proofs.Common.{◌≡◌, drop}
use Rattle.alias_calls.specs.Summaries.{substituted_context}
use Rattle.alias_calls.proofs.summaries.substituted_context.Given as goal

-- what is left decides
abbrev pub invariant-loop-place : goal.invariant-loop-place
invariant-loop-place l = substituted_context l.identifier (drop l.place-index l.context) l.so_far
    ≡ substituted_context l.identifier l.context l.initial.so_far
