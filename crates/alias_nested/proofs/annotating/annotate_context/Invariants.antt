use Rattle.std.proofs.Common.{◌≡◌, ◌++◌, take, drop, map}
use Rattle.alias_nested.specs.Annotating.{context_annotated}
use Rattle.alias_nested.proofs.annotating.annotate_context.Given as goal

-- the places so far are set, and the others are as they were
abbrev pub invariant-loop-place : goal.invariant-loop-place
invariant-loop-place l = l.context ≡ map (context_annotated l.summary) (take l.place-index l.initial.context)
    ++ drop l.place-index l.initial.context
