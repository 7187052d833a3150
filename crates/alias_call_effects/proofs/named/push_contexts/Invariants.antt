use Rattle.std.proofs.Common.{◌≡◌, ◌≤◌, take, length}
use Rattle.alias_call_effects.specs.Parts.{both_named, contexts_named}
use Rattle.alias_call_effects.proofs.named.push_contexts.Given as goal

-- the places so far, and those that are left
abbrev pub invariant-loop-left : goal.invariant-loop-left
invariant-loop-left l = (l.left ≤ length l.context)
    × (both_named l.named (contexts_named l.env (take l.left l.context))
    ≡ both_named l.initial.named (contexts_named l.env l.context))

abbrev pub decreases-loop-left : goal.decreases-loop-left
decreases-loop-left l = l.left
