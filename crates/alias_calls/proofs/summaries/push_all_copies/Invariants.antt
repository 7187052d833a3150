use Rattle.std.proofs.Common.{◌≡◌, drop}
use Rattle.alias_calls.specs.Calls.{held_summary}
use Rattle.alias_calls.specs.Summaries.{with_all_copies}
use Rattle.alias_calls.proofs.summaries.push_all_copies.Given as goal

-- the effects that are left lead where all of them do
abbrev pub invariant-loop-effect : goal.invariant-loop-effect
invariant-loop-effect l =
    with_all_copies l.env (held_summary l.call) (drop l.effect-index l.effects) l.out l.tables
    ≡ with_all_copies l.env (held_summary l.call) l.effects l.initial.out l.tables
