use Rattle.std.proofs.Common.{◌≡◌, drop}
use Rattle.std.specs.Option.{option_map}
use Rattle.alias_calls.specs.Arguments.{substituted_arguments}
use Rattle.alias_calls.proofs.arguments.substituted_arguments.Given as goal

-- the arguments that are left lead where all of them do
abbrev pub invariant-loop-argument : goal.invariant-loop-argument
invariant-loop-argument g l =
    (l.index ≡ l.argument-index) × (substituted_arguments g.K.PartialEq.eq l.name l.params
    (option_map (λ r. r.now) l.rest) (drop l.argument-index l.args) l.index l.so_far
    ≡ substituted_arguments g.K.PartialEq.eq l.name l.params (option_map (λ r. r.now) l.rest) l.args 0 l.initial.so_far)
