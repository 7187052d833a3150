use Rattle.std.proofs.Common.{◌≡◌, ◌++◌, drop}
use Rattle.alias_calls.specs.Calls.{held_config}
use Rattle.alias_calls.specs.Configs.{inner_arguments}
use Rattle.alias_calls.proofs.configs.inner_arguments.Given as goal

-- the arguments so far, and those that are left
abbrev pub invariant-loop-argument : goal.invariant-loop-argument
invariant-loop-argument l = l.inner ++ inner_arguments (held_config l.call) (drop l.argument-index l.arguments)
    ≡ inner_arguments (held_config l.call) l.arguments
