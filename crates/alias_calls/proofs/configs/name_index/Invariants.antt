use Rattle.std.proofs.Common.{◌≡◌, ◌+◌, drop}
use Rattle.alias_calls.specs.Configs.{name_index}
use Rattle.alias_calls.proofs.configs.name_index.Given as goal

-- what is left decides
abbrev pub invariant-loop-other : goal.invariant-loop-other
invariant-loop-other l = (l.index ≡ l.other-index)
    × (l.index + name_index l.name (drop l.other-index l.names) ≡ name_index l.name l.names)
