use Rattle.std.proofs.Common.{◌≡◌, ◌++◌, take}
use Rattle.std.specs.List.{flat_map}
use Rattle.alias_signature.specs.Patterns.{item_effects}
use Rattle.alias_signature.proofs.patterns.push_items.Given as goal

abbrev pub invariant-loop-item : goal.invariant-loop-item
invariant-loop-item l = l.effects ≡ l.initial.effects
    ++ flat_map (item_effects l.env l.spreads l.value) (take l.item-index l.items)
