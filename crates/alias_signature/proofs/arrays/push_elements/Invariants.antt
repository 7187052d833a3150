use Rattle.std.proofs.Common.{◌≡◌, ◌++◌, take}
use Rattle.std.specs.List.{flat_map}
use Rattle.alias_signature.specs.Arrays.{element_effects}
use Rattle.alias_signature.proofs.arrays.push_elements.Given as goal

abbrev pub invariant-loop-element : goal.invariant-loop-element
invariant-loop-element l = l.effects ≡ l.initial.effects
    ++ flat_map (element_effects l.env l.lvalue) (take l.element-index l.elements)
