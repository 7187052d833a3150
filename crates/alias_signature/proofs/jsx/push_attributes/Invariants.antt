use Rattle.std.proofs.Common.{◌≡◌, ◌++◌, take}
use Rattle.std.specs.List.{flat_map}
use Rattle.alias_signature.specs.Jsx.{attribute_effects}
use Rattle.alias_signature.proofs.jsx.push_attributes.Given as goal

abbrev pub invariant-loop-attribute : goal.invariant-loop-attribute
invariant-loop-attribute l = l.effects ≡ l.initial.effects
    ++ flat_map (attribute_effects l.env) (take l.attribute-index l.props)
