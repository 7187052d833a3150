use Rattle.std.proofs.Common.{◌≡◌, drop}
use Rattle.std.specs.List.{fold}
use Rattle.alias_facts.specs.Candidates.{after_property}
use Rattle.alias_facts.proofs.candidates.note_properties.Given as goal

abbrev pub invariant-loop-property : goal.invariant-loop-property
invariant-loop-property l = fold after_property l.candidates (drop l.property-index l.properties)
    ≡ fold after_property l.initial.candidates l.properties
