use Rattle.std.proofs.Common.{◌≡◌, drop}
use Rattle.std.specs.List.{fold}
use Rattle.alias_facts.specs.Spreads.{after_listed}
use Rattle.alias_facts.proofs.spreads.visit_instructions.Given as goal

abbrev pub invariant-loop-id : goal.invariant-loop-id
invariant-loop-id l = fold (after_listed l.func l.env) l.candidates (drop l.id-index l.listed)
    ≡ fold (after_listed l.func l.env) l.initial.candidates l.listed
