use Rattle.std.proofs.Common.{◌≡◌, drop}
use Rattle.std.specs.List.{fold}
use Rattle.alias_facts.specs.Hoisted.{after_listed}
use Rattle.alias_facts.proofs.hoisted.visit_instructions.Given as goal

abbrev pub invariant-loop-id : goal.invariant-loop-id
invariant-loop-id l = fold (after_listed l.func l.env) l.hoisted (drop l.id-index l.listed)
    ≡ fold (after_listed l.func l.env) l.initial.hoisted l.listed
