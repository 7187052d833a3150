use Rattle.std.proofs.Common.{◌≡◌, ◌++◌, take}
use Rattle.std.specs.List.{flat_map}
use Rattle.alias_hir.specs.Parts.{apply_arg_places}
use Rattle.alias_visit.proofs.parts.push_apply_args.Given as goal

abbrev pub invariant-loop-arg : goal.invariant-loop-arg
invariant-loop-arg l = l.places.items ≡ l.initial.places.items ++ flat_map apply_arg_places (take l.arg-index l.args)
