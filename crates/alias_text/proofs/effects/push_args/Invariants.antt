use Rattle.std.proofs.Common.{◌≡◌, ◌++◌, take}
use Rattle.std.specs.List.{flat_map}
use Rattle.alias_text.specs.Lines.{arg_text}
use Rattle.alias_text.proofs.effects.push_args.Given as goal

abbrev pub invariant-loop-arg : goal.invariant-loop-arg
invariant-loop-arg l = l.out ≡ l.initial.out ++ flat_map arg_text (take l.arg-index l.args)
