use Rattle.std.proofs.Common.{◌≡◌, ◌++◌, take}
use Rattle.std.specs.List.{AllByRecursion}
use Rattle.alias_text.specs.Lines.{listed_lines}
use Rattle.alias_text.specs.Fitting.{SmallInstruction}
use Rattle.alias_text.proofs.functions.push_instructions.Given as goal

abbrev pub invariant-loop-id : goal.invariant-loop-id
invariant-loop-id l = (l.out ≡ l.initial.out ++ listed_lines l.instructions (take l.id-index l.ids))
    × AllByRecursion SmallInstruction (take l.id-index l.ids)
