use Rattle.std.proofs.Common.{◌≡◌, drop}
use Rattle.alias_lint.specs.Frozen.{instructions_checked}
use Rattle.alias_lint.proofs.lines.frozen.check_instructions.Given as goal

abbrev pub invariant-loop-id : goal.invariant-loop-id
invariant-loop-id l = instructions_checked l.env l.func l.block (l.initial.marks, l.initial.lints) l.ids
    ≡ instructions_checked l.env l.func l.block (l.marks, l.lints) (drop l.id-index l.ids)
