use Rattle.std.proofs.Common.{◌≡◌, ◌-◌, suc, arith}
use Rattle.alias_lint.proofs.lines.Walking.{walked_none, walked}
use Rattle.alias_lint.proofs.lines.reassigned.+reassignment.Goals as goal

pub reassignment-returns-then-levels-eq0 : goal.reassignment-returns-then-levels-eq0
reassignment-returns-then-levels-eq0 t c =
    let none : c.args.levels ≡ 0 = omega arith in
    walked_none c.args.env.now c.args.is_function_expression c.args.name c.args.is_async c.args.func.now
    c.args.shared.now c.args.lints.now c.args.levels none

pub reassignment-returns : goal.reassignment-returns
reassignment-returns t c =
    let more : c.args.levels ≡ suc (c.args.levels - 1) = omega arith in
    walked c.args.env.now c.args.is_function_expression c.args.name c.args.is_async c.args.func.now c.args.shared.now
    c.args.lints.now c.args.levels (c.args.levels - 1) _ c.walk_blocks.new.marks c.walk_blocks.new.shared
    c.walk_blocks.new.lints
    more c.new-marks.ensures c.walk_blocks.result c.walk_blocks.ensures
