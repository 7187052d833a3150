use Rattle.std.proofs.Common.{◌≡◌, ◌∙◌, ◌-◌, suc, Err, ap, sym, rules, arith}
use Rattle.std.specs.Prelude.{Option}
use Rattle.alias_hir.specs.declared.place.Place.{Place}
use Rattle.alias_validate.proofs.Walking.{walked_none, walked_ok, walked_fails, ended_with}
use Rattle.alias_validate.proofs.reassigning.+reassigned.Goals as goal

pub get_context_reassignment-returns-then-levels-eq0 : goal.get_context_reassignment-returns-then-levels-eq0
get_context_reassignment-returns-then-levels-eq0 t c =
    let none : c.args.levels ≡ 0 = omega arith in
    walked_none c.args.env.now c.args.is_function_expression c.args.is_async c.args.func.now c.args.shared.now
    c.args.levels none

pub get_context_reassignment-returns-in_err-outcome : goal.get_context_reassignment-returns-in_err-outcome
get_context_reassignment-returns-in_err-outcome t c =
    let more : c.args.levels ≡ suc (c.args.levels - 1) = omega arith in
    let same : c.from_residual.result ≡ Err c.in_err-outcome.field-0.0 = search rules in
    walked_fails c.args.env.now c.args.is_function_expression c.args.is_async c.args.func.now c.args.shared.now
    c.args.levels _ _ more c.new-marks.ensures c.walk_blocks.new.shared c.in_err-outcome.field-0.0 _ same
    c.in_err-outcome.ensures

pub get_context_reassignment-returns : goal.get_context_reassignment-returns
get_context_reassignment-returns t c =
    let more : c.args.levels ≡ suc (c.args.levels - 1) = omega arith in
    walked_ok c.args.env.now c.args.is_function_expression c.args.is_async c.args.func.now c.args.shared.now
    c.args.levels _ _ more c.new-marks.ensures _ _ _ c.in_ok-outcome.ensures
    ∙ ap (λ (p : Option Place). ended_with c.walk_blocks.new.shared p) (sym c.place_of.ensures)
