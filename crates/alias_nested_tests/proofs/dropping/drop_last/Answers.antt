use Rattle.std.proofs.Common.{◌≡◌, true, sym, subst, ◌∙◌}
use Rattle.alias_hir.specs.declared.hir.HirFunction.{HirFunction}
use Rattle.alias_inner_passes.specs.Passes.{Keeps}
use Rattle.alias_inner_passes.proofs.PassLaws.{keeps_unchanged}
use Rattle.alias_rules.specs.Fitting.{function_fits}
use Rattle.alias_nested_tests.specs.DroppingLaws.{front_keeps, listed_back}
use Rattle.alias_nested_tests.proofs.dropping.drop_last.Goals as goal

-- the function without its last instruction is taken
pub returns-in-Ok-true : goal.returns-in-Ok-true
returns-in-Ok-true c =
    let fewer = c.listing-before.ensures.func in
    let fits = subst (λ (g : HirFunction). function_fits g c.args.env.now ≡ true) fewer
    (sym c.in-Ok-true.ensures ∙ c.in-Ok-true.field-0-test) in
    subst (λ (g : HirFunction). Keeps c.args.func.now c.args.env.now g c.args.env.now) (sym fewer)
    (front_keeps c.in_ok-listed.listed c.args.func.now c.args.env.now c.in_ok-listed.ensures fits)

-- it isn't, and what was dropped is put back
pub returns-in-Ok-false : goal.returns-in-Ok-false
returns-in-Ok-false c =
    let back = listed_back c.in_ok-listed.listed c.listing-before.result c.args.func.now c.listing-before.new.func
    c.listing.new.func c.listing-before.ensures.func c.listing-before.ensures.before c.listing.ensures.func in
    subst (λ (g : HirFunction). Keeps c.args.func.now c.args.env.now g c.args.env.now) (sym back)
    (keeps_unchanged c.args.func.now c.args.env.now c.requires)

pub returns-in-Err : goal.returns-in-Err
returns-in-Err c =
    let back = listed_back c.in_ok-listed.listed c.listing-before.result c.args.func.now c.listing-before.new.func
    c.listing-in-Err.new.func c.listing-before.ensures.func c.listing-before.ensures.before
    c.listing-in-Err.ensures.func in
    subst (λ (g : HirFunction). Keeps c.args.func.now c.args.env.now g c.args.env.now) (sym back)
    (keeps_unchanged c.args.func.now c.args.env.now c.requires)
