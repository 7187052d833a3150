use Rattle.std.proofs.Common.{refl, arith, ℕ, List}
use Rattle.std.specs.Prelude.{Option}
use Rattle.alias_effects.specs.declared.solved.Solved.{Solved}
use Rattle.alias_follow.specs.declared.function.follow.FunctionBeyond.{FunctionBeyond}
use Rattle.alias_brief.specs.Briefs.{function_text, functions_from}
use Rattle.alias_brief.specs.Fitting.{FittingIfKnown, FittingFunctions}
use Rattle.alias_brief.proofs.Listing.{next_item, next_fits, all_fit}
use Rattle.alias_brief.proofs.briefs.push_functions.Goals as goal

pub loop-position-init : goal.loop-position-init
loop-position-init c = (refl, λ h. h)

pub loop-position-preserved : goal.loop-position-preserved
loop-position-preserved c =
    let u = c.args.unit.now in
    let summary = c.args.summary.now in
    let ys = c.args.beyond.now in
    let xs = c.args.solved.now in
    let i = c.loop-position.position in
    let text : Option FunctionBeyond → Solved → List ℕ = λ b s. function_text u summary s b in
    let fits : Option FunctionBeyond → Solved → Type 0 = λ b s. FittingIfKnown u s b in (
      next_item text (functions_from u summary ys) ys (λ i x xs. refl) xs i _ _ _ _ _ c.loop-position-test.true
          c.index-solved-position.is c.get.ensures c.loop-position.invariant.0 c.in_ok-push_function.ensures.text,
      next_fits fits (FittingFunctions u ys) ys (FittingFunctions u ys 0 xs) (λ i x xs h g. (h, g)) xs i _ _
          c.loop-position-test.true c.index-solved-position.is c.get.ensures c.in_ok-push_function.ensures.fits
          c.loop-position.invariant.1,
    )

pub returns-clause-fits : goal.returns-clause-fits
returns-clause-fits c =
    let u = c.args.unit.now in
    let ys = c.args.beyond.now in
    let xs = c.args.solved.now in
    all_fit (FittingFunctions u ys) (FittingFunctions u ys 0 xs) xs c.loop-position.position
    (omega (arith, c.loop-position-test.false)) tt c.loop-position.invariant.1
