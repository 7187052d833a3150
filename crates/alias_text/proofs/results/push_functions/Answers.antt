use Rattle.std.proofs.Common.{arith}
use Rattle.alias_lattice.proofs.CoverLemmas.{all_more}
use Rattle.alias_text.specs.Fitting.{FittingSolved}
use Rattle.alias_text.specs.Results.{function_text}
use Rattle.alias_text.proofs.Fits.{all_taken, if_both, if_one, text_more}
use Rattle.alias_text.proofs.results.push_functions.Goals as goal

pub loop-of_function-preserved : goal.loop-of_function-preserved
loop-of_function-preserved c =
    let l = c.loop-of_function in
    let xs = c.args.solved.now in
    let x = c.of_function-item.result in (
      text_more (function_text c.args.detail c.args.unit.now c.args.summary.now) xs l.of_function-index x l.out
          c.push_function.new.out c.args.out.now c.loop-of_function-test.true c.of_function-item.is l.invariant.0
          c.in_ok-push_function.ensures.text,
      if_both (all_more (FittingSolved c.args.unit.now) xs l.of_function-index x c.loop-of_function-test.true
          c.of_function-item.is) c.args.detail l.invariant.1 c.in_ok-push_function.ensures.fits,
    )

pub returns-clause-fits : goal.returns-clause-fits
returns-clause-fits c =
    if_one (all_taken (FittingSolved c.args.unit.now) c.args.solved.now c.loop-of_function.of_function-index
    (omega (arith, c.loop-of_function-test.false))) c.args.detail c.loop-of_function.invariant.1
