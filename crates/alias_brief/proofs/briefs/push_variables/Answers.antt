use Rattle.std.proofs.Common.{arith}
use Rattle.alias_lattice.proofs.CoverLemmas.{all_more}
use Rattle.alias_text.proofs.Fits.{all_taken, text_more}
use Rattle.alias_brief.specs.Briefs.{beyond_variable}
use Rattle.alias_brief.specs.Fitting.{SmallMoreVariable}
use Rattle.alias_brief.proofs.briefs.push_variables.Goals as goal

pub loop-variable-preserved : goal.loop-variable-preserved
loop-variable-preserved c =
    let l = c.loop-variable in
    let xs = c.args.variables.now in
    let x = c.variable-item.result in (
      text_more beyond_variable xs l.variable-index x l.out c.push_variable.new.out c.args.out.now c.loop-variable-test.true
          c.variable-item.is l.invariant.0 c.in_ok-push_variable.ensures.text,
      all_more SmallMoreVariable xs l.variable-index x c.loop-variable-test.true c.variable-item.is l.invariant.1
          c.in_ok-push_variable.ensures.fits,
    )

pub returns-clause-fits : goal.returns-clause-fits
returns-clause-fits c = all_taken SmallMoreVariable c.args.variables.now c.loop-variable.variable-index
    (omega (arith, c.loop-variable-test.false)) c.loop-variable.invariant.1
