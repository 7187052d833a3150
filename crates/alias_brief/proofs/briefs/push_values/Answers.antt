use Rattle.std.proofs.Common.{arith}
use Rattle.alias_lattice.proofs.CoverLemmas.{all_more}
use Rattle.alias_text.proofs.Fits.{all_taken, text_more}
use Rattle.alias_brief.specs.Briefs.{beyond_value}
use Rattle.alias_brief.specs.Fitting.{FittingMoreValue}
use Rattle.alias_brief.proofs.briefs.push_values.Goals as goal

pub loop-value-preserved : goal.loop-value-preserved
loop-value-preserved c =
    let l = c.loop-value in
    let xs = c.args.values.now in
    let x = c.value-item.result in (
      text_more beyond_value xs l.value-index x l.out c.push_value_line.new.out c.args.out.now c.loop-value-test.true
          c.value-item.is l.invariant.0 c.in_ok-push_value_line.ensures.text,
      all_more FittingMoreValue xs l.value-index x c.loop-value-test.true c.value-item.is l.invariant.1
          c.in_ok-push_value_line.ensures.fits,
    )

pub returns-clause-fits : goal.returns-clause-fits
returns-clause-fits c = all_taken FittingMoreValue c.args.values.now c.loop-value.value-index
    (omega (arith, c.loop-value-test.false)) c.loop-value.invariant.1
