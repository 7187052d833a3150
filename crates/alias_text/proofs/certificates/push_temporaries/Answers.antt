use Rattle.std.proofs.Common.{arith}
use Rattle.alias_lattice.proofs.CoverLemmas.{all_more}
use Rattle.alias_text.specs.Certificates.{temporary_line}
use Rattle.alias_text.specs.Fitting.{SmallTemporary}
use Rattle.alias_text.proofs.Fits.{all_taken, text_more}
use Rattle.alias_text.proofs.certificates.push_temporaries.Goals as goal

pub loop-temporary-preserved : goal.loop-temporary-preserved
loop-temporary-preserved c =
    let l = c.loop-temporary in
    let xs = c.args.temporaries.now in
    let x = c.temporary-item.result in (
      text_more temporary_line xs l.temporary-index x l.out c.push_temporary_line.new.out c.args.out.now
          c.loop-temporary-test.true c.temporary-item.is l.invariant.0 c.in_ok-push_temporary_line.ensures.text,
      all_more SmallTemporary xs l.temporary-index x c.loop-temporary-test.true c.temporary-item.is l.invariant.1
          c.in_ok-push_temporary_line.ensures.fits,
    )

pub returns-clause-fits : goal.returns-clause-fits
returns-clause-fits c = all_taken SmallTemporary c.args.temporaries.now c.loop-temporary.temporary-index
    (omega (arith, c.loop-temporary-test.false)) c.loop-temporary.invariant.1
