use Rattle.std.proofs.Common.{arith}
use Rattle.alias_lattice.proofs.CoverLemmas.{all_more}
use Rattle.alias_text.specs.Fitting.{FittingEntry}
use Rattle.alias_text.specs.Results.{entry_text}
use Rattle.alias_text.proofs.Fits.{all_taken, if_both, if_one, text_more}
use Rattle.alias_text.proofs.results.push_entries.Goals as goal

pub loop-entry-preserved : goal.loop-entry-preserved
loop-entry-preserved c =
    let l = c.loop-entry in
    let xs = c.args.entries.now in
    let x = c.entry-item.result in (
      text_more (entry_text c.args.detail c.args.func.now) xs l.entry-index x l.out c.push_entry.new.out c.args.out.now
          c.loop-entry-test.true c.entry-item.is l.invariant.0 c.in_ok-push_entry.ensures.text,
      if_both (all_more (FittingEntry c.args.func.now) xs l.entry-index x c.loop-entry-test.true c.entry-item.is)
          c.args.detail l.invariant.1 c.in_ok-push_entry.ensures.fits,
    )

pub returns-clause-fits : goal.returns-clause-fits
returns-clause-fits c =
    if_one (all_taken (FittingEntry c.args.func.now) c.args.entries.now c.loop-entry.entry-index
    (omega (arith, c.loop-entry-test.false))) c.args.detail c.loop-entry.invariant.1
