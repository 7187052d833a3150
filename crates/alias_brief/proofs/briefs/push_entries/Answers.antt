use Rattle.std.proofs.Common.{refl, arith}
use Rattle.alias_brief.specs.Briefs.{entry_text, blocks_from}
use Rattle.alias_brief.specs.Fitting.{FittingBlock, FittingFrom}
use Rattle.alias_brief.proofs.Listing.{next_item, next_fits, all_fit}
use Rattle.alias_brief.proofs.briefs.push_entries.Goals as goal

pub loop-position-init : goal.loop-position-init
loop-position-init c = (refl, λ h. h)

pub loop-position-preserved : goal.loop-position-preserved
loop-position-preserved c =
    let func = c.args.func.now in
    let ys = c.args.beyond.now in
    let xs = c.args.entries.now in
    let i = c.loop-position.position in (
      next_item (entry_text func) (blocks_from func ys) ys (λ i x xs. refl) xs i _ _ _ _ _ c.loop-position-test.true
          c.index-entries-position.is c.get.ensures c.loop-position.invariant.0 c.in_ok-push_entry.ensures.text,
      next_fits (FittingBlock func) (FittingFrom func ys) ys (FittingFrom func ys 0 xs) (λ i x xs h g. (h, g)) xs i _ _
          c.loop-position-test.true c.index-entries-position.is c.get.ensures c.in_ok-push_entry.ensures.fits
          c.loop-position.invariant.1,
    )

pub returns-clause-fits : goal.returns-clause-fits
returns-clause-fits c =
    let func = c.args.func.now in
    let ys = c.args.beyond.now in
    let xs = c.args.entries.now in
    all_fit (FittingFrom func ys) (FittingFrom func ys 0 xs) xs c.loop-position.position
    (omega (arith, c.loop-position-test.false)) tt c.loop-position.invariant.1
