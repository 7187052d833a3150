use Rattle.alias_text.specs.Fitting.{Small, SmallBlock, FittingState, FittingEntry}
use Rattle.alias_base.specs.Find.{value_at}
use Rattle.alias_text.proofs.Fits.{if_both, if_so}
use Rattle.alias_text.proofs.results.push_entry.Goals as goal

pub returns-clause-fits : goal.returns-clause-fits
returns-clause-fits c =
    let func = c.args.func.now in
    let e = c.args.entry.now in
    let fits : FittingState e.state → Small e.block.0 × SmallBlock (value_at func.body.blocks e.block)
    → FittingEntry func e =
    λ state rest. record { block = rest.0; state = state; instructions = rest.1 } in
    if_both fits c.args.detail c.in_ok-push_entry_state.ensures.fits
    (if_so c.args.detail (c.in_ok-push_block_head.ensures.fits, c.in_ok-push_block_lines.ensures.fits))
