use Rattle.alias_text.proofs.Fits.{state_fits}
use Rattle.alias_text.proofs.certificates.push_state.Goals as goal

pub returns-clause-fits : goal.returns-clause-fits
returns-clause-fits c = state_fits c.args.state.now c.recall_proper.ensures c.in_ok-push_values.ensures.fits
    c.in_ok-push_variables.ensures.fits
