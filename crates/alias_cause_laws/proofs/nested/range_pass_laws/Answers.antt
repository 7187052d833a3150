use Rattle.alias_cause_laws.proofs.nested.Leaving.{pass_ranges}
use Rattle.alias_cause_laws.proofs.nested.range_pass_laws.Goals as goal

pub returns : goal.returns
returns c = λ b r fits ran. pass_ranges b c.args.func.now c.args.env.now r fits ran
