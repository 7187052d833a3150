use Rattle.alias_brief_laws.proofs.Printed.{printed_accepted}
use Rattle.alias_brief_laws.proofs.laws.brief_accepted.Goals as goal

pub returns : goal.returns
returns c = λ u rules fits. printed_accepted c.args.solved.now u c.args.text.now fits rules c.states_known.ensures
    c.briefs_read_back.ensures c.utf8.text
