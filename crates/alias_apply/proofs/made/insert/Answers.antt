use Rattle.alias_apply.proofs.MadeKeys.{goes_last, stays}
use Rattle.alias_apply.proofs.made.insert.Goals as goal

pub returns-clause-ok : goal.returns-clause-ok
returns-clause-ok c = goes_last c.args.identifier c.args.set.now.keys c.insert.new.self.keys c.in_ok-insert.ensures.keys

pub returns-clause-there : goal.returns-clause-there
returns-clause-there c = stays c.args.identifier c.args.set.now.keys c.insert.new.self.keys c.in_ok-insert.ensures.keys
