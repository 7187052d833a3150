use Rattle.alias_cause_laws.specs.ends.EndLaws.{ends_stay}
use Rattle.alias_cause_laws.proofs.ends.ends_laws.Goals as goal

pub returns : goal.returns
returns c = λ has l old new k t is causes off. ends_stay has c.args.env.now c.args.func.now l old new k t is causes off
