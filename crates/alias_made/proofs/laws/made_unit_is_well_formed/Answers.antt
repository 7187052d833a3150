use Rattle.alias_made.specs.laws.MadeLaws.{made_unit_keeps_rules}
use Rattle.alias_made.proofs.laws.made_unit_is_well_formed.Goals as goal

pub returns : goal.returns
returns c = made_unit_keeps_rules c.args.seed c.args.size c.requires.some c.requires.limit
