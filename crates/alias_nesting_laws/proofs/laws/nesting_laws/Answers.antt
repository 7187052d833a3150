use Rattle.alias_nesting_laws.specs.NestingLaws.{taken_out_fits}
use Rattle.alias_nesting_laws.specs.SlotLaws.{created_exists}
use Rattle.alias_nesting_laws.proofs.laws.nesting_laws.Goals as goal

pub returns : goal.returns
returns c = record {
  created_exists = λ holder id. created_exists c.args.env.now holder id;
  taken_out_fits = λ holder f stand_in id. taken_out_fits c.args.env.now holder f stand_in id;
}
