use Rattle.alias_made_result_laws.specs.counts.MadeCounts.{never_too_many, made_is_inferred}
use Rattle.alias_made_result_laws.proofs.counts.made_unit_is_inferred.Goals as goal

pub returns : goal.returns
returns c = record {
  counted = λ limit which. never_too_many c.args.seed c.args.size limit which;
  inferred = λ some limit. made_is_inferred c.args.seed c.args.size limit some;
}
