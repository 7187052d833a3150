use Rattle.alias_made_result_laws.specs.plain.PlainLaws.{made_is_plain}
use Rattle.alias_made_result_laws.specs.plain.ForwardLaws.{made_is_forward}
use Rattle.alias_made_result_laws.proofs.plain.made_unit_is_plain.Goals as goal

pub returns : goal.returns
returns c = record { plain = made_is_plain c.args.seed c.args.size; forward = made_is_forward c.args.seed c.args.size }
