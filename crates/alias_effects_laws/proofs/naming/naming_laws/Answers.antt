use Rattle.alias_effects_laws.specs.naming.PassLaws.{tested_names}
use Rattle.alias_effects_laws.proofs.naming.naming_laws.Goals as goal

pub returns : goal.returns
returns c = λ has b e fresh places i. tested_names c.args.env.now c.args.func.now has b e fresh places i
