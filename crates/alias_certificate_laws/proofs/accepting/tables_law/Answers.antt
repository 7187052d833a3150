-- Entry states that solve the flow are accepted under other tables.
use Rattle.alias_rules.specs.RuleLaws.{fitting_entry}
use Rattle.alias_certificate_laws.proofs.accepting.Solutions.{accepts_anyway}
use Rattle.alias_certificate_laws.proofs.accepting.tables_law.Goals as goal

pub returns : goal.returns
returns c =
    λ tables entries s away begun likes differs claimed.
    accepts_anyway c.args.env.now c.args.func.now c.args.is_function_expression
    (fitting_entry c.args.func.now c.args.env.now c.requires) tables entries s away differs claimed begun likes
