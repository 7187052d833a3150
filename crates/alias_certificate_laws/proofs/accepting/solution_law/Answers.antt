-- Entry states that solve the flow are accepted.
use Rattle.alias_rules.specs.RuleLaws.{fitting_entry}
use Rattle.alias_certificate_laws.proofs.accepting.Solutions.{accepted_under}
use Rattle.alias_certificate_laws.proofs.accepting.solution_law.Goals as goal

pub returns : goal.returns
returns c = λ tables entries s. accepted_under c.args.env.now c.args.func.now c.args.is_function_expression
    (fitting_entry c.args.func.now c.args.env.now c.requires) tables entries s
