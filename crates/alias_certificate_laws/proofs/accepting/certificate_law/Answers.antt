-- A certificate that says a solution is accepted.
use Rattle.alias_rules.specs.RuleLaws.{fitting_entry}
use Rattle.alias_certificate_laws.proofs.accepting.Certifying.{accepted_as_said}
use Rattle.alias_certificate_laws.proofs.accepting.certificate_law.Goals as goal

pub returns : goal.returns
returns c =
    λ tables entries recorded s.
    accepted_as_said c.args.env.now c.args.func.now c.args.is_function_expression
    (fitting_entry c.args.func.now c.args.env.now c.requires) tables entries recorded s
