-- The certificate of what the pass ends with is accepted.
use Rattle.alias_rules.specs.RuleLaws.{fitting_entry}
use Rattle.alias_certificate_laws.proofs.accepting.Passing.{pass_accepted}
use Rattle.alias_certificate_laws.proofs.accepting.pass_law.Goals as goal

pub returns : goal.returns
returns c = λ w ends names. pass_accepted c.args.env.now c.args.func.now c.args.is_function_expression
    (fitting_entry c.args.func.now c.args.env.now c.requires) w ends names
