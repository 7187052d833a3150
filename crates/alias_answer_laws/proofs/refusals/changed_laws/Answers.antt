use Rattle.alias_answer_laws.proofs.refusals.Refusing.{never_unknown}
use Rattle.alias_answer_laws.proofs.refusals.changed_laws.Goals as goal

pub returns : goal.returns
returns c = record { known = λ keeps_all n fs e h. never_unknown keeps_all n c.args.func.now c.args.env.now fs e h }
