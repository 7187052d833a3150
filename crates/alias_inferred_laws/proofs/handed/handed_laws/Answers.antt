use Rattle.alias_inferred_laws.proofs.handed.Handing.{earlier_stay, solved_over}
use Rattle.alias_inferred_laws.proofs.handed.handed_laws.Goals as goal

pub returns-clause-earlier : goal.returns-clause-earlier
returns-clause-earlier c = λ a rules h. earlier_stay c.args.unit.now a rules h

pub returns-clause-solved : goal.returns-clause-solved
returns-clause-solved c = λ i rules h. solved_over c.args.unit.now i rules h
