use Rattle.alias_answer_laws.proofs.order.Innermost.{order_innermost}
use Rattle.alias_answer_laws.proofs.order.Solving.{solved_in_order}
use Rattle.alias_answer_laws.proofs.order.Unit.{order_once, order_past}
use Rattle.alias_answer_laws.proofs.order.order_laws.Goals as goal

pub returns-clause-solved : goal.returns-clause-solved
returns-clause-solved c = λ u a rules h. solved_in_order u a rules h

pub returns-clause-once : goal.returns-clause-once
returns-clause-once c = λ u k rules there. order_once u rules k there

pub returns-clause-only : goal.returns-clause-only
returns-clause-only c = λ u k rules past. order_past u rules k past

pub returns-clause-innermost : goal.returns-clause-innermost
returns-clause-innermost c = λ u xs ys k j rules e h. order_innermost u rules xs ys k j e h
