use Rattle.std.proofs.Common.{subst}
use Rattle.std.specs.List.{AllByRecursion}
use Rattle.alias_base.specs.Answer.{Gives}
use Rattle.alias_hir.specs.declared.env.Unit.{Unit as HirUnit}
use Rattle.alias_plain.specs.laws.Answers.{unit_end, answer_of, is_fault_memory}
use Rattle.alias_plain.specs.laws.FunctionLaws.{NamesDiffer}
use Rattle.alias_plain.specs.laws.UnitLaws.{TellsOf, given_tells}
use Rattle.alias_plain.proofs.plain.plain_unit.Goals as goal

pub returns-clause-answer : goal.returns-clause-answer
returns-clause-answer c = subst (λ (u : HirUnit). Gives is_fault_memory (answer_of (unit_end u)) c.decided.result)
    c.into_unit-unit.ensures.unit c.decided.ensures

pub returns-clause-tells : goal.returns-clause-tells
returns-clause-tells c =
    subst (λ (u : HirUnit). TellsOf u c.decided.result) c.into_unit-unit.ensures.unit
    (given_tells c.into_unit-unit.result c.decided.result c.into_unit-unit.ensures.checked c.names_differ.ensures
    (subst (AllByRecursion NamesDiffer) c.as_slice.ensures c.all_names_differ.ensures) c.decided.ensures)
