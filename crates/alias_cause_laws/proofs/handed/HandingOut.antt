-- What is handed out of a unit that is well formed.
use Rattle.std.specs.Prelude.{◌≡◌, Ok, map, refl}
use Rattle.std.specs.List.{AllByRecursion}
use Rattle.std.proofs.Common.{subst}
use Rattle.alias_hir.specs.declared.env.Unit.{Unit as HirUnit}
use Rattle.alias_nested.specs.Analysis.{Analysed, SolvesItsFlow}
use Rattle.alias_nested.specs.Units.{UnitAnalysis, unit_analysed, InfersUnit}
use Rattle.alias_nested.specs.declared.infer.Inferred.{Inferred}
use Rattle.alias_rules.specs.Functions.{rules_hold}
use Rattle.alias_answer_laws.proofs.order.Solving.{solved_in_order}
use Rattle.alias_inferred_laws.proofs.handed.Handing.{earlier_stay}
use Rattle.alias_inferred_laws.proofs.inferred.Carrying.{solutions_carried}
use Rattle.alias_inferred_laws.proofs.inferred.Rooting.{root_begun}
use Rattle.alias_cause_laws.proofs.handed.Capturing.{created_summarized}
use Rattle.alias_cause_laws.proofs.handed.Carrying.{none_carry_more}
use Rattle.alias_cause_laws.proofs.handed.Looking.{each_looks}
use Rattle.alias_cause_laws.proofs.handed.Solving.{each_solves_over}
use Rattle.alias_cause_laws.proofs.handed.Spanning.{params_stay}
use Rattle.alias_cause_laws.proofs.handed.Tabling.{declare_as_given}
use Rattle.alias_cause_laws.specs.handed.HandedOut.{IsHandedOut, IsInferredInOrder}
use Rattle.alias_cause_laws.specs.handed.Seen.{EachLooksAsHanded}

-- the solutions that are handed out are those of the functions that were analysed
solutions_handed : (u : HirUnit) (a : UnitAnalysis) → unit_analysed u ≡ Ok a
    → map (λ (x : Analysed). x.solved) a.functions ≡ a.inferred.solved
solutions_handed u a is =
    let b = root_begun u a is in
    subst (λ (z : UnitAnalysis). map (λ (x : Analysed). x.solved) z.functions ≡ z.inferred.solved) b.out refl

pub looks_as_handed : (u : HirUnit) (a : UnitAnalysis) → rules_hold u ≡ Ok tt → unit_analysed u ≡ Ok a
    → EachLooksAsHanded a
looks_as_handed u a rules is =
    each_looks u a (declare_as_given u a is) (created_summarized u a rules is) (params_stay u a rules is)

pub handed_out : (u : HirUnit) (a : UnitAnalysis) → rules_hold u ≡ Ok tt → unit_analysed u ≡ Ok a
    → AllByRecursion SolvesItsFlow a.functions → IsHandedOut u a
handed_out u a rules is solve = record {
  solutions = solutions_handed u a is;
  order = solved_in_order u a rules is;
  solve = solve;
  carry = solutions_carried u a rules is;
  alone = none_carry_more u a rules is;
  declare = declare_as_given u a is;
  earlier = earlier_stay u a rules is;
  params = params_stay u a rules is;
  captures = created_summarized u a rules is;
  looks = looks_as_handed u a rules is;
  over = each_solves_over u a rules is (looks_as_handed u a rules is) solve;
}

-- what a call hands out that infers the unit
pub inferred_in_order : (u : HirUnit) (i : Inferred) → rules_hold u ≡ Ok tt → InfersUnit (unit_analysed u) (Ok i)
    → IsInferredInOrder u i
inferred_in_order u i rules p = (p.0, handed_out u (record { functions = p.0; inferred = i }) rules p.1 p.2)
