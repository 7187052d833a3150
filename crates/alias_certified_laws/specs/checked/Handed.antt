-- The solutions of a certificate that is accepted, over the unit that is handed out.
use Rattle.std.specs.Prelude.{◌≡◌, List, [], ◌∷◌, ◌++◌, Option, Some, None, Result, Ok, Err, ⊤, map}
use Rattle.std.specs.List.{AllByRecursion}
use Rattle.alias_base.specs.declared.ids.FunctionId.{FunctionId}
use Rattle.alias_hir.specs.declared.env.Environment.{Environment}
use Rattle.alias_hir.specs.declared.env.Unit.{Unit as HirUnit}
use Rattle.alias_graph.specs.Walks.{IsOneOf}
use Rattle.alias_rules.specs.Functions.{rules_hold}
use Rattle.alias_nested.specs.Order.{functions_of, SameInSlot}
use Rattle.alias_answer_laws.specs.order.Order.{nested_innermost_first}
use Rattle.alias_certificate.specs.declared.certificate.CertFunction.{CertFunction}
use Rattle.alias_certificate.specs.declared.fault.CheckFault.{CheckFault}
use Rattle.alias_cert.specs.declared.check.Accepted.{Accepted}
use Rattle.alias_cert.specs.Functions.{CheckedFunction, SolvesItsFlow, AreAsSaid}
use Rattle.alias_cert.specs.Units.{Accepts}
use Rattle.alias_certified_laws.specs.checked.Carried.{BeginAsGiven, SolutionsAreCarried, NoMoreIsCarried}

-- the number of each function that was checked; None is the root
abbrev pub names_of : List CheckedFunction → List (Option FunctionId)
names_of xs = map (λ (x : CheckedFunction). x.solved.function) xs

-- the function of the number is one of those that were checked
abbrev pub IsNamed : FunctionId → List CheckedFunction → Type 0
IsNamed id xs = IsOneOf (Some id) (names_of xs)

-- A function that was checked before another stands in the unit that is handed out as the check of the other one found
-- it: all of it, its summary and its parameters among it, but for the effects of its context places.
abbrev pub EarlierStay : List CheckedFunction → Environment → Type 0
EarlierStay fs env = (xs ys : List CheckedFunction) (x : CheckedFunction) (id : FunctionId) → fs ≡ xs ++ x ∷ ys
    → IsNamed id xs → SameInSlot x.env env id.0

-- Each function of the unit once, innermost first, and last the root: what is handed out of each solves its flow as the
-- check of it begins, it enters its blocks as the certificate says, and those that were checked before it stand as its
-- check found them. In the unit that is handed out it is the function of the unit given that carries the effects of its
-- solution, and no others.
pub record IsAcceptedInOrder (certificate : List CertFunction) (u : HirUnit) (a : Accepted) : Type 0 where
  pub functions : List CheckedFunction
  pub solutions : map (λ (x : CheckedFunction). x.solved) functions ≡ a.solved
  pub order : functions_of a.solved ≡ map Some (nested_innermost_first u) ++ None ∷ []
  pub solve : AllByRecursion SolvesItsFlow functions
  pub said : AreAsSaid certificate functions
  pub earlier : EarlierStay functions a.unit.env
  pub given : BeginAsGiven u functions
  pub carry : SolutionsAreCarried functions a.unit
  pub alone : NoMoreIsCarried functions a.unit

-- so it is of what is accepted
abbrev pub AcceptsInOrder : List CertFunction → HirUnit → Result Accepted CheckFault → Type 0
AcceptsInOrder certificate u (Ok a) = IsAcceptedInOrder certificate u a
AcceptsInOrder certificate u (Err e) = ⊤

-- so each answer of a check is, where the unit is well formed
abbrev pub ChecksInOrder : Type 0
ChecksInOrder = (certificate : List CertFunction) (u : HirUnit) (answer : Result Accepted CheckFault)
    → rules_hold u ≡ Ok tt → Accepts certificate u answer → AcceptsInOrder certificate u answer
