-- What is handed out of a unit: solutions, what carries them, and what they were solved over.
use Rattle.std.specs.Prelude.{◌≡◌, List, [], ◌∷◌, ◌++◌, Some, None, map}
use Rattle.std.specs.List.{AllByRecursion}
use Rattle.alias_hir.specs.declared.env.Unit.{Unit as HirUnit}
use Rattle.alias_nested.specs.Analysis.{Analysed, SolvesItsFlow}
use Rattle.alias_nested.specs.Order.{functions_of}
use Rattle.alias_nested.specs.Units.{UnitAnalysis}
use Rattle.alias_nested.specs.declared.infer.Inferred.{Inferred}
use Rattle.alias_answer_laws.specs.order.Order.{nested_innermost_first}
use Rattle.alias_inferred_laws.specs.handed.Handed.{EarlierStay}
use Rattle.alias_inferred_laws.specs.inferred.Solutions.{SolutionsAreCarried}
use Rattle.alias_cause_laws.specs.handed.Captures.{CreatedAreSummarized}
use Rattle.alias_cause_laws.specs.handed.Carried.{NoMoreIsCarried}
use Rattle.alias_cause_laws.specs.handed.Seen.{EachLooksAsHanded}
use Rattle.alias_cause_laws.specs.handed.Solving.{EachSolvesOver}
use Rattle.alias_cause_laws.specs.handed.Spans.{ParamsStay}
use Rattle.alias_cause_laws.specs.handed.Tables.{DeclareAsGiven}

-- Each function of the unit once, innermost first, and last the root: what is handed out of each solves its flow as
-- its effects pass began. It carries the effects of its solution, and no others. Over what its flow is solved is in
-- what is handed out: the tables declare what the unit given does, and the temporaries of the solutions before; and
-- the functions before it stand there with their summaries, and their parameters with their ranges; and of those that
-- it creates the context places were captured that their summaries capture or mutate, and no others. So to its effects
-- pass the environment looked like one that is computed of what is handed out alone, and over that one its flow is
-- solved.
pub record IsHandedOut (u : HirUnit) (a : UnitAnalysis) : Type 0 where
  pub solutions : map (λ (x : Analysed). x.solved) a.functions ≡ a.inferred.solved
  pub order : functions_of a.inferred.solved ≡ map Some (nested_innermost_first u) ++ None ∷ []
  pub solve : AllByRecursion SolvesItsFlow a.functions
  pub carry : SolutionsAreCarried a
  pub alone : NoMoreIsCarried a
  pub declare : DeclareAsGiven u a
  pub earlier : EarlierStay a
  pub params : ParamsStay a
  pub captures : CreatedAreSummarized a
  pub looks : EachLooksAsHanded a
  pub over : EachSolvesOver a

-- so it is of some functions, as their effects passes began
abbrev pub IsInferredInOrder : HirUnit → Inferred → Type 0
IsInferredInOrder u i = (fs : List Analysed) × IsHandedOut u (record { functions = fs; inferred = i })
