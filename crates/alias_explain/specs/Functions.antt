-- What is explained of all identifiers of a function.
use Rattle.std.specs.Prelude.{◌≡◌, ℕ, List, [], ◌∷◌, ◌++◌, length, Option, Some, None, Result, Ok, Err}
use Rattle.std.specs.List.{range_with_len}
use Rattle.alias_base.specs.Answer.{◌>>=◌}
use Rattle.alias_base.specs.declared.ids.FunctionId.{FunctionId}
use Rattle.alias_base.specs.declared.ids.IdentifierId.{IdentifierId}
use Rattle.alias_hir.specs.declared.env.Unit.{Unit as HirUnit}
use Rattle.alias_hir.specs.declared.hir.HirFunction.{HirFunction}
use Rattle.alias_explain.specs.declared.explain.Explanation.{Explanation}
use Rattle.alias_explain.specs.declared.explain.ExplainFault.{ExplainFault}
use Rattle.alias_explain.specs.declared.explain.ExplainFault.TheVariants.{NotHere, TooMany, Memory}
use Rattle.alias_explain.specs.declared.function.IdentifierExplanation.{IdentifierExplanation}
use Rattle.alias_explain.specs.Explanations.{explained, function_of}

abbrev pub numbered : ℕ → IdentifierId
numbered n = record { 0 = n }

-- an explanation, or none where the identifier doesn't stand there
abbrev pub if_here : Result Explanation ExplainFault → Result (Option Explanation) ExplainFault
if_here (Ok e) = Ok (Some e)
if_here (Err NotHere) = Ok None
if_here (Err (TooMany which)) = Err (TooMany which)
if_here (Err (Memory e)) = Err (Memory e)

abbrev pub with_found : List IdentifierExplanation → IdentifierId → Option Explanation → List IdentifierExplanation
with_found found id None = found
with_found found id (Some e) = found ++ record { identifier = id; explanation = e } ∷ []

-- after what was found, each of these identifiers that stands in the function
abbrev pub each_explained : HirUnit → Option FunctionId → List IdentifierExplanation → List ℕ
    → Result (List IdentifierExplanation) ExplainFault
each_explained u function found [] = Ok found
each_explained u function found (n ∷ ns) = do
  e ← if_here (explained u function (numbered n))
  each_explained u function (with_found found (numbered n) e) ns

abbrev pub explained_there : HirUnit → Option FunctionId → Option HirFunction
    → Result (List IdentifierExplanation) ExplainFault
explained_there u function None = Err NotHere
explained_there u function (Some f) = each_explained u function [] (range_with_len 0 (length u.env.identifiers))

-- each identifier that stands in the function, in ascending order, with why its range ends where it does
abbrev pub function_explained : HirUnit → Option FunctionId → Result (List IdentifierExplanation) ExplainFault
function_explained u function = explained_there u function (function_of u function)

-- it is what is explained of that identifier alone
abbrev pub IsExplanationOf : HirUnit → Option FunctionId → IdentifierExplanation → Type 0
IsExplanationOf u function x = explained u function x.identifier ≡ Ok x.explanation
