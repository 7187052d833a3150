-- Marks of functions that reassign, and the operands that are checked for them.
use Rattle.std.specs.Prelude.{cond, List, [], ◌∷◌, Option, None, Some, Result, Ok, Err}
use Rattle.std.specs.Option.{option_or}
use Rattle.alias_base.specs.Answer.{◌>>=◌}
use Rattle.alias_base.specs.declared.ids.IdentifierId.{IdentifierId}
use Rattle.alias_hir.specs.Tables.{has_no_alias}
use Rattle.alias_hir.specs.declared.env.Environment.{Environment}
use Rattle.alias_hir.specs.declared.error.InferError.{InferError}
use Rattle.alias_hir.specs.declared.error.InferError.TheVariants.{EffectsNotInferred}
use Rattle.alias_hir.specs.declared.place.Effect.{Effect}
use Rattle.alias_hir.specs.declared.place.Place.{Place}
use Rattle.alias_hir.specs.declared.value.InstructionValue.{InstructionValue}
use Rattle.alias_hir.specs.declared.value.InstructionValue.TheVariants.{CallExpression, MethodCall}
use Rattle.alias_validate.specs.Marking.{is_freeze, is_unknown, mark_of, all_marked}
use Rattle.alias_validate.specs.Walks.{each}
use Rattle.alias_validate.specs.declared.outcome.Shared.{Shared}
use Rattle.alias_validate.specs.declared.outcome.WalkOutcome.{WalkOutcome}
use Rattle.alias_validate.specs.declared.outcome.WalkOutcome.TheVariants.{Continue, End}
use Rattle.alias_visit.specs.Operands.{operands_of}

-- which identifiers hold functions that reassign, each with the place that is reassigned
abbrev pub ReassigningFunctions : Type 0
ReassigningFunctions = List (IdentifierId × Place)

-- the mark of the first place that is marked
abbrev pub first_mark : ReassigningFunctions → List Place → Option Place
first_mark ms [] = None
first_mark ms (p ∷ ps) = option_or (mark_of ms p.identifier) (first_mark ms ps)

-- ---- operands

-- an operand that is frozen ends the walk with its mark; another one marks the lvalues
abbrev pub marked_operand : List IdentifierId → ReassigningFunctions → Effect → Option Place → ReassigningFunctions
    × WalkOutcome
marked_operand lvalues ms effect None = (ms, Continue)
marked_operand lvalues ms effect (Some x) =
    cond (is_freeze effect) (ms, End (Some x)) (all_marked ms lvalues x, Continue)

abbrev pub operand : List IdentifierId → ReassigningFunctions → Place
    → Result (ReassigningFunctions × WalkOutcome) InferError
operand lvalues ms o = cond (is_unknown o.effect) (Err (EffectsNotInferred o.identifier))
    (Ok (marked_operand lvalues ms o.effect (mark_of ms o.identifier)))

-- all operands; only what is called where it keeps nothing of its arguments. A tag is the only operand of its template
abbrev pub checked : Environment → InstructionValue → List Place
checked env (CallExpression callee args) =
    cond (has_no_alias env callee.identifier) (callee ∷ []) (operands_of env (CallExpression callee args))
checked env (MethodCall receiver property args) =
    cond (has_no_alias env property.identifier) (receiver ∷ property ∷ [])
    (operands_of env (MethodCall receiver property args))
checked env v = operands_of env v

-- ---- instructions

-- the marks of the function that is walked, and what all walks share
abbrev pub Seen : Type 0
Seen = ReassigningFunctions × Shared

abbrev pub seen : ReassigningFunctions → Shared → WalkOutcome → Seen × WalkOutcome
seen ms sh o = ((ms, sh), o)

-- an instruction whose operands are checked
abbrev pub other_step : Environment → Seen → List IdentifierId → InstructionValue
    → Result (Seen × WalkOutcome) InferError
other_step env s lvalues v = each (operand lvalues) s.0 (checked env v) >>= (λ r. Ok (seen r.0 s.1 r.1))
