-- The line that says whether a unit is plain, and the line of a refusal to say it.
use Rattle.std.specs.Prelude.{ℕ, List, [], ◌++◌, codes, Option}
use Rattle.alias_base.specs.declared.ids.FunctionId.{FunctionId}
use Rattle.alias_hir.specs.declared.error.Counter.{Counter}
use Rattle.alias_text.specs.Lines.{spaced, function_name}
use Rattle.alias_text.specs.Refusals.{counter_word}
use Rattle.alias_plain.specs.declared.laws.answer.Plainness.{Plainness}
use Rattle.alias_plain.specs.declared.laws.answer.Plainness.TheVariants.{Plain, NotPlain}
use Rattle.alias_plain.specs.declared.laws.answer.PlainFault.{PlainFault}
use Rattle.alias_plain.specs.declared.laws.answer.PlainFault.TheVariants as fault

-- the function, the instruction and the number of the condition, where there is one
abbrev pub plainness_text : Plainness → List ℕ
plainness_text Plain = codes "plain\n"
plainness_text (NotPlain f i rule) = codes "not plain " ++ function_name f ++ spaced i.0 ++ spaced rule ++ codes "\n"

-- what is refused, and its cause
abbrev pub refused_head : List ℕ → List ℕ → List ℕ
refused_head name cause = codes "refused " ++ name ++ codes " " ++ cause ++ codes " "

-- a refusal whose cause is in a function, or a counter
abbrev pub function_text : List ℕ → List ℕ → Option FunctionId → List ℕ
function_text name cause f = refused_head name cause ++ function_name f ++ codes "\n"

abbrev pub counter_text : List ℕ → List ℕ → Counter → List ℕ
counter_text name cause which = refused_head name cause ++ counter_word which ++ codes "\n"

-- out of memory has no line
abbrev pub plain_refusal_text : PlainFault → List ℕ
plain_refusal_text (fault.NotSettled f) = function_text (codes "PlainRefused") (codes "NotSettled") f
plain_refusal_text (fault.TooMany which) = counter_text (codes "PlainRefused") (codes "TooMany") which
plain_refusal_text (fault.Memory e) = []
