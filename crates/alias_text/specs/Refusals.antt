-- The lines that are printed of refusals.
use Rattle.std.specs.Prelude.{ℕ, List, [], ◌++◌, codes, Option, None, Some}
use Rattle.alias_base.specs.declared.ids.FunctionId.{FunctionId}
use Rattle.alias_hir.specs.declared.error.InferError.{InferError}
use Rattle.alias_hir.specs.declared.error.InferError.TheVariants as infer
use Rattle.alias_hir.specs.declared.error.Counter.{Counter}
use Rattle.alias_hir.specs.declared.error.Counter.TheVariants as counter
use Rattle.alias_hir.specs.declared.error.Pass.{Pass}
use Rattle.alias_hir.specs.declared.error.Pass.TheVariants.{DeadCodeElimination}
use Rattle.alias_hir.specs.declared.error.Pass.TheVariants.{RewriteInstructionKindsBasedOnReassignment}
use Rattle.alias_hir.specs.declared.error.Pass.TheVariants.{InferReactiveScopeVariables}
use Rattle.alias_rules.specs.function_rules.Fault.{rule_number}
use Rattle.alias_rules.specs.declared.function_rules.fault.Holder.{Holder}
use Rattle.alias_rules.specs.declared.function_rules.fault.Holder.TheVariants as holder
use Rattle.alias_rules.specs.declared.function_rules.fault.Table.{Table}
use Rattle.alias_rules.specs.declared.function_rules.fault.Table.TheVariants.{Identifiers, Types, Functions}
use Rattle.alias_rules.specs.declared.function_rules.fault.Table.TheVariants.{Instructions, Declarations}
use Rattle.alias_rules.specs.declared.function_rules.fault.UnitFault.{UnitFault}
use Rattle.alias_rules.specs.declared.function_rules.fault.UnitFault.TheVariants.{IdOutOfRange, EntryMissing}
use Rattle.alias_rules.specs.declared.function_rules.fault.UnitFault.TheVariants.{SuccessorMissing, NestingNoTree}
use Rattle.alias_rules.specs.declared.function_rules.fault.UnitFault.TheVariants.{NestingTooDeep, TypeTooDeep}
use Rattle.alias_rules.specs.declared.function_rules.fault.UnitFault.TheVariants.{InstructionMissing, InstructionTwice}
use Rattle.alias_rules.specs.declared.function_rules.fault.UnitFault.TheVariants.{TwoTrys, PhiNoPredecessor}
use Rattle.alias_rules.specs.declared.function_rules.fault.UnitFault.TheVariants.{OrderOutOfRange, SomethingInferred}
use Rattle.alias_rules.specs.declared.function_rules.fault.UnitFault.TheVariants.{NotDistinct, IdentifierInTwo, TooMuch}
use Rattle.alias_rules.specs.declared.function_rules.fault.UnitFault.TheVariants.{ContextValues, Memory}
use Rattle.alias_json.specs.declared.fault.TextRule.{TextRule}
use Rattle.alias_json.specs.declared.fault.TextRule.TheVariants.{Missing, Unknown, Kind, Float, Range, Name, Twice}
use Rattle.json.specs.Print.{quoted}
use Rattle.alias_text.specs.Lines.{spaced, function_name}

-- what is refused, and the function
abbrev pub refused_head : List ℕ → Option FunctionId → List ℕ
refused_head name f = codes "refused " ++ name ++ codes " " ++ function_name f

-- a refusal at one number of a function
abbrev pub at_number_text : List ℕ → Option FunctionId → ℕ → List ℕ
at_number_text name f n = refused_head name f ++ spaced n ++ codes "\n"

-- a refusal at two numbers of a function
abbrev pub at_numbers_text : List ℕ → Option FunctionId → ℕ → ℕ → List ℕ
at_numbers_text name f m n = refused_head name f ++ spaced m ++ spaced n ++ codes "\n"

-- the last word of a line
abbrev pub last_word : List ℕ → List ℕ
last_word word = codes " " ++ word ++ codes "\n"

-- a refusal that names one word, or one number, and no function
abbrev pub word_text : List ℕ → List ℕ → List ℕ
word_text name word = codes "refused " ++ name ++ last_word word

-- and one that names two
abbrev pub words_text : List ℕ → List ℕ → List ℕ → List ℕ
words_text name first second = codes "refused " ++ name ++ codes " " ++ first ++ last_word second

abbrev pub number_text : List ℕ → ℕ → List ℕ
number_text name n = codes "refused " ++ name ++ spaced n ++ codes "\n"

-- ---- of the inference

abbrev pub pass_word : Pass → List ℕ
pass_word DeadCodeElimination = codes "DeadCodeElimination"
pass_word RewriteInstructionKindsBasedOnReassignment = codes "RewriteInstructionKindsBasedOnReassignment"
pass_word InferReactiveScopeVariables = codes "InferReactiveScopeVariables"

abbrev pub counter_word : Counter → List ℕ
counter_word counter.Identifiers = codes "Identifiers"
counter_word counter.Diagnostics = codes "Diagnostics"
counter_word counter.GraphPositions = codes "GraphPositions"

abbrev pub pass_fault_text : Option FunctionId → Pass → List ℕ
pass_fault_text f pass = refused_head (codes "PassFault") f ++ last_word (pass_word pass)

-- out of memory has no line
abbrev pub refused_text : InferError → List ℕ
refused_text (infer.NotSettled f visits report) = at_number_text (codes "NotSettled") f visits
refused_text (infer.Uninitialized f b i span report) = at_numbers_text (codes "Uninitialized") f b.0 i.0
refused_text (infer.Reinitialized f k i) = at_numbers_text (codes "Reinitialized") f k.0 i.0
refused_text (infer.AliasBeforeCreate f k i) = at_numbers_text (codes "AliasBeforeCreate") f k.0 i.0
refused_text (infer.IncompatibleLibrary f k report) = at_number_text (codes "IncompatibleLibrary") f k.0
refused_text (infer.SpreadArgument f k span report) = at_number_text (codes "SpreadArgument") f k.0
refused_text (infer.UnreplacedApply k report) = number_text (codes "UnreplacedApply") k.0
refused_text (infer.EffectsNotInferred i) = number_text (codes "EffectsNotInferred") i.0
refused_text (infer.PassFault f pass) = pass_fault_text f pass
refused_text (infer.TooMany which) = word_text (codes "TooMany") (counter_word which)
refused_text (infer.Memory e) = []

-- ---- of units that do not fit, by the number of the rule

abbrev pub table_word : Table → List ℕ
table_word Identifiers = codes "Identifiers"
table_word Types = codes "Types"
table_word Functions = codes "Functions"
table_word Instructions = codes "Instructions"
table_word Declarations = codes "Declarations"

abbrev pub spaced_function : Option FunctionId → List ℕ
spaced_function f = codes " " ++ function_name f

-- what has too much of something
abbrev pub spaced_holder : Holder → List ℕ
spaced_holder (holder.Function f) = spaced_function f
spaced_holder holder.Signature = codes " signature"

-- where the rule is broken
abbrev pub unfit_data : UnitFault → List ℕ
unfit_data (IdOutOfRange t n) = codes " " ++ table_word t ++ spaced n
unfit_data (EntryMissing f) = spaced_function f
unfit_data (SuccessorMissing f b named) = spaced_function f ++ spaced b.0 ++ spaced named.0
unfit_data (NestingNoTree f) = spaced_function f
unfit_data (NestingTooDeep f) = spaced_function f
unfit_data (TypeTooDeep n) = spaced n
unfit_data (InstructionMissing f k) = spaced_function f ++ spaced k.0
unfit_data (InstructionTwice f k) = spaced_function f ++ spaced k.0
unfit_data (TwoTrys f handler) = spaced_function f ++ spaced handler.0
unfit_data (PhiNoPredecessor f b named) = spaced_function f ++ spaced b.0 ++ spaced named.0
unfit_data (OrderOutOfRange f o) = spaced_function f ++ spaced o.0
unfit_data SomethingInferred = []
unfit_data (NotDistinct f i) = spaced_function f ++ spaced i.0
unfit_data (IdentifierInTwo i f) = spaced i.0 ++ spaced_function f
unfit_data (TooMuch h n) = spaced_holder h ++ spaced n
unfit_data (ContextValues f) = spaced_function f
unfit_data (Memory e) = []

abbrev pub unfit_line : UnitFault → Option ℕ → List ℕ
unfit_line fault None = []
unfit_line fault (Some rule) = codes "refused Unfit" ++ spaced rule ++ unfit_data fault ++ codes "\n"

-- the number of the rule, and where it is broken; out of memory has no line
abbrev pub unfit_text : UnitFault → List ℕ
unfit_text fault = unfit_line fault (rule_number fault)

-- ---- of texts that spell no unit

abbrev pub rule_word : TextRule → List ℕ
rule_word Missing = codes "Missing"
rule_word Unknown = codes "Unknown"
rule_word Kind = codes "Kind"
rule_word Float = codes "Float"
rule_word Range = codes "Range"
rule_word Name = codes "Name"
rule_word Twice = codes "Twice"

-- the pointer as a JSON text, and the rule
abbrev pub not_unit_text : List ℕ → TextRule → List ℕ
not_unit_text pointer rule = words_text (codes "NotUnit") (quoted pointer) (rule_word rule)
