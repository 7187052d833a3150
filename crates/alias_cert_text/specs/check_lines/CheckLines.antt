-- The lines that `check` prints.
use Rattle.std.specs.Prelude.{ℕ, List, [], ◌++◌, codes, Option}
use Rattle.std.specs.Fmt.{decimal}
use Rattle.alias_base.specs.declared.ids.BlockId.{BlockId}
use Rattle.alias_base.specs.declared.ids.FunctionId.{FunctionId}
use Rattle.alias_hir.specs.declared.error.Counter.{Counter}
use Rattle.alias_text.specs.Lines.{spaced}
use Rattle.alias_text.specs.Refusals.{counter_word, last_word, spaced_function}
use Rattle.alias_certificate.specs.declared.fault.CheckFault.{CheckFault}
use Rattle.alias_certificate.specs.declared.fault.CheckFault.TheVariants.{Functions, Blocks, State, Temporaries}
use Rattle.alias_certificate.specs.declared.fault.CheckFault.TheVariants.{Initial, Step, MissingTemporary, Effects}
use Rattle.alias_certificate.specs.declared.fault.CheckFault.TheVariants.{NotBelow, NotJoin, Summary, TooMany, Memory}

-- the number of the fault, and then the function and the block where it is
abbrev pub head_text : ℕ → List ℕ
head_text n = codes "refused Rejected " ++ decimal n

abbrev pub function_head_text : ℕ → Option FunctionId → List ℕ
function_head_text n f = head_text n ++ spaced_function f

abbrev pub block_head_text : ℕ → Option FunctionId → BlockId → List ℕ
block_head_text n f b = function_head_text n f ++ spaced b.0

-- whole lines
abbrev pub in_function_text : ℕ → Option FunctionId → List ℕ
in_function_text n f = function_head_text n f ++ codes "\n"

abbrev pub at_block_text : ℕ → Option FunctionId → BlockId → List ℕ
at_block_text n f b = block_head_text n f b ++ codes "\n"

abbrev pub at_edge_text : ℕ → Option FunctionId → BlockId → BlockId → List ℕ
at_edge_text n f b successor = block_head_text n f b ++ spaced successor.0 ++ codes "\n"

abbrev pub at_position_text : ℕ → ℕ → List ℕ
at_position_text n k = head_text n ++ spaced k ++ codes "\n"

abbrev pub at_counter_text : ℕ → Counter → List ℕ
at_counter_text n which = head_text n ++ last_word (counter_word which)

-- the number of the fault, and where it is, in the order of its fields; of a refused step the cause is left out, and
-- out of memory has no line
abbrev pub rejected_text : CheckFault → List ℕ
rejected_text (Functions position) = at_position_text 1 position
rejected_text (Blocks f) = in_function_text 2 f
rejected_text (State f b) = at_block_text 3 f b
rejected_text (Temporaries f) = in_function_text 4 f
rejected_text (Initial f) = in_function_text 5 f
rejected_text (Step f b cause) = at_block_text 6 f b
rejected_text (MissingTemporary f b) = at_block_text 7 f b
rejected_text (Effects f b) = at_block_text 8 f b
rejected_text (NotBelow f b successor) = at_edge_text 9 f b successor
rejected_text (NotJoin f b) = at_block_text 10 f b
rejected_text (Summary f) = in_function_text 11 f
rejected_text (TooMany which) = at_counter_text 12 which
rejected_text (Memory e) = []

-- how many functions the certificate has
abbrev pub accepted_text : ℕ → List ℕ
accepted_text n = codes "accepted" ++ spaced n ++ codes "\n"
