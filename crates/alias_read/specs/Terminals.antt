-- The ends of blocks that JSON data spell.
use Rattle.std.specs.Prelude.{ℕ, List, [], ◌∷◌, None, Ok, codes}
use Rattle.alias_base.specs.Answer.{◌>>=◌}
use Rattle.alias_base.specs.declared.ids.BlockId.{BlockId}
use Rattle.alias_base.specs.declared.ids.EvaluationOrder.{EvaluationOrder}
use Rattle.alias_hir.specs.declared.place.Place.{Place}
use Rattle.alias_hir.specs.declared.terminal.SwitchCase.{SwitchCase}
use Rattle.alias_hir.specs.declared.terminal.Terminal.{Terminal}
use Rattle.alias_hir.specs.declared.terminal.Terminal.TheVariants as terminal
use Rattle.alias_json.specs.Reading.{Reads, number_at, object_at, known_keys}
use Rattle.alias_read.specs.Json.{required, optional, list_of}
use Rattle.alias_read.specs.Entries.{block_id_at}
use Rattle.alias_json.specs.Names.{named_at}
use Rattle.alias_read.specs.Places.{place_at}
use Rattle.alias_read.specs.TerminalKinds.{terminal_names}
use Rattle.alias_read.specs.declared.terminal_kinds.JumpKind.{JumpKind}
use Rattle.alias_read.specs.declared.terminal_kinds.JumpKind.TheVariants as jump
use Rattle.alias_read.specs.declared.terminal_kinds.BranchKind.{BranchKind}
use Rattle.alias_read.specs.declared.terminal_kinds.BranchKind.TheVariants as branch
use Rattle.alias_read.specs.declared.terminal_kinds.ExitKind.{ExitKind}
use Rattle.alias_read.specs.declared.terminal_kinds.ExitKind.TheVariants as exit
use Rattle.alias_read.specs.declared.terminal_kinds.TerminalKind.{TerminalKind}
use Rattle.alias_read.specs.declared.terminal_kinds.TerminalKind.TheVariants.{Jump, Branch, Exit, Switch, Unreachable}
use Rattle.alias_read.specs.declared.terminal_kinds.TerminalKind.TheVariants.{Try, MaybeThrow}

abbrev pub order_at : Reads EvaluationOrder
order_at p d = number_at p d >>= (λ n. Ok (record { 0 = n }))

-- ---- terminals whose only field is the block that control goes on to

-- the key of the block
abbrev pub jump_key : JumpKind → List ℕ
jump_key jump.Goto = codes "block"
jump_key jump.For = codes "init"
jump_key jump.ForOf = codes "init"
jump_key jump.ForIn = codes "init"
jump_key jump.DoWhile = codes "loop_block"
jump_key jump.While = codes "test"
jump_key jump.Logical = codes "test"
jump_key jump.Ternary = codes "test"
jump_key jump.Optional = codes "test"
jump_key jump.Label = codes "block"
jump_key jump.Sequence = codes "block"
jump_key jump.Scope = codes "block"
jump_key jump.PrunedScope = codes "block"

abbrev pub jump_with : JumpKind → EvaluationOrder → BlockId → Terminal
jump_with jump.Goto id b = terminal.Goto id b
jump_with jump.For id b = terminal.For id b
jump_with jump.ForOf id b = terminal.ForOf id b
jump_with jump.ForIn id b = terminal.ForIn id b
jump_with jump.DoWhile id b = terminal.DoWhile id b
jump_with jump.While id b = terminal.While id b
jump_with jump.Logical id b = terminal.Logical id b
jump_with jump.Ternary id b = terminal.Ternary id b
jump_with jump.Optional id b = terminal.Optional id b
jump_with jump.Label id b = terminal.Label id b
jump_with jump.Sequence id b = terminal.Sequence id b
jump_with jump.Scope id b = terminal.Scope id b
jump_with jump.PrunedScope id b = terminal.PrunedScope id b

abbrev pub jump_at : JumpKind → EvaluationOrder → Reads Terminal
jump_at kind id p d = do
  block ← required block_id_at p (jump_key kind) d
  _ ← known_keys (codes "kind" ∷ codes "id" ∷ jump_key kind ∷ []) p d
  Ok (jump_with kind id block)

-- ---- terminals that test a place, or hand one out

abbrev pub branch_with : BranchKind → EvaluationOrder → Place → BlockId → BlockId → Terminal
branch_with branch.If id test consequent alternate = terminal.If id test consequent alternate
branch_with branch.Branch id test consequent alternate = terminal.Branch id test consequent alternate

abbrev pub branch_at : BranchKind → EvaluationOrder → Reads Terminal
branch_at kind id p d = do
  test ← required place_at p (codes "test") d
  consequent ← required block_id_at p (codes "consequent") d
  alternate ← required block_id_at p (codes "alternate") d
  _ ← known_keys (codes "kind" ∷ codes "id" ∷ codes "test" ∷ codes "consequent" ∷ codes "alternate" ∷ []) p d
  Ok (branch_with kind id test consequent alternate)

-- a case without a test is the default
abbrev pub case_at : Reads SwitchCase
case_at p d = do
  _ ← object_at p d
  test ← optional place_at p (codes "test") d
  block ← required block_id_at p (codes "block") d
  _ ← known_keys (codes "test" ∷ codes "block" ∷ []) p d
  Ok (record { test = test; block = block })

abbrev pub switch_at : EvaluationOrder → Reads Terminal
switch_at id p d = do
  test ← required place_at p (codes "test") d
  cases ← list_of case_at p (codes "cases") d
  _ ← known_keys (codes "kind" ∷ codes "id" ∷ codes "test" ∷ codes "cases" ∷ []) p d
  Ok (terminal.Switch id test cases)

abbrev pub exit_with : ExitKind → EvaluationOrder → Place → Terminal
exit_with exit.Return id value = terminal.Return id value None
exit_with exit.Throw id value = terminal.Throw id value

abbrev pub exit_at : ExitKind → EvaluationOrder → Reads Terminal
exit_at kind id p d = do
  place ← required place_at p (codes "value") d
  _ ← known_keys (codes "kind" ∷ codes "id" ∷ codes "value" ∷ []) p d
  Ok (exit_with kind id place)

abbrev pub unreachable_at : EvaluationOrder → Reads Terminal
unreachable_at id p d = do
  _ ← known_keys (codes "kind" ∷ codes "id" ∷ []) p d
  Ok (terminal.Unreachable id)

-- ---- terminals with a handler

abbrev pub try_at : EvaluationOrder → Reads Terminal
try_at id p d = do
  block ← required block_id_at p (codes "block") d
  handler ← required block_id_at p (codes "handler") d
  binding ← optional place_at p (codes "handler_binding") d
  _ ← known_keys (codes "kind" ∷ codes "id" ∷ codes "block" ∷ codes "handler" ∷ codes "handler_binding" ∷ []) p d
  Ok (terminal.Try id block handler binding)

abbrev pub maybe_throw_at : EvaluationOrder → Reads Terminal
maybe_throw_at id p d = do
  continuation ← required block_id_at p (codes "continuation") d
  handler ← optional block_id_at p (codes "handler") d
  _ ← known_keys (codes "kind" ∷ codes "id" ∷ codes "continuation" ∷ codes "handler" ∷ []) p d
  Ok (terminal.MaybeThrow id continuation handler None)

-- ---- any terminal

abbrev pub terminal_of_kind : TerminalKind → EvaluationOrder → Reads Terminal
terminal_of_kind (Jump kind) id p d = jump_at kind id p d
terminal_of_kind (Branch kind) id p d = branch_at kind id p d
terminal_of_kind (Exit kind) id p d = exit_at kind id p d
terminal_of_kind Switch id p d = switch_at id p d
terminal_of_kind Unreachable id p d = unreachable_at id p d
terminal_of_kind Try id p d = try_at id p d
terminal_of_kind MaybeThrow id p d = maybe_throw_at id p d

abbrev pub terminal_at : Reads Terminal
terminal_at p d = do
  _ ← object_at p d
  kind ← required (named_at terminal_names) p (codes "kind") d
  id ← required order_at p (codes "id") d
  terminal_of_kind kind id p d
