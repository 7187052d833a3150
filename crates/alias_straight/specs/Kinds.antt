-- Instructions and terminals that are taken off the tokens behind their kind.
use Rattle.std.specs.Prelude.{ℕ, List, [], ◌∷◌, Option, Some, codes}
use Rattle.json.specs.Token.{Token}
use Rattle.serde_json.specs.Data.{Data}
use Rattle.alias_hir.specs.declared.value.InstructionValue.{InstructionValue}
use Rattle.alias_json.specs.Names.{named_at}
use Rattle.alias_read.specs.ValueKinds.{instruction_value_names}
use Rattle.alias_read.specs.Values.{instruction_value_at}
use Rattle.alias_read.specs.declared.value_kinds.InstructionValueKind.{InstructionValueKind}
use Rattle.alias_base.specs.declared.ids.EvaluationOrder.{EvaluationOrder}
use Rattle.alias_hir.specs.declared.terminal.Terminal.{Terminal}
use Rattle.alias_read.specs.TerminalKinds.{terminal_names}
use Rattle.alias_read.specs.Terminals.{order_at, terminal_at}
use Rattle.alias_read.specs.declared.terminal_kinds.TerminalKind.{TerminalKind}
use Rattle.alias_straight.specs.Takes.{Takes}
use Rattle.alias_straight.specs.Members.{Opens, IsRead}

-- an object of which the kind has been read goes on with the rest of the instruction
pub record TakesKind (kind : InstructionValueKind) (depth : ℕ) (ts : List Token) (v : InstructionValue)
    (rest : List Token) : Type 0 where
  pub takes : (start : List Token) (tree : Option Data) → IsRead (named_at instruction_value_names) (Some kind) tree
      → Opens depth start ((codes "kind", tree) ∷ []) ts → Takes instruction_value_at depth start v rest

-- an object of which the kind and the id have been read goes on with the rest of the terminal
pub record TakesTerminal (kind : TerminalKind) (id : EvaluationOrder) (depth : ℕ) (ts : List Token) (t : Terminal)
    (rest : List Token) : Type 0 where
  pub takes : (start : List Token) (a b : Option Data) → IsRead (named_at terminal_names) (Some kind) a
      → IsRead order_at (Some id) b → Opens depth start ((codes "id", b) ∷ (codes "kind", a) ∷ []) ts
      → Takes terminal_at depth start t rest
