-- The names of the kinds of terminals.
use Rattle.std.specs.Prelude.{ℕ, List, [], ◌∷◌, codes}
use Rattle.alias_read.specs.declared.terminal_kinds.JumpKind.TheVariants as jump
use Rattle.alias_read.specs.declared.terminal_kinds.BranchKind.TheVariants as branch
use Rattle.alias_read.specs.declared.terminal_kinds.ExitKind.TheVariants as exit
use Rattle.alias_read.specs.declared.terminal_kinds.TerminalKind.{TerminalKind}
use Rattle.alias_read.specs.declared.terminal_kinds.TerminalKind.TheVariants.{Jump, Branch, Exit, Switch, Unreachable}
use Rattle.alias_read.specs.declared.terminal_kinds.TerminalKind.TheVariants.{Try, MaybeThrow}

unfoldable pub terminal_names : List (List ℕ × TerminalKind)
terminal_names =
    (codes "Goto", Jump jump.Goto) ∷
    (codes "If", Branch branch.If) ∷
    (codes "Branch", Branch branch.Branch) ∷
    (codes "Switch", Switch) ∷
    (codes "For", Jump jump.For) ∷
    (codes "ForOf", Jump jump.ForOf) ∷
    (codes "ForIn", Jump jump.ForIn) ∷
    (codes "DoWhile", Jump jump.DoWhile) ∷
    (codes "While", Jump jump.While) ∷
    (codes "Logical", Jump jump.Logical) ∷
    (codes "Ternary", Jump jump.Ternary) ∷
    (codes "Optional", Jump jump.Optional) ∷
    (codes "Return", Exit exit.Return) ∷
    (codes "Throw", Exit exit.Throw) ∷
    (codes "Unreachable", Unreachable) ∷
    (codes "Try", Try) ∷
    (codes "MaybeThrow", MaybeThrow) ∷
    (codes "Label", Jump jump.Label) ∷
    (codes "Sequence", Jump jump.Sequence) ∷
    (codes "Scope", Jump jump.Scope) ∷
    (codes "PrunedScope", Jump jump.PrunedScope) ∷
    []
