-- Instructions and terminals whose places are changed, each in one way.
use Rattle.std.specs.Prelude.{map}
use Rattle.alias_hir.specs.Terminals.{terminal_places}
use Rattle.alias_hir.specs.declared.place.Place.{Place}
use Rattle.alias_hir.specs.declared.terminal.Terminal.{Terminal}
use Rattle.alias_hir.specs.declared.value.InstructionValue.{InstructionValue}
use Rattle.alias_visit.specs.Operands.{owned_operands, lvalues_of}
use Rattle.alias_visit.specs.Rebuilt.{with_operands, with_lvalues, with_terminal_places}

-- the operands that stand in the instruction itself
abbrev pub map_operands : (Place → Place) → InstructionValue → InstructionValue
map_operands f v = with_operands v (map f (owned_operands v))

-- the places that the value assigns
abbrev pub map_lvalues : (Place → Place) → InstructionValue → InstructionValue
map_lvalues f v = with_lvalues v (map f (lvalues_of v))

abbrev pub map_terminal : (Place → Place) → Terminal → Terminal
map_terminal f t = with_terminal_places t (map f (terminal_places t))
