-- The value of the solver's work list.
use Rattle.alias_flow.specs.declared.work_list.WorkList.{WorkList as Fields}
use Rattle.alias_flow.specs.WorkLists.{WorkList}

abbrev pub work_list_of : {S : Type 0} → Fields S → WorkList S
work_list_of w = record { visits = w.visits.items; joined_input = w.joined_input.items; dirty = w.dirty.items }
