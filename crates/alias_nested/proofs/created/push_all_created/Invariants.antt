use Rattle.std.proofs.Common.{◌≡◌, ◌++◌, take}
use Rattle.alias_nested.specs.Created.{created_by_all}
use Rattle.alias_nested.proofs.created.push_all_created.Given as goal

-- what the instructions so far create was appended
abbrev pub invariant-loop-id : goal.invariant-loop-id
invariant-loop-id l = l.found ≡ l.initial.found ++ created_by_all l.func (take l.id-index l.ids)
