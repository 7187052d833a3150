use Rattle.alias_lint.proofs.lines.walks.push_mutation.Given as goal

abbrev pub ghosts-walk_counted : goal.ghosts-walk_counted
ghosts-walk_counted a = record { name = a.blank.name; parts = a.blank.parts }
