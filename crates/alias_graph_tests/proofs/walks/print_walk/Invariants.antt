use Rattle.alias_graph_tests.proofs.walks.print_walk.Given as goal

abbrev pub ghosts-walked : goal.ghosts-walked
ghosts-walked g a = record { name = a.blank.name; parts = a.blank.parts }
