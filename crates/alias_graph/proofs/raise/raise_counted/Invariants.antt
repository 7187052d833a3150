use Rattle.alias_graph.proofs.raise.raise_counted.Given as goal

abbrev pub ghosts-raise_all : goal.ghosts-raise_all
ghosts-raise_all a = record { name = a.blank.name; parts = a.blank.parts }
