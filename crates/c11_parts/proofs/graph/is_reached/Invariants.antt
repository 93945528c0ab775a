use Rattle.c11_parts.proofs.graph.is_reached.Given as goal

abbrev pub ghosts-reached_by_steps : goal.ghosts-reached_by_steps
ghosts-reached_by_steps a = record { name = a.blank.name; parts = a.blank.parts }
