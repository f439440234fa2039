use Rattle.gv_probe.proofs.lower.answer.Given as goal

abbrev pub ghosts-over_steps : goal.ghosts-over_steps
ghosts-over_steps a = record { name = a.blank.name; parts = a.blank.parts }
