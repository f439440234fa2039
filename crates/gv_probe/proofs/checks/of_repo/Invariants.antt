use Rattle.gv_probe.proofs.checks.of_repo.Given as goal

abbrev pub ghosts-over : goal.ghosts-over
ghosts-over a = record { name = a.blank.name; parts = a.blank.parts }
