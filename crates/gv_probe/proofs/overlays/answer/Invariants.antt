use Rattle.gv_probe.proofs.overlays.answer.Given as goal

abbrev pub ghosts-own : goal.ghosts-own
ghosts-own a = record { name = a.blank.name; parts = a.blank.parts }
