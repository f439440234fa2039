use Rattle.gv_tests.proofs.session.reported.Given as goal

abbrev pub ghosts-report_counted : goal.ghosts-report_counted
ghosts-report_counted a = record { name = a.blank.name; parts = a.blank.parts }
