use Rattle.gv_tests.proofs.base.counts_take_no_bytes_and_faults_have_texts.Given as goal

abbrev pub ghosts-counted : goal.ghosts-counted
ghosts-counted g a = record { name = a.blank.name; parts = a.blank.parts }
