use Rattle.session_tests.proofs.running.run_logged.Given as goal

abbrev pub ghosts-run_on : goal.ghosts-run_on
ghosts-run_on a = record { name = a.blank.name; parts = a.blank.parts }
