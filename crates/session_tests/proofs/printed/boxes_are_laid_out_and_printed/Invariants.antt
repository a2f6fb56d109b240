use Rattle.session_tests.proofs.printed.boxes_are_laid_out_and_printed.Given as goal

abbrev pub ghosts-printed : goal.ghosts-printed
ghosts-printed g a = record { name = a.blank.name; parts = a.blank.parts }
