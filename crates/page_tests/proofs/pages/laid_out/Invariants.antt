use Rattle.page_tests.proofs.pages.laid_out.Given as goal

abbrev pub ghosts-lay_out : goal.ghosts-lay_out
ghosts-lay_out a = record { name = a.blank.name; parts = a.blank.parts }
