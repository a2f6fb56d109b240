use Rattle.part_tests.proofs.tracks.tracks_are_sized_by_their_items.Given as goal

abbrev pub ghosts-all_are_right : goal.ghosts-all_are_right
ghosts-all_are_right g a = record { name = a.blank.name; parts = a.blank.parts }
