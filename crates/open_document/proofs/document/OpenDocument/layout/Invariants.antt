use Rattle.open_document.proofs.document.OpenDocument.layout.Given as goal

abbrev pub ghosts-layout_by : goal.ghosts-layout_by
ghosts-layout_by a = record { name = a.blank.name; parts = a.blank.parts }
