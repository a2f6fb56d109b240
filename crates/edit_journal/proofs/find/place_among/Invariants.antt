use Rattle.std.proofs.Common.{◌≡◌}
use Rattle.doc_text.specs.View.{trees_of}
use Rattle.edit_journal.specs.Steps.{place_in}
use Rattle.edit_journal.proofs.Found.{place_from}
use Rattle.edit_journal.proofs.find.place_among.Given as goal

-- the place among those that are left, after those before them, is the place among all
abbrev pub invariant-loop-index : goal.invariant-loop-index
invariant-loop-index l = place_from l.name l.nodes l.index ≡ place_in l.name (trees_of l.nodes)
