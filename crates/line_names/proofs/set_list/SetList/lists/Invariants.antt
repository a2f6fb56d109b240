use Rattle.line_names.specs.SetLists.{AreLists}
use Rattle.line_names.proofs.set_list.SetList.lists.Given as goal

-- the lines before this one are in the lists
abbrev pub invariant-loop-at : goal.invariant-loop-at
invariant-loop-at l = AreLists l.self l.at l.lists
