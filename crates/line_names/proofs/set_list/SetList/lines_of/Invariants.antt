use Rattle.std.proofs.Common.{◌≡◌, pos}
use Rattle.line_names.specs.LineLists.{listed}
use Rattle.line_names.specs.Passing.{passing}
use Rattle.line_names.specs.SetLists.{is_of}
use Rattle.line_names.proofs.set_list.SetList.lines_of.Given as goal

-- the lines before this one
abbrev pub invariant-loop-at : goal.invariant-loop-at
invariant-loop-at l = l.lines ≡ passing (is_of (listed l.kinds) l.self.kinds) (pos 0) l.at
