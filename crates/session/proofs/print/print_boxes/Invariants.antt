use Rattle.std.proofs.Common.{◌≡◌, ◌++◌, drop}
use Rattle.session.specs.Printing.{box_lines, print}
use Rattle.session.proofs.print.print_boxes.Given as goal

abbrev pub invariant-loop-name : goal.invariant-loop-name
invariant-loop-name l = l.out.text.items ++ box_lines (drop l.name-index l.boxes) ≡ print l.k l.boxes
