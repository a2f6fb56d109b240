use Rattle.lunit.proofs.Cells.{overlap_has, has_overlap}
use Rattle.lunit.proofs.laws.overlap_is_a_cell.Goals as goal

pub returns : goal.returns
returns c = (overlap_has c.args.a c.args.b, has_overlap c.args.a c.args.b)
