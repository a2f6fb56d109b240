use Rattle.line_names.proofs.Lines.{areas_next}
use Rattle.line_names.proofs.naming.add_areas.Goals as goal

pub loop-area-preserved : goal.loop-area-preserved
loop-area-preserved c = areas_next c.args.lines.now c.loop-area.lines c.add_area.new.lines c.args.areas.now c.loop-area.area-index c.area-item.result c.loop-area-test.true c.area-item.is c.loop-area.invariant c.in_ok-add_area.ensures
