use Rattle.std.proofs.Common.{◌∙◌}
use Rattle.line_names.proofs.Edges.{part_next}
use Rattle.line_names.proofs.cutting.cut_parts.Goals as goal

pub loop-area-preserved : goal.loop-area-preserved
loop-area-preserved c = c.in_ok-part_into.ensures ∙ part_next c.args.span c.args.out.now c.loop-area.out c.args.areas.now c.loop-area.area-index c.area-item.result c.loop-area-test.true c.area-item.is c.loop-area.invariant
